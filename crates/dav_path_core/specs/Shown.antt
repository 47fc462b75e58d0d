-- How a path is printed (own).
use Rattle.std.specs.Prelude.{ℕ, nat_lt, if◌then◌else◌, List, [], ◌∷◌, ◌++◌, length}
use Rattle.std.specs.Str.Lossy.{utf8_lossy}
use Rattle.dav_path_core.specs.PathText.{PathText}
use Rattle.dav_path_core.specs.Trimmed.{without_last_slash}
use Rattle.dav_path_core.specs.Url.{url}

-- for users: the bytes behind the prefix without a slash at the end, what is no UTF-8 as U+FFFD
abbrev pub display_text : PathText → List ℕ
display_text path = utf8_lossy (without_last_slash path.bytes)

-- for programmers: the URL text between quotes; behind a prefix, if there is one, it stands in brackets
abbrev pub debug_text : PathText → List ℕ
debug_text path =
    34 ∷ ((if nat_lt 0 (length path.prefix) then url path.prefix ++ (91 ∷ (url path.bytes ++ 93 ∷ [])) else url path.bytes) ++ 34 ∷ [])
