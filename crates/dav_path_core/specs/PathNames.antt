-- What a path lends of its bytes: the name, what stands above it, and the bytes as a relative path (RFC 3986 section 3.3).
use Rattle.std.specs.Prelude.{ℕ, ◌-◌, max, if◌then◌else◌, List, [], length, take, drop, None, unwrap_or}
use Rattle.std.specs.List.{before_last, last_or, list_any}
use Rattle.dav_path_core.specs.Segments.{segments, is_slash}
use Rattle.dav_path_core.specs.PathReading.{ends_in_slash}

-- the last segment, or nothing
abbrev pub file_name : List ℕ → List ℕ
file_name bytes = unwrap_or (last_or None (segments bytes)) []

-- what stands before the last slash, but at least one byte; nothing where there is no slash
abbrev pub lent_parent : List ℕ → List ℕ
lent_parent bytes =
    if list_any is_slash bytes then take (max (length (before_last is_slash bytes)) 1) bytes else []

-- without one slash at the end
abbrev pub without_slash : List ℕ → List ℕ
without_slash bytes = if ends_in_slash bytes then take (length bytes - 1) bytes else bytes

-- without the first byte, and then without one slash at the end
abbrev pub relative : List ℕ → List ℕ
relative bytes = without_slash (drop 1 bytes)
