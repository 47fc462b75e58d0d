-- What stands behind a word whose letters may have any case (RFC 5234 section 2.3).
use Rattle.std.specs.Prelude.{ℕ, ◌+◌, ◌==◌, List, take, drop, Option}
use Rattle.std.specs.List.{position}
use Rattle.std.specs.Str.{str_eq_ignore_ascii_case}
use Rattle.dav_headers_core.specs.Optional.{◌>>=◌, when}

-- what stands behind the first mark, where the word stands before it, in any case of letters
abbrev pub behind_word : List ℕ → ℕ → List ℕ → Option (List ℕ)
behind_word word mark text =
    position (λ b. b == mark) text
    >>= λ i. when (str_eq_ignore_ascii_case (take i text) word) (drop (i + 1) text)
