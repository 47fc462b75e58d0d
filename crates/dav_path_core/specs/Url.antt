-- The URL spelling of a path (RFC 3986 sections 2.1 and 2.3).
use Rattle.std.specs.Prelude.{ℕ, Bool, ◌||◌, ◌==◌, List, [], ◌∷◌, if◌then◌else◌}
use Rattle.std.specs.Char.{is_ascii_alphanumeric}
use Rattle.std.specs.List.{flat_map}
use Rattle.percent_encoding.specs.Percent.{percent_encode_byte}

-- an ASCII letter or digit, `-`, `_`, `.`, `~` or `/`
abbrev pub is_plain : ℕ → Bool
is_plain b = is_ascii_alphanumeric b || b == 45 || b == 95 || b == 46 || b == 126 || b == 47

-- plain bytes as they are, any other as `%` and two upper-case hexadecimal digits
abbrev pub url_byte : ℕ → List ℕ
url_byte b = if is_plain b then b ∷ [] else percent_encode_byte b

unfoldable pub url : List ℕ → List ℕ
url bytes = flat_map url_byte bytes
