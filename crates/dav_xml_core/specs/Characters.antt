-- Characters (XML 1.0 section 2.2) and the ends of lines (section 2.11).
use Rattle.std.specs.Prelude.{ℕ, ◌==◌, ◌&&◌, ◌||◌, Bool, true, false, nat_le, if◌then◌else◌, List, [], ◌∷◌, chars, Option}
use Rattle.std.specs.List.{list_all}
use Rattle.std.specs.Str.{is_utf8}
use Rattle.dav_xml_core.specs.Optional.{when}

-- from low to high
abbrev pub between : ℕ → ℕ → ℕ → Bool
between low high c = nat_le low c && nat_le c high

-- [2] Char
abbrev pub is_char : ℕ → Bool
is_char c = c == 9 || c == 10 || c == 13 || between 0x20 0xD7FF c || between 0xE000 0xFFFD c || between 0x10000 0x10FFFF c

-- [3] S
abbrev pub is_white : ℕ → Bool
is_white c = c == 32 || c == 9 || c == 13 || c == 10

-- the lines with one line feed at the end of each; the flag says whether a carriage return stands right before
abbrev pub lines_from : Bool → List ℕ → List ℕ
lines_from after_return [] = []
lines_from after_return (c ∷ text) =
    if c == 13 then 10 ∷ lines_from true text else (
    if c == 10 && after_return then lines_from false text else c ∷ lines_from false text)

-- the characters of the bytes, where they are UTF-8 and each is a Char
abbrev pub characters : List ℕ → Option (List ℕ)
characters bytes = when (is_utf8 bytes && list_all is_char (chars bytes)) (lines_from false (chars bytes))
