-- References (XML 1.0 sections 4.1 and 4.6) and the values of attributes (section 3.3.3).
use Rattle.std.specs.Prelude.{ℕ, ◌+◌, ◌-◌, ◌*◌, ◌==◌, ◌&&◌, not, Bool, true, false, nat_le, bytes_eq, if◌then◌else◌, List, [], ◌∷◌, map, codes, Option, None, Some}
use Rattle.std.specs.List.{list_any}
use Rattle.dav_xml_core.specs.Characters.{between, is_char, is_white}
use Rattle.dav_xml_core.specs.Optional.{◌>>=◌, when}
use Rattle.dav_xml_core.specs.Scanning.{Found, until}
use Rattle.dav_xml_core.specs.Sequences.{all_of}

-- [68] EntityRef, of the five names that are always declared
abbrev pub named_entity : List ℕ → Option ℕ
named_entity name =
    if bytes_eq name (codes "lt") then Some 60 else (
    if bytes_eq name (codes "gt") then Some 62 else (
    if bytes_eq name (codes "amp") then Some 38 else (
    if bytes_eq name (codes "apos") then Some 39 else (
    if bytes_eq name (codes "quot") then Some 34 else None))))

-- a digit of base 16 or 10
abbrev pub digit_of : Bool → ℕ → Option ℕ
digit_of hex c =
    if between 48 57 c then Some (c - 48) else (
    if hex && between 97 102 c then Some (c - 87) else (
    if hex && between 65 70 c then Some (c - 55) else None))

abbrev pub radix_of : Bool → ℕ
radix_of hex = if hex then 16 else 10

-- the number that the digits continue, up to the last code of a character
abbrev pub number_from : Bool → ℕ → List ℕ → Option ℕ
number_from hex n [] = Some n
number_from hex n (c ∷ digits) =
    digit_of hex c >>= λ d. when (nat_le (n * radix_of hex + d) 0x10FFFF) (n * radix_of hex + d) >>= λ m. number_from hex m digits

-- one digit or more
abbrev pub character_number : Bool → List ℕ → Option ℕ
character_number hex [] = None
character_number hex (c ∷ digits) = number_from hex 0 (c ∷ digits)

-- the digits of a character reference, behind `#`
abbrev pub digits_of : List ℕ → Option ℕ
digits_of [] = None
digits_of (c ∷ digits) = if c == 120 then character_number true digits else character_number false (c ∷ digits)

-- [67] Reference, between `&` and `;`: the character that it stands for
unfoldable pub referenced_character : List ℕ → Option ℕ
referenced_character [] = None
referenced_character (c ∷ name) =
    if c == 35 then (digits_of name >>= λ n. when (is_char n) n) else named_entity (c ∷ name)

-- a reference or a character
unfoldable pub expanded_at : List ℕ → Found ℕ
expanded_at [] = None
expanded_at (c ∷ text) =
    if c == 38 then (until (59 ∷ []) text >>= λ name. referenced_character name.0 >>= λ r. Some (r, name.1)) else Some (c, text)

-- the text with each reference replaced
abbrev pub expanded_text : List ℕ → Option (List ℕ)
expanded_text text = all_of expanded_at text

-- white space in a value counts as blanks
abbrev pub as_blank : ℕ → ℕ
as_blank c = if is_white c then 32 else c

-- [10] AttValue, between the quotes: no `<`, and what its text stands for
abbrev pub value_of : List ℕ → Option (List ℕ)
value_of raw = when (not (list_any (λ c. c == 60) raw)) (map as_blank raw) >>= expanded_text
