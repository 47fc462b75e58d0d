-- The declaration at the front (XML 1.0 section 2.8).
use Rattle.std.specs.Prelude.{ℕ, ◌==◌, ◌&&◌, ◌||◌, Bool, false, bytes_eq, List, [], ◌∷◌, codes, Option, Some}
use Rattle.std.specs.List.{list_all}
use Rattle.dav_xml_core.specs.Characters.{between, is_white}
use Rattle.dav_xml_core.specs.Markup.{RawAttribute, attribute_at}
use Rattle.dav_xml_core.specs.Optional.{◌>>=◌, when, choose}
use Rattle.dav_xml_core.specs.Scanning.{begins, skip_white, after_mark, is_nil}
use Rattle.dav_xml_core.specs.Sequences.{sequence}

abbrev pub is_digit : ℕ → Bool
is_digit c = between 48 57 c

-- [26] VersionNum
unfoldable pub is_version : List ℕ → Bool
is_version (a ∷ b ∷ c ∷ digits) = a == 49 && b == 46 && is_digit c && list_all is_digit digits
is_version _ = false

abbrev pub is_called : List ℕ → RawAttribute → Bool
is_called name field = is_nil field.name.prefix && bytes_eq field.name.local name

-- [24] VersionInfo
unfoldable pub is_version_info : RawAttribute → Bool
is_version_info field = is_called (codes "version") field && is_version field.raw

-- `utf-8` in any case of letters
abbrev pub is_utf8_name : List ℕ → Bool
is_utf8_name (u ∷ t ∷ f ∷ a ∷ b ∷ []) = (u == 117 || u == 85) && (t == 116 || t == 84) && (f == 102 || f == 70) && a == 45 && b == 56
is_utf8_name _ = false

abbrev pub is_yes_or_no : List ℕ → Bool
is_yes_or_no text = bytes_eq text (codes "yes") || bytes_eq text (codes "no")

-- [80] EncodingDecl, of UTF-8
unfoldable pub is_utf8_declaration : RawAttribute → Bool
is_utf8_declaration field = is_called (codes "encoding") field && is_utf8_name field.raw

-- [32] SDDecl
unfoldable pub is_standalone : RawAttribute → Bool
is_standalone field = is_called (codes "standalone") field && is_yes_or_no field.raw

-- [23] XMLDecl: the fields in their order
unfoldable pub are_fields : List RawAttribute → Bool
are_fields (a ∷ []) = is_version_info a
are_fields (a ∷ b ∷ []) = is_version_info a && (is_utf8_declaration b || is_standalone b)
are_fields (a ∷ b ∷ c ∷ []) = is_version_info a && is_utf8_declaration b && is_standalone c
are_fields _ = false

-- the fields of a declaration, behind `<?xml`, and what follows it
unfoldable pub fields_at : List ℕ → Option (List RawAttribute × List ℕ)
fields_at text = sequence (λ rest. after_mark (codes "?>") (skip_white rest)) attribute_at text

-- what follows `<?xml` at the front of a text that has a declaration
unfoldable pub declaration_at : List ℕ → Option (List ℕ)
declaration_at text = after_mark (codes "<?xml") text >>= λ rest. when (begins is_white rest) rest

-- [22] what follows the declaration, where there is one
unfoldable pub after_declaration : List ℕ → Option (List ℕ)
after_declaration text =
    choose (declaration_at text)
    (λ rest. fields_at rest >>= λ found. when (are_fields found.0) found.1)
    (Some text)
