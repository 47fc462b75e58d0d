-- Entity tags as HTTP's conditions list them (RFC 9110 sections 5.6.1, 8.8.3 and 13.1), over the bytes of a field value.
use Rattle.std.specs.Prelude.{ℕ, Bool, false, not, ◌==◌, ◌&&◌, ◌||◌, nat_lt, bytes_eq, if◌then◌else◌, List, [], ◌∷◌, codes, length, map}
use Rattle.std.specs.Char.{is_ascii_whitespace}
use Rattle.std.specs.List.{list_all, list_any}
use Rattle.std.specs.Option.{option_map_or}
use Rattle.http_header.specs.FieldValue.{FieldValue}
use Rattle.dav_headers_core.specs.CommaPieces.{is_comma, trimmed_by}
use Rattle.dav_headers_core.specs.Tags.{quote, is_tag, strong_eq}
use Rattle.dav_headers_core.specs.Values.{one_value}
use Rattle.dav_fields_core.specs.declared.listed_tags.Comparison.{Comparison}
use Rattle.dav_fields_core.specs.declared.listed_tags.Comparison.TheVariants.{Strong, Weak}

-- a byte that is neither blank nor control; those above 127 are visible, too
abbrev pub is_visible : ℕ → Bool
is_visible b = nat_lt 32 b && not (b == 127)

-- the spelling of a tag of visible bytes (section 8.8.3)
abbrev pub is_entity_tag : List ℕ → Bool
is_entity_tag text = is_tag text && list_all is_visible text

-- ---- elements of a list

-- without the white space at its ends; of white space a field value has spaces and tabs
abbrev pub trim : List ℕ → List ℕ
trim bytes = trimmed_by is_ascii_whitespace bytes

-- the pieces, with a byte in front of the first
abbrev pub in_first : ℕ → List (List ℕ) → List (List ℕ)
in_first b [] = (b ∷ []) ∷ []
in_first b (piece ∷ pieces) = (b ∷ piece) ∷ pieces

-- what stands between the commas that are not inside of quotes; the text may begin inside of them
abbrev pub parted_elements : Bool → List ℕ → List (List ℕ)
parted_elements inside [] = [] ∷ []
parted_elements inside (b ∷ bytes) =
    if is_comma b && not inside then [] ∷ parted_elements inside bytes
    else in_first b (parted_elements (if b == quote then not inside else inside) bytes)

-- the elements of a value; an empty one counts, too (section 5.6.1)
abbrev pub elements : List ℕ → List (List ℕ)
elements value = map trim (parted_elements false value)

-- ---- what values list

-- an element that is missing, or a tag
abbrev pub is_listed_element : List ℕ → Bool
is_listed_element element = length element == 0 || is_entity_tag element

-- each value is a list of tags
abbrev pub are_tag_lists : List FieldValue → Bool
are_tag_lists values = list_all (λ v. list_all is_listed_element (elements v.bytes)) values

-- a tag that passes the test is among them
abbrev pub list_some : (List ℕ → Bool) → List FieldValue → Bool
list_some test values = list_any (λ v. list_any test (elements v.bytes)) values

-- the one value is `*`
abbrev pub is_star : List FieldValue → Bool
is_star values = option_map_or (λ value. bytes_eq (trim value) (codes "*")) (one_value values) false

-- ---- how tags are compared

-- a tag without the mark of a weak one
abbrev pub opaque_tag : List ℕ → List ℕ
opaque_tag [] = []
opaque_tag (b ∷ []) = b ∷ []
opaque_tag (b ∷ c ∷ bytes) = if b == 87 && c == 47 then bytes else b ∷ c ∷ bytes

-- weak comparison looks at no mark, strong comparison lets no weak tag pass (section 8.8.3.2)
abbrev pub same_by : Comparison → List ℕ → List ℕ → Bool
same_by Strong tag other = strong_eq tag other
same_by Weak tag other = bytes_eq (opaque_tag tag) (opaque_tag other)
