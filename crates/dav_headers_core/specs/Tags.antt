-- Entity tags, by their spelling (RFC 9110 section 8.8.3).
use Rattle.std.specs.Prelude.{◌≡◌, ◌≢◌, ℕ, Bool, true, false, not, ◌==◌, ◌&&◌, bytes_eq, if◌then◌else◌, List, [], ◌∷◌, ◌++◌, codes, length, slice_index, Option}
use Rattle.std.specs.List.{AllByRecursion, list_any}
use Rattle.http_header.specs.FieldValue.{FieldValue}
use Rattle.dav_headers_core.specs.Optional.{◌>>=◌, when}
use Rattle.dav_headers_core.specs.Values.{one_text, text_of}

-- `b'"'`
abbrev pub quote : ℕ
quote = 34

-- how a weak tag begins
abbrev pub mark : Bool → List ℕ
mark true = codes "W/"
mark false = []

-- a tag with this text between its quotes
abbrev pub spelled_tag : Bool → List ℕ → List ℕ
spelled_tag weak opaque_tag = mark weak ++ (quote ∷ opaque_tag ++ quote ∷ [])

-- the spelling of a tag: `W/` or nothing, a quote, bytes but quotes, a quote
pub record IsTag (text : List ℕ) : Type 0 where
  pub weak : Bool
  pub opaque_tag : List ℕ
  pub no_quote : AllByRecursion (λ b. b ≢ quote) opaque_tag
  pub parts : text ≡ spelled_tag weak opaque_tag

-- ---- the same as a test

-- the first quote is the last byte
abbrev pub ends_in_quote : List ℕ → Bool
ends_in_quote [] = false
ends_in_quote (b ∷ bytes) = if b == quote then length bytes == 0 else ends_in_quote bytes

abbrev pub is_quoted : List ℕ → Bool
is_quoted [] = false
is_quoted (b ∷ bytes) = b == quote && ends_in_quote bytes

abbrev pub is_tag : List ℕ → Bool
is_tag [] = false
is_tag (b ∷ []) = false
is_tag (b ∷ c ∷ bytes) = if b == 87 && c == 47 then is_quoted bytes else is_quoted (b ∷ c ∷ bytes)

-- ---- what texts and values say

-- the tag that the text spells
abbrev pub tag_in : List ℕ → Option (List ℕ)
tag_in text = when (is_tag text) text

-- the tag with this text between its quotes
abbrev pub new_tag : Bool → List ℕ → Option (List ℕ)
new_tag weak text = when (not (list_any (λ b. b == quote) text)) (spelled_tag weak text)

-- the tag of one value
abbrev pub tag_of_value : FieldValue → Option (List ℕ)
tag_of_value value = text_of value.bytes >>= tag_in

-- the tag of the one text
abbrev pub tag_header : List FieldValue → Option (List ℕ)
tag_header values = one_text values >>= tag_in

-- a spelling begins with `W` exactly where its tag is weak
abbrev pub is_weak : List ℕ → Bool
is_weak tag = slice_index tag 0 == 87

-- neither is weak, and the spellings are equal (RFC 9110 section 8.8.3.2)
abbrev pub strong_eq : List ℕ → List ℕ → Bool
strong_eq a b = not (is_weak a) && not (is_weak b) && bytes_eq a b
