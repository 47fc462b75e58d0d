-- The values of a header's lines, and the value that a text is written as (RFC 9110 section 5.5).
use Rattle.std.specs.Prelude.{ℕ, Bool, ◌==◌, ◌&&◌, ◌||◌, not, nat_lt, nat_le, List, [], ◌∷◌, Option, None, Some}
use Rattle.std.specs.List.{list_all, list_any}
use Rattle.http_header.specs.FieldValue.{FieldValue, plain_value}
use Rattle.dav_headers_core.specs.Optional.{◌>>=◌, when, every}

-- the bytes of the one value
abbrev pub one_value : List FieldValue → Option (List ℕ)
one_value [] = None
one_value (value ∷ []) = Some value.bytes
one_value (value ∷ other ∷ more) = None

-- a byte of a text: 32 to 126, or a tab
abbrev pub is_text_byte : ℕ → Bool
is_text_byte b = b == 9 || (nat_le 32 b && nat_lt b 127)

-- the bytes as a text, where they are one
abbrev pub text_of : List ℕ → Option (List ℕ)
text_of bytes = when (list_all is_text_byte bytes) bytes

-- the text of the one value
abbrev pub one_text : List FieldValue → Option (List ℕ)
one_text values = one_value values >>= text_of

-- whether each of them is a text
abbrev pub are_texts : List (List ℕ) → Bool
are_texts list = list_all (λ bytes. list_all is_text_byte bytes) list

-- the texts of one or more values
abbrev pub texts_of : List FieldValue → Option (List (List ℕ))
texts_of [] = None
texts_of (value ∷ values) = every (λ v. text_of v.bytes) (value ∷ values)

-- a byte that no value may hold: below 32 but the tab, or 127
abbrev pub is_control : ℕ → Bool
is_control b = (nat_lt b 32 && not (b == 9)) || b == 127

-- the value that a text is written as
abbrev pub value_of_text : List ℕ → Option FieldValue
value_of_text text = when (not (list_any is_control text)) (plain_value text)
