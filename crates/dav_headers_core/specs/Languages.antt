-- `Content-Language` (RFC 9110 section 8.5), its tags looked at by length and first dash alone.
use Rattle.std.specs.Prelude.{ℕ, Bool, ◌==◌, ◌&&◌, ◌||◌, nat_lt, List, [], ◌∷◌, length, slice_index, Option, None, Some}
use Rattle.std.specs.List.{flat_map}
use Rattle.http_header.specs.FieldValue.{FieldValue}
use Rattle.dav_headers_core.specs.Optional.{◌>>=◌, when, every}
use Rattle.dav_headers_core.specs.Values.{text_of}
use Rattle.dav_headers_core.specs.CommaPieces.{comma_pieces}

-- two bytes, or more than four of which the third is a dash
abbrev pub is_language : List ℕ → Bool
is_language piece = length piece == 2 || (nat_lt 4 (length piece) && slice_index piece 2 == 45)

abbrev pub language_of : List ℕ → Option (List ℕ)
language_of piece = when (is_language piece) piece

-- the languages of a text, one a piece
abbrev pub languages_of_bytes : List ℕ → Option (List (List ℕ))
languages_of_bytes bytes = text_of bytes >>= λ text. every language_of (comma_pieces text)

-- the languages of the values, one value after another
abbrev pub languages_of_all_values : List FieldValue → Option (List (List ℕ))
languages_of_all_values values =
    every (λ value. languages_of_bytes value.bytes) values >>= λ lists. Some (flat_map (λ list. list) lists)

-- the languages of one or more values
abbrev pub language_header : List FieldValue → Option (List (List ℕ))
language_header [] = None
language_header (value ∷ values) = languages_of_all_values (value ∷ values)
