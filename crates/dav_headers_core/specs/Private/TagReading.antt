-- Reading values of `If-Match` and `If-None-Match` in two steps: whether one is a star, which takes no memory, and the tags.
use Rattle.std.specs.Prelude.{ℕ, Bool, true, false, bytes_eq, if◌then◌else◌, List, [], ◌∷◌, codes, Option, None, Some}
use Rattle.http_header.specs.FieldValue.{FieldValue}
use Rattle.dav_headers_core.specs.Optional.{◌>>=◌}
use Rattle.dav_headers_core.specs.Values.{text_of}
use Rattle.dav_headers_core.specs.CommaPieces.{without_blanks}
use Rattle.dav_headers_core.specs.TagLists.{tags_in}

-- whether a value trims to `*`; nothing where one before it is no text
abbrev pub star_among : List FieldValue → Option Bool
star_among [] = Some false
star_among (value ∷ values) = text_of value.bytes >>= λ text.
    if bytes_eq (without_blanks text) (codes "*") then Some true else star_among values

abbrev pub tags_of_text : Option (List ℕ) → List (List ℕ)
tags_of_text None = []
tags_of_text (Some text) = tags_in text

-- the tags of a value, none where it is no text
abbrev pub tags_of : FieldValue → List (List ℕ)
tags_of value = tags_of_text (text_of value.bytes)
