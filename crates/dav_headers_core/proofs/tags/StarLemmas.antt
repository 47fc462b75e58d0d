-- Values are read whole as they are read in two steps.
use Rattle.std.proofs.Common.{◌≡◌, refl, ℕ, Bool, true, false, cond, List, [], ◌∷◌, length, Option, None, Some}
use Rattle.std.specs.Prelude.{bytes_eq, codes}
use Rattle.std.specs.List.{flat_map}
use Rattle.http_header.specs.FieldValue.{FieldValue}
use Rattle.dav_headers_core.specs.Optional.{◌>>=◌}
use Rattle.dav_headers_core.specs.Values.{text_of}
use Rattle.dav_headers_core.specs.CommaPieces.{without_blanks}
use Rattle.dav_headers_core.specs.TagLists.{TagList, AnyTag, TheseTags, in_front, tags_in, tags_of_values, tag_list_header}
use Rattle.dav_headers_core.specs.Private.TagReading.{star_among, tags_of}

-- what the values say, by whether one is a star
abbrev pub read_by : Option Bool → List FieldValue → Option TagList
read_by None values = None
read_by (Some true) values = Some AnyTag
read_by (Some false) values = Some (TheseTags (flat_map tags_of values))

read_whole : (values : List FieldValue) → tags_of_values values ≡ read_by (star_among values) values
read_whole [] = refl
read_whole (value ∷ values) = at_text (text_of value.bytes) refl (read_whole values)
  where
    at_text : (text : Option (List ℕ)) → text_of value.bytes ≡ text → tags_of_values values ≡ read_by (star_among values) values → tags_of_values (value ∷ values) ≡ read_by (star_among (value ∷ values)) (value ∷ values)
    at_text None e others = rw e refl
    at_text (Some text) e others = rw e (at_star (bytes_eq (without_blanks text) (codes "*")))
      where
        behind : (star : Option Bool) → (read_by star values >>= λ more. Some (in_front (tags_in text) more)) ≡ read_by star (value ∷ values)
        behind None = refl
        behind (Some true) = refl
        behind (Some false) = rw e refl

        at_star : (star : Bool) → cond star (Some AnyTag) (tags_of_values values >>= λ more. Some (in_front (tags_in text) more)) ≡ read_by (cond star (Some true) (star_among values)) (value ∷ values)
        at_star true = refl
        at_star false = rw others (behind (star_among values))

pub header_read : (values : List FieldValue) (star : Option Bool) → (length values ≡ 0 → ⊥) → star_among values ≡ star → tag_list_header values ≡ read_by star values
header_read [] star some e = absurd (some refl)
header_read (value ∷ values) star some e = rw (read_whole (value ∷ values), e) refl
