-- `If-Match` and `If-None-Match` (RFC 9110 sections 13.1.1 and 13.1.2).
use Rattle.std.specs.Prelude.{ℕ, Bool, true, false, bytes_eq, if◌then◌else◌, List, [], ◌∷◌, ◌++◌, codes, filter, Option, None, Some}
use Rattle.http_header.specs.FieldValue.{FieldValue}
use Rattle.dav_headers_core.specs.Optional.{◌>>=◌}
use Rattle.dav_headers_core.specs.Pairwise.{pairwise}
use Rattle.dav_headers_core.specs.Values.{text_of}
use Rattle.dav_headers_core.specs.CommaPieces.{without_blanks, comma_pieces, joined_by_commas}
use Rattle.dav_headers_core.specs.Tags.{is_tag, strong_eq}
use Rattle.dav_headers_core.specs.declared.davheaders.tag_lists.ETagList.{ETagList}
use Rattle.dav_headers_core.specs.declared.davheaders.tag_lists.ETagList.TheVariants as list

-- any tag at all, or these, by their spellings
pub data TagList : Type 0 where
  AnyTag : TagList
  TheseTags : List (List ℕ) → TagList

-- what a contract sees of an `ETagList`
abbrev pub tag_list : ETagList → TagList
tag_list list.Star = AnyTag
tag_list (list.Tags tags) = TheseTags tags.items

-- the pieces of the text that spell a tag
abbrev pub tags_in : List ℕ → List (List ℕ)
tags_in text = filter is_tag (comma_pieces text)

abbrev pub in_front : List (List ℕ) → TagList → TagList
in_front tags AnyTag = AnyTag
in_front tags (TheseTags more) = TheseTags (tags ++ more)

-- The values in order: each is a text; one that trims to `*` means any tag, whatever values follow; the tags of another stand
-- in front of those that follow.
abbrev pub tags_of_values : List FieldValue → Option TagList
tags_of_values [] = Some (TheseTags [])
tags_of_values (value ∷ values) = text_of value.bytes >>= λ text.
    if bytes_eq (without_blanks text) (codes "*") then Some AnyTag
    else (tags_of_values values >>= λ more. Some (in_front (tags_in text) more))

-- what one or more values say
abbrev pub tag_list_header : List FieldValue → Option TagList
tag_list_header [] = None
tag_list_header (value ∷ values) = tags_of_values (value ∷ values)

abbrev pub tag_list_text : TagList → List ℕ
tag_list_text AnyTag = codes "*"
tag_list_text (TheseTags tags) = joined_by_commas tags

-- as many tags, each equal to the one at its place
abbrev pub tags_strong_eq : List (List ℕ) → List (List ℕ) → Bool
tags_strong_eq = pairwise strong_eq

abbrev pub tag_list_strong_eq : TagList → TagList → Bool
tag_list_strong_eq AnyTag AnyTag = true
tag_list_strong_eq AnyTag (TheseTags ys) = false
tag_list_strong_eq (TheseTags xs) AnyTag = false
tag_list_strong_eq (TheseTags xs) (TheseTags ys) = tags_strong_eq xs ys
