-- Which tags and which part are among the fields of an answer.
use Rattle.std.proofs.Common.{◌≡◌, ℕ, List, [], ◌∷◌, refl, ap, ◌∙◌}
use Rattle.dav_path_core.specs.Fronts.{Path}
use Rattle.dav_files_core.specs.declared.memfs.Kind.{Kind}
use Rattle.dav_files_core.specs.declared.memfs.Kind.TheVariants.{File, Folder}
use Rattle.dav_files_core.specs.Resources.{Resource}
use Rattle.dav_fields_core.specs.AnswerFields.{modified_field, part_field, ranges_field, tag_field, tag_fields, type_field}
use Rattle.dav_fields_core.specs.ContentTypes.{content_type}
use Rattle.dav_fields_core.specs.Fields.{Field, sent_parts, sent_tags}
use Rattle.dav_fields_core.specs.FileTags.{own_tags, tag_of}
use Rattle.dav_safe_methods_core.specs.FolderPages.{page_type}
use Rattle.dav_safe_methods_core.specs.GetMethod.{HasFields}
use Rattle.dav_safe_methods_core.specs.PropertyAnswers.{last_or}

pub tags_told : (tags : List (List ℕ)) → sent_tags (tag_fields tags) ≡ tags
tags_told [] = refl
tags_told (tag ∷ tags) = ap (λ others. tag ∷ others) (tags_told tags)

abbrev by_kind : Path → Resource → List ℕ → Kind → List Field
by_kind p r date k = elim k [
  | Folder ↦ modified_field date ∷ type_field page_type ∷ []
  | File ↦ tag_field (tag_of r) ∷ modified_field date ∷ type_field (content_type (last_or [] p)) ∷ ranges_field ∷ []
]

tags_of_kind : (p : Path) (r : Resource) (date : List ℕ) (k : Kind) → sent_tags (by_kind p r date k) ≡ elim k [ Folder ↦ [] | File ↦ tag_of r ∷ [] ]
tags_of_kind p r date Folder = refl
tags_of_kind p r date File = refl

parts_of_kind : (p : Path) (r : Resource) (date : List ℕ) (k : Kind) → sent_parts (by_kind p r date k) ≡ []
parts_of_kind p r date Folder = refl
parts_of_kind p r date File = refl

pub whole_tags : (p : Path) (r : Resource) (fields : List Field) → HasFields [] p r fields → sent_tags fields ≡ own_tags r
whole_tags p r fields h = ap sent_tags h.are ∙ tags_of_kind p r h.date r.node.kind

pub part_tags : (p : Path) (r : Resource) (part : List ℕ) (fields : List Field) → HasFields (part_field part ∷ []) p r fields → sent_tags fields ≡ own_tags r
part_tags p r part fields h = ap sent_tags h.are ∙ tags_of_kind p r h.date r.node.kind

pub part_parts : (p : Path) (r : Resource) (part : List ℕ) (fields : List Field) → HasFields (part_field part ∷ []) p r fields → sent_parts fields ≡ part ∷ []
part_parts p r part fields h = ap sent_parts h.are ∙ ap (λ more. part ∷ more) (parts_of_kind p r h.date r.node.kind)
