-- The fields of what is known to stand at a path. Private contracts alone speak of it.
use Rattle.std.specs.Prelude.{◌≡◌, ℕ, ◌/◌, List, [], ◌∷◌, ◌++◌}
use Rattle.dav_path_core.specs.Fronts.{Path}
use Rattle.dav_files_core.specs.declared.memfs.Kind.TheVariants.{Folder, File}
use Rattle.dav_files_core.specs.Meta.{Meta}
use Rattle.dav_fields_core.specs.AnswerFields.{modified_field, ranges_field, tag_fields, type_field}
use Rattle.dav_fields_core.specs.ContentTypes.{content_type}
use Rattle.dav_fields_core.specs.Dates.{IsHttpDate}
use Rattle.dav_fields_core.specs.Fields.{Field}
use Rattle.dav_safe_methods_core.specs.FolderPages.{page_type}
use Rattle.dav_safe_methods_core.specs.PropertyAnswers.{last_or}

-- by its tags and its date
abbrev pub known_fields : Path → Meta → List (List ℕ) → List ℕ → List Field
known_fields p known tags date = elim known.kind [
  | Folder ↦ modified_field date ∷ type_field page_type ∷ []
  | File ↦ tag_fields tags ++ (modified_field date ∷ type_field (content_type (last_or [] p)) ∷ ranges_field ∷ [])
]

-- these fields, and then those of what stands there
pub record HasKnownFields (first : List Field) (p : Path) (known : Meta) (tags : List (List ℕ)) (fields : List Field) : Type 0 where
  pub date : List ℕ
  pub dated : IsHttpDate (known.modified / 1_000_000_000) date
  pub are : fields ≡ first ++ known_fields p known tags date
