-- What a GET or a HEAD is told of what stands at a path, and why it is refused (RFC 9110 sections 9.3.1, 13.2 and 14.2).
use Rattle.std.specs.Prelude.{◌≡◌, ℕ, ◌-◌, ◌/◌, List, [], ◌∷◌, ◌++◌, length, take, drop, codes, Option, None, Some, Result, Ok, Err}
use Rattle.http_header.specs.FieldValue.{FieldValue}
use Rattle.http_header.specs.HeaderMap.{Entries, get_all}
use Rattle.dav_path_core.specs.declared.util.DavMethod.{DavMethod}
use Rattle.dav_path_core.specs.declared.util.DavMethod.TheVariants as method
use Rattle.dav_path_core.specs.Fronts.{Path}
use Rattle.dav_path_core.specs.PathText.{PathText}
use Rattle.dav_path_core.specs.Segments.{segments}
use Rattle.dav_files_core.specs.declared.memfs.Kind.TheVariants.{Folder, File}
use Rattle.dav_files_core.specs.Meta.{meta_at}
use Rattle.dav_files_core.specs.Resources.{Resource, ResourceMap, at_path}
use Rattle.dav_fields_core.specs.declared.etags.Standing.{Standing}
use Rattle.dav_fields_core.specs.declared.etags.Standing.TheVariants as standing
use Rattle.dav_faults_core.specs.declared.faults.Fault.{Fault}
use Rattle.dav_faults_core.specs.declared.faults.Fault.TheVariants as fault
use Rattle.dav_fields_core.specs.declared.preconditions.Course.{Course}
use Rattle.dav_fields_core.specs.declared.preconditions.Course.TheVariants as course
use Rattle.dav_fields_core.specs.declared.ranges.Extent.{Extent}
use Rattle.dav_fields_core.specs.declared.ranges.Extent.TheVariants as extent
use Rattle.dav_fields_core.specs.AnswerFields.{modified_field, part_field, ranges_field, tag_field, tag_fields, type_field}
use Rattle.dav_fields_core.specs.ContentTypes.{content_type}
use Rattle.dav_fields_core.specs.Dates.{IsHttpDate}
use Rattle.dav_fields_core.specs.Fields.{Field, Sent}
use Rattle.dav_fields_core.specs.FileTags.{own_tags, standing_known, tag_of}
use Rattle.dav_fields_core.specs.Preconditions.{course_of}
use Rattle.dav_fields_core.specs.Ranges.{extent_of, part_text, unsatisfied_text}
use Rattle.dav_safe_methods_core.specs.FolderPages.{IsPaged, page_type}
use Rattle.dav_safe_methods_core.specs.PropertyAnswers.{last_or}

-- ---- what is asked for

-- a range counts in a GET of a file alone
abbrev pub extent_in : DavMethod → Standing → ℕ → Entries FieldValue → Extent
extent_in method.Get (standing.File tag modified latest) size headers = extent_of size (get_all headers (codes "range"))
extent_in _ _ size headers = extent.Whole

-- by what follows from the conditions: these bytes, or none where the client has them already, or a refusal
abbrev pub get_outcome_by : DavMethod → Standing → ℕ → Entries FieldValue → Option Course → Result (Option Extent) Fault
get_outcome_by m at size headers None = Err fault.BadRequest
get_outcome_by m at size headers (Some course.PreconditionFailed) = Err fault.PreconditionFailed
get_outcome_by m at size headers (Some course.NotModified) = Ok None
get_outcome_by m at size headers (Some course.Whole) = Ok (Some extent.Whole)
get_outcome_by m at size headers (Some course.Proceed) = Ok (Some (extent_in m at size headers))

-- of what stands at the path, with so many bytes
abbrev pub get_outcome : DavMethod → Standing → ℕ → Entries FieldValue → Result (Option Extent) Fault
get_outcome m at size headers = get_outcome_by m at size headers (course_of m at headers)

abbrev pub get_outcome_of : DavMethod → ResourceMap → Path → Resource → Entries FieldValue → Result (Option Extent) Fault
get_outcome_of m map p r headers = get_outcome m (standing_known map p (meta_at r.node)) (length r.node.bytes) headers

-- ---- what is sent

-- the fields of what stands at the path, and when it was changed last: of a folder its page's type, of a file its tag, its type, and that ranges of it are served
abbrev pub resource_fields : Path → Resource → List ℕ → List Field
resource_fields p r date = elim r.node.kind [
  | Folder ↦ modified_field date ∷ type_field page_type ∷ []
  | File ↦ tag_field (tag_of r) ∷ modified_field date ∷ type_field (content_type (last_or [] p)) ∷ ranges_field ∷ []
]

-- these fields, and then those of what stands there
pub record HasFields (first : List Field) (p : Path) (r : Resource) (fields : List Field) : Type 0 where
  pub date : List ℕ
  pub dated : IsHttpDate (r.node.modified / 1_000_000_000) date
  pub are : fields ≡ first ++ resource_fields p r date

-- 200 with all bytes of a file, 206 with those that are asked for, 304 and 416 with none; each but 416 with the file's tag, and 206 and 416 with their part
abbrev pub Tells : Result (Option Extent) Fault → Path → Resource → ℕ → Sent → Type 0
Tells (Err e) p r status sent = ⊥
Tells (Ok None) p r status sent = (status ≡ 304) × (sent ≡ record { fields = tag_fields (own_tags r); body = [] })
Tells (Ok (Some extent.Whole)) p r status sent =
    (status ≡ 200) × HasFields [] p r sent.fields × (r.node.kind ≡ File → sent.body ≡ r.node.bytes)
Tells (Ok (Some (extent.Part first end))) p r status sent =
    (status ≡ 206) × HasFields (part_field (part_text first end (length r.node.bytes)) ∷ []) p r sent.fields
    × (sent.body ≡ take (end - first) (drop first r.node.bytes))
Tells (Ok (Some extent.Unsatisfiable)) p r status sent =
    (status ≡ 416) × (sent ≡ record { fields = part_field (unsatisfied_text (length r.node.bytes)) ∷ []; body = [] })

-- ---- at a path

-- what is told of what stands there; of a folder, its page
pub record Gets (m : DavMethod) (map : ResourceMap) (path : PathText) (headers : Entries FieldValue) (status : ℕ) (sent : Sent) : Type 0 where
  pub resource : Resource
  pub here : at_path map (segments path.bytes) ≡ Some resource
  pub tells : Tells (get_outcome_of m map (segments path.bytes) resource headers) (segments path.bytes) resource status sent
  pub page : IsPaged map path status sent.body

-- nothing stands there, or the conditions refuse it; or memory does
abbrev pub FailsToGet : DavMethod → ResourceMap → Path → Entries FieldValue → Fault → Type 0
FailsToGet m map p headers fault.InsufficientStorage = Unit {0}
FailsToGet m map p headers fault.NotFound = at_path map p ≡ None
FailsToGet m map p headers e = (r : Resource) × (at_path map p ≡ Some r) × (get_outcome_of m map p r headers ≡ Err e)
