-- Whether the `If` of a request lets it go on (RFC 4918 section 10.4).
use Rattle.std.specs.Prelude.{◌≡◌, ◌⊎◌, Bool, true, false, List, [], codes}
use Rattle.http_header.specs.FieldValue.{FieldValue}
use Rattle.http_header.specs.HeaderMap.{Entries, get_all}
use Rattle.url.specs.Parts.{Parts}
use Rattle.dav_path_core.specs.PathText.{PathText}
use Rattle.dav_path_core.specs.Segments.{segments}
use Rattle.dav_headers_core.specs.IfValues.{Located}
use Rattle.dav_guarded_core.specs.Step.{State}
use Rattle.dav_faults_core.specs.declared.faults.Fault.{Fault}
use Rattle.dav_faults_core.specs.declared.faults.Fault.TheVariants as fault
use Rattle.dav_fields_core.specs.Bases.{IsBase, Site}
use Rattle.dav_session_core.specs.Conditions.{IfIs}
use Rattle.dav_fields_core.specs.RequestRefusals.{HasBadIf}
use Rattle.dav_fields_core.specs.RootedTags.{IfSays}
use Rattle.dav_fields_core.specs.TaggedLists.{base_of}

-- a reading of its `If` for a path, and whether it holds there
pub record Weighs (site : Site) (s : State) (headers : Entries FieldValue) (here : PathText)
    (holds : Bool) : Type 0 where
  pub lists : List Located
  pub reads : IfSays site headers lists
  pub base : Parts
  pub is_base : IsBase site headers base
  pub weighed : IfIs s (base_of base here) (segments here.bytes) lists holds

-- it has no `If`, or its `If` holds
abbrev pub IsAdmitted : Site → State → Entries FieldValue → PathText → Type 0
IsAdmitted site s headers here =
    (get_all headers (codes "if") ≡ []) ⊎ Weighs site s headers here true

-- its `If` doesn't hold; or it isn't read, or it is read and nothing tells where URLs begin
abbrev pub IsHeldOff : Site → State → Entries FieldValue → PathText → Fault → Type 0
IsHeldOff site s headers here fault.PreconditionFailed = Weighs site s headers here false
IsHeldOff site s headers here fault.BadRequest =
    HasBadIf site headers
    ⊎ ((lists : List Located) × IfSays site headers lists
    × ((base : Parts) → ¬ IsBase site headers base))
IsHeldOff site s headers here fault.InsufficientStorage = Unit {0}
IsHeldOff site s headers here _ = ⊥
