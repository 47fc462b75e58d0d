-- What a PROPPATCH leaves and tells, and why it is refused (RFC 4918 section 9.2).
use Rattle.std.specs.Prelude.{◌≡◌, ℕ, Bool, true, false, List, [], None, Some, Ok}
use Rattle.std.specs.Prelude.{IsSome}
use Rattle.http_header.specs.FieldValue.{FieldValue}
use Rattle.http_header.specs.HeaderMap.{Entries}
use Rattle.dav_path_core.specs.declared.util.DavMethod.TheVariants as method
use Rattle.dav_path_core.specs.Fronts.{Path}
use Rattle.dav_path_core.specs.PathText.{PathText}
use Rattle.dav_path_core.specs.Segments.{segments}
use Rattle.dav_files_core.specs.Resources.{at_path}
use Rattle.dav_guarded_core.specs.Step.{State}
use Rattle.dav_xml_core.specs.Writing.{document_bytes}
use Rattle.dav_faults_core.specs.declared.faults.Fault.{Fault}
use Rattle.dav_faults_core.specs.declared.faults.Fault.TheVariants as fault
use Rattle.dav_session_core.specs.Callers.{Caller, SameLive, refusing_at}
use Rattle.dav_fields_core.specs.Fields.{Sent}
use Rattle.dav_session_core.specs.LocksInTheWay.{IsPathOfOne}
use Rattle.dav_documents_core.specs.PatchBodies.{any_protected, patch_nodes}
use Rattle.dav_safe_methods_core.specs.SentDocuments.{document_sent}
use Rattle.dav_documents_core.specs.PropertyUpdates.{Update, updates_in}
use Rattle.dav_session_core.specs.Patching.{IsPatched}
use Rattle.dav_methods_core.specs.ChangeConditions.{IsStopped, change_course}
use Rattle.dav_methods_core.specs.ToldPaths.{told_path}

-- all or none: where one of the properties is protected, nothing changes
abbrev pub Changes : Bool → ℕ → Path → List Update → State → State → Type 0
Changes true now p updates s s' = SameLive now s s'
Changes false now p updates s s' = IsPatched p updates s s'

-- 207. The body asks for these updates of what stands at the path; no lock refuses it; the
-- conditions of HTTP let it; all or none are done; and which is told by the body of the answer.
pub record Patches (prefix : List ℕ) (headers : Entries FieldValue) (body : List ℕ) (s : State)
    (who : Caller) (path : PathText) (status : ℕ) (sent : Sent) (s' : State) : Type 0 where
  pub status_is : status ≡ 207
  pub updates : List Update
  pub asks : updates_in body ≡ Some updates
  pub stood : IsSome (at_path s.map (segments path.bytes))
  pub free : refusing_at s who (segments path.bytes) ≡ []
  pub course : change_course method.PropPatch s.map (segments path.bytes) headers ≡ Ok tt
  pub changes : Changes (any_protected updates) who.now (segments path.bytes) updates s s'
  pub tells : sent ≡ document_sent
      (document_bytes (patch_nodes prefix (told_path s.map path) updates))

-- All but the conditions: the body asks for updates of what stands there, and no lock refuses it.
pub record CanPatch (body : List ℕ) (s : State) (who : Caller) (p : Path) : Type 0 where
  pub asks : IsSome (updates_in body)
  pub stood : IsSome (at_path s.map p)
  pub free : refusing_at s who p ≡ []

-- Why it can't be done, and where that comes: first a body that asks for nothing, then that nothing
-- stands there, and then a lock in its way, whose path is told.
abbrev pub CantPatch : List ℕ → State → Caller → Path → Fault → Type 0
CantPatch body s who p fault.InsufficientStorage = Unit {0}
CantPatch body s who p fault.BadRequest = updates_in body ≡ None
CantPatch body s who p fault.NotFound = IsSome (updates_in body) × (at_path s.map p ≡ None)
CantPatch body s who p (fault.Locked path) =
    IsSome (updates_in body) × IsSome (at_path s.map p) × IsPathOfOne (refusing_at s who p) path
CantPatch body s who p e = ⊥

-- Each refusal of a PROPPATCH: why it can't be done, and then the conditions of HTTP.
abbrev pub FailsToPatch : Entries FieldValue → List ℕ → State → Caller → Path → Fault → Type 0
FailsToPatch headers body s who p e =
    IsStopped (CantPatch body s who p) (CanPatch body s who p)
    (change_course method.PropPatch s.map p headers) e

-- a change can't be made at the path: nothing stands there, or a lock refuses it
abbrev pub LacksStanding : State → Caller → Path → Fault → Type 0
LacksStanding s who p fault.InsufficientStorage = Unit {0}
LacksStanding s who p fault.NotFound = at_path s.map p ≡ None
LacksStanding s who p (fault.Locked path) =
    IsSome (at_path s.map p) × IsPathOfOne (refusing_at s who p) path
LacksStanding s who p e = ⊥
