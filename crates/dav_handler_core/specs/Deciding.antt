-- What decides over a request: its `If`, the conditions of HTTP and its range, told of its answer in one fact each (RFC 4918 section 10.4, RFC 9110
-- sections 13 and 14).
use Rattle.std.specs.Prelude.{◌≡◌, ◌≢◌, ◌⊎◌, ℕ, ◌<◌, ◌-◌, Bool, true, false, List, [], ◌∷◌, length, take, drop, Option, None, Some, Ok, Err}
use Rattle.http.specs.declared.request.Request.{Request}
use Rattle.http.specs.Request.{head_of}
use Rattle.http_header.specs.FieldValue.{FieldValue}
use Rattle.http_header.specs.HeaderMap.{Entries}
use Rattle.dav_path_core.specs.declared.util.DavMethod.{DavMethod}
use Rattle.dav_path_core.specs.declared.util.DavMethod.TheVariants as method
use Rattle.dav_path_core.specs.PathText.{PathText}
use Rattle.dav_path_core.specs.Segments.{segments}
use Rattle.dav_path_core.specs.Fronts.{Path}
use Rattle.dav_files_core.specs.Resources.{Resource, ResourceMap, at_path}
use Rattle.dav_guarded_core.specs.Step.{State}
use Rattle.dav_faults_core.specs.declared.faults.Fault.TheVariants as fault
use Rattle.dav_fields_core.specs.declared.ranges.Extent.{Extent}
use Rattle.dav_fields_core.specs.declared.ranges.Extent.TheVariants as extent
use Rattle.dav_methods_core.specs.Admitting.{Weighs}
use Rattle.dav_handler_core.specs.MethodAnswers.{Admits, Begins, as_found}
use Rattle.dav_handler_core.specs.Server.{Server, site_for}
use Rattle.dav_session_core.specs.Callers.{Caller, live}
use Rattle.dav_fields_core.specs.TransferDestinations.{overwrites}
use Rattle.dav_fields_core.specs.Fields.{Sent, sent_parts, sent_tags}
use Rattle.dav_fields_core.specs.FileTags.{standing_at}
use Rattle.dav_fields_core.specs.Getting.{tags_by}
use Rattle.dav_safe_methods_core.specs.GetMethod.{get_outcome_of}
use Rattle.dav_methods_core.specs.ChangeConditions.{change_course}
use Rattle.dav_fields_core.specs.Ranges.{part_text}
use Rattle.dav_methods_core.specs.RefreshMethod.{named_there}

-- a method that looks at conditions: all but a PROPFIND and an OPTIONS
abbrev pub looks : Option DavMethod → Bool
looks (Some method.Get) = true
looks (Some method.Head) = true
looks (Some method.Put) = true
looks (Some method.Delete) = true
looks (Some method.Copy) = true
looks (Some method.Move) = true
looks (Some method.MkCol) = true
looks (Some method.PropPatch) = true
looks (Some method.Lock) = true
looks (Some method.Unlock) = true
looks _ = false

-- a GET, a HEAD or a PUT, whose answers have the tag of the file
abbrev pub tells_tag : Option DavMethod → Bool
tells_tag (Some method.Get) = true
tells_tag (Some method.Head) = true
tells_tag (Some method.Put) = true
tells_tag _ = false

-- The status of a request that is done. A 207 tells of a lock below the path, but to a PROPPATCH of
-- what it has done.
abbrev pub SaysDone : Option DavMethod → ℕ → Type 0
SaysDone (Some method.PropPatch) status = status < 300
SaysDone _ status = (status < 300) × (status ≢ 207)

-- what stands at the path is told to a GET or a HEAD
abbrev pub IsToldAs : DavMethod → ResourceMap → Path → Entries FieldValue → Option Extent → Type 0
IsToldAs m map p headers told = (r : Resource) × (at_path map p ≡ Some r) × (get_outcome_of m map p r headers ≡ Ok told)

-- one of its conditions doesn't hold there
abbrev pub IsToldFailed : DavMethod → ResourceMap → Path → Entries FieldValue → Type 0
IsToldFailed m map p headers = (r : Resource) × (at_path map p ≡ Some r) × (get_outcome_of m map p r headers ≡ Err fault.PreconditionFailed)

-- the conditions of HTTP let the method be done at the path
abbrev pub Lets : Option DavMethod → ResourceMap → Path → Entries FieldValue → Type 0
Lets (Some method.Get) map p headers = (x : Extent) × IsToldAs method.Get map p headers (Some x)
Lets (Some method.Head) map p headers = (x : Extent) × IsToldAs method.Head map p headers (Some x)
Lets (Some m) map p headers = change_course m map p headers ≡ Ok tt
Lets None map p headers = Unit {0}

-- one of those that are looked at doesn't hold, and each is read
abbrev pub IsCourseStopped : DavMethod → ResourceMap → Path → Entries FieldValue → Type 0
IsCourseStopped m map p headers = change_course m map p headers ≡ Err fault.PreconditionFailed

-- They don't. Of a COPY or a MOVE it may also be that what stands at the target may not be replaced;
-- of a LOCK without a body, that no token that the caller names is that of a lock which covers the
-- path (RFC 4918 section 9.10.2).
abbrev pub Stops : Option DavMethod → State → Caller → Path → Entries FieldValue → Type 0
Stops (Some method.Get) s who p headers = IsToldAs method.Get s.map p headers None ⊎ IsToldFailed method.Get s.map p headers
Stops (Some method.Head) s who p headers = IsToldAs method.Head s.map p headers None ⊎ IsToldFailed method.Head s.map p headers
Stops (Some method.Put) s who p headers = IsCourseStopped method.Put s.map p headers
Stops (Some method.Delete) s who p headers = IsCourseStopped method.Delete s.map p headers
Stops (Some method.Copy) s who p headers =
    (overwrites headers ≡ Some false) ⊎ IsCourseStopped method.Copy s.map p headers
Stops (Some method.Move) s who p headers =
    (overwrites headers ≡ Some false) ⊎ IsCourseStopped method.Move s.map p headers
Stops (Some method.MkCol) s who p headers = IsCourseStopped method.MkCol s.map p headers
Stops (Some method.PropPatch) s who p headers = IsCourseStopped method.PropPatch s.map p headers
Stops (Some method.Lock) s who p headers =
    (named_there s who p ≡ []) ⊎ IsCourseStopped method.Lock s.map p headers
Stops (Some method.Unlock) s who p headers = IsCourseStopped method.Unlock s.map p headers
Stops _ s who p headers = ⊥

-- the request goes on: its `If` lets it, and so do the conditions
pub record WentOn (m : Option DavMethod) (before : Server) (request : Request (List ℕ)) (after : Server) : Type 0 where
  pub path : PathText
  pub who : Caller
  pub begins : Begins before request after path who
  pub admits : Admits before request after path
  pub lets : Lets m before.state.map (segments path.bytes) (head_of request).headers

-- it is held off: its `If` doesn't hold, or a condition
pub record HeldOff (m : Option DavMethod) (before : Server) (request : Request (List ℕ)) (after : Server) : Type 0 where
  pub path : PathText
  pub who : Caller
  pub begins : Begins before request after path who
  pub why : Weighs (site_for before.options request) (live after.last before.state) (head_of request).headers path false
      ⊎ (Admits before request after path × Stops m (as_found before after) who (segments path.bytes) (head_of request).headers)

-- what is sent is the part of a file that is asked for, and says which
pub record SendsPart (before : Server) (request : Request (List ℕ)) (sent : Sent) (after : Server) : Type 0 where
  pub path : PathText
  pub who : Caller
  pub begins : Begins before request after path who
  pub resource : Resource
  pub here : at_path before.state.map (segments path.bytes) ≡ Some resource
  pub first : ℕ
  pub end : ℕ
  pub asked : get_outcome_of method.Get before.state.map (segments path.bytes) resource (head_of request).headers ≡ Ok (Some (extent.Part first end))
  pub bytes : sent.body ≡ take (end - first) (drop first resource.node.bytes)
  pub says : sent_parts sent.fields ≡ part_text first end (length resource.node.bytes) ∷ []

-- the tag that is sent is that of the file that stands at the path of the request behind it, if a file does
pub record SendsTag (before : Server) (request : Request (List ℕ)) (sent : Sent) (after : Server) : Type 0 where
  pub path : PathText
  pub who : Caller
  pub begins : Begins before request after path who
  pub tags : sent_tags sent.fields ≡ tags_by (standing_at after.state.map (segments path.bytes))
