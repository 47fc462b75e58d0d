-- How each method is answered, and why it is refused (RFC 9110 section 9, RFC 4918 section 9).
use Rattle.std.specs.Prelude.{ℕ, true, false, List, Result, ◌≡◌, ◌≢◌, ◌⊎◌, Bool, ◌<◌, [], ◌∷◌, Option, Ok, Err}
use Rattle.http.specs.declared.request.Request.{Request}
use Rattle.http.specs.Request.{body_of, head_of}
use Rattle.dav_faults_core.specs.declared.faults.Fault.{Fault}
use Rattle.dav_fields_core.specs.Fields.{Sent}
use Rattle.dav_methods_core.specs.ChangeConditions.{change_course}
use Rattle.dav_methods_core.specs.CopyMethod.{Copies, FailsToCopy}
use Rattle.dav_methods_core.specs.MkcolMethod.{FailsToMake, Makes}
use Rattle.dav_methods_core.specs.MoveMethod.{FailsToMove, Moves}
use Rattle.dav_methods_core.specs.DeleteMethod.{FailsToRemove, Removes}
use Rattle.dav_methods_core.specs.UnlockMethod.{FailsToUnlock, Unlocks}
use Rattle.dav_safe_methods_core.specs.PropfindMethod.{FailsToTell, TellsFound}
use Rattle.dav_handler_core.specs.Server.{Server, Options, IsFrom, Names, site_for}
use Rattle.dav_path_core.specs.declared.util.DavMethod.{DavMethod}
use Rattle.dav_path_core.specs.declared.util.DavMethod.TheVariants as method
use Rattle.dav_path_core.specs.PathText.{PathText}
use Rattle.dav_path_core.specs.Segments.{segments}
use Rattle.dav_path_core.specs.Fronts.{Path}
use Rattle.dav_files_core.specs.Finding.{has_any}
use Rattle.dav_guarded_core.specs.Step.{State}
use Rattle.dav_faults_core.specs.declared.faults.Fault.TheVariants as fault
use Rattle.dav_methods_core.specs.Admitting.{IsAdmitted, IsHeldOff}
use Rattle.dav_session_core.specs.Callers.{Caller, live}
use Rattle.dav_fields_core.specs.FileTags.{tag_of}
use Rattle.dav_safe_methods_core.specs.GetMethod.{FailsToGet, Gets}
use Rattle.dav_fields_core.specs.AnswerFields.{tag_field}
use Rattle.dav_methods_core.specs.LockMethod.{FailsToLock, IsGranted}
use Rattle.dav_methods_core.specs.ProppatchMethod.{FailsToPatch, Patches}
use Rattle.dav_methods_core.specs.PutMethod.{FailsToPut, Puts, locks_against_putting, put_status}
use Rattle.dav_methods_core.specs.RefreshMethod.{FailsToRefresh, Refreshes}
use Rattle.dav_fields_core.specs.RequestRefusals.{RefusesTarget, RefusesPrincipal, HasBadIf, HasPart, IsLastMoment}
use Rattle.dav_fields_core.specs.Senders.{NamesPrincipal}

-- ---- a request that is read, or isn't

-- the whole body of a file, and no part of it
abbrev pub IsWhole : Request (List ℕ) → Type 0
IsWhole request = ¬ HasPart (head_of request).headers

-- Why a request asks for nothing, behind the last moment, where it may change something or not: the first that refuses it of its target, its
-- principal, its tokens and its moment; or there is no memory to read it.
pub data Unread (options : Options) (request : Request (List ℕ)) (last : ℕ) (changes : Bool) : Fault → Type 0 where
  memory : Unread options request last changes fault.InsufficientStorage
  target : (e : Fault) → RefusesTarget options.prefix (head_of request).uri e → Unread options request last changes e
  principal : (e : Fault) (path : PathText) → Names options request path → RefusesPrincipal options.user_header (head_of request).headers e
      → Unread options request last changes e
  tokens : (path : PathText) (named : Option (List ℕ)) → Names options request path
      → NamesPrincipal options.user_header (head_of request).headers named
      → HasBadIf (site_for options request) (head_of request).headers
      → Unread options request last changes fault.BadRequest
  moment : (path : PathText) (who : Caller) → Names options request path → IsFrom options request who → changes ≡ true → IsLastMoment last
      → Unread options request last changes fault.ServiceUnavailable

-- the request names the path, and it is the caller's, at its moment
pub record Begins (before : Server) (request : Request (List ℕ)) (after : Server) (path : PathText) (who : Caller) : Type 0 where
  pub names : Names before.options request path
  pub from : IsFrom before.options request who
  pub now : who.now ≡ after.last

-- Its `If` lets it go on, or holds it off, by the locks that have not expired at its moment.
abbrev pub Admits : Server → Request (List ℕ) → Server → PathText → Type 0
Admits before request after path = IsAdmitted (site_for before.options request) (live after.last before.state) (head_of request).headers path

abbrev pub HoldsOff : Server → Request (List ℕ) → Server → PathText → Fault → Type 0
HoldsOff before request after path e = IsHeldOff (site_for before.options request) (live after.last before.state) (head_of request).headers path e

-- A request that is read is refused: its `If` holds it off; or it doesn't, and its method refuses it.
pub record Fails (before : Server) (request : Request (List ℕ)) (after : Server) (e : Fault) (Refuses : Path → Caller → Type 0) : Type 0 where
  pub path : PathText
  pub who : Caller
  pub begins : Begins before request after path who
  pub why : HoldsOff before request after path e ⊎ (Admits before request after path × Refuses (segments path.bytes) who)

-- ---- GET, HEAD and PUT

-- A GET or a HEAD that is done, of what stands at its path; the connection leaves the body out of the answer to a HEAD.
pub record IsGotten (m : DavMethod) (before : Server) (request : Request (List ℕ)) (status : ℕ) (sent : Sent) (after : Server) : Type 0 where
  pub path : PathText
  pub who : Caller
  pub begins : Begins before request after path who
  pub admits : Admits before request after path
  pub gets : Gets m before.state.map path (head_of request).headers status sent

abbrev pub GetAnswers : DavMethod → Server → Request (List ℕ) → Result ℕ Fault → Sent → Server → Type 0
GetAnswers m before request (Ok status) sent after = IsGotten m before request status sent after
GetAnswers m before request (Err e) sent after =
    Unread before.options request before.last false e
    ⊎ Fails before request after e (λ p who. FailsToGet m before.state.map p (head_of request).headers e)

-- A PUT that is done leaves the body at its path, and each other path what it had; its answer has the tag of that file, and nothing else.
pub record IsPut (before : Server) (request : Request (List ℕ)) (status : ℕ) (sent : Sent) (after : Server) : Type 0 where
  pub path : PathText
  pub who : Caller
  pub begins : Begins before request after path who
  pub later : before.last < after.last
  pub admits : Admits before request after path
  pub course : change_course method.Put before.state.map (segments path.bytes) (head_of request).headers ≡ Ok tt
  pub free : locks_against_putting before.state who (segments path.bytes) (body_of request) ≡ []
  pub status_is : status ≡ put_status before.state.map (segments path.bytes)
  pub puts : Puts before.state after.last (segments path.bytes) (body_of request) after.state
  pub tells : sent ≡ record { fields = tag_field (tag_of puts.file) ∷ []; body = [] }

-- Else it says why not; a part of a file comes before any other reason.
abbrev pub PutAnswers : Server → Request (List ℕ) → Result ℕ Fault → Sent → Server → Type 0
PutAnswers before request (Ok status) sent after = IsWhole request × IsPut before request status sent after
PutAnswers before request (Err e) sent after =
    (HasPart (head_of request).headers × (e ≡ fault.BadRequest))
    ⊎ (IsWhole request × (Unread before.options request before.last true e
    ⊎ Fails before request after e (λ p who. FailsToPut before.state who p (body_of request) (head_of request).headers e)))

-- ---- a method, by what it does and why it is refused

-- the stores as a request finds them: without the locks that have expired at its moment
abbrev pub as_found : Server → Server → State
as_found before after = live after.last before.state

-- A method that changes the stores and was done, by what it does for a caller at a path, from what it finds.
pub record IsDone (changes : Bool) (before : Server) (request : Request (List ℕ)) (after : Server) (Does : Caller → Path → Type 0) : Type 0 where
  pub path : PathText
  pub who : Caller
  pub begins : Begins before request after path who
  pub later : changes ≡ true → before.last < after.last
  pub admits : Admits before request after path
  pub does : Does who (segments path.bytes)

-- It is done, or says why not. One that changes the map has a moment of its own.
abbrev pub ChangeAnswers : Bool → (State → Caller → Path → ℕ → State → Type 0) → (State → Caller → Path → Fault → Type 0)
    → Server → Request (List ℕ) → Result ℕ Fault → Server → Type 0
ChangeAnswers changes Does Refuses before request (Ok status) after =
    IsDone changes before request after (λ who p. Does (as_found before after) who p status after.state)
ChangeAnswers changes Does Refuses before request (Err e) after =
    Unread before.options request before.last changes e ⊎ Fails before request after e (λ p who. Refuses (as_found before after) who p e)

-- Of a method that takes no body: one that comes is refused before all that the method looks at
-- (RFC 4918 section 8.4).
abbrev pub RefusesBody : Request (List ℕ) → (State → Caller → Path → Fault → Type 0)
    → State → Caller → Path → Fault → Type 0
RefusesBody request Refuses s who p e =
    ((body_of request ≢ []) × (e ≡ fault.UnsupportedMediaType))
    ⊎ ((body_of request ≡ []) × Refuses s who p e)

-- It is done without a body, or says why not.
abbrev pub BareAnswers : Bool → (State → Caller → Path → ℕ → State → Type 0)
    → (State → Caller → Path → Fault → Type 0)
    → Server → Request (List ℕ) → Result ℕ Fault → Server → Type 0
BareAnswers changes Does Refuses before request result after =
    ChangeAnswers changes (λ s who p status s'. (body_of request ≡ []) × Does s who p status s')
    (RefusesBody request Refuses) before request result after

-- ---- PROPPATCH and LOCK

-- A PROPPATCH that is done, as its answer tells.
pub record IsPropPatched (before : Server) (request : Request (List ℕ)) (status : ℕ) (sent : Sent) (after : Server) : Type 0 where
  pub path : PathText
  pub who : Caller
  pub begins : Begins before request after path who
  pub admits : Admits before request after path
  pub patches : Patches before.options.prefix (head_of request).headers (body_of request)
      (as_found before after) who path status sent after.state

abbrev pub PatchAnswers : Server → Request (List ℕ) → Result ℕ Fault → Sent → Server → Type 0
PatchAnswers before request (Ok status) sent after = IsPropPatched before request status sent after
PatchAnswers before request (Err e) sent after =
    Unread before.options request before.last false e
    ⊎ Fails before request after e (λ p who. FailsToPatch (head_of request).headers
    (body_of request) (as_found before after) who p e)

-- A LOCK that is done: with a body a lock is granted, at a moment of its own; without one a lock has another end.
pub record IsLocked (before : Server) (request : Request (List ℕ)) (status : ℕ) (sent : Sent) (after : Server) : Type 0 where
  pub path : PathText
  pub who : Caller
  pub begins : Begins before request after path who
  pub admits : Admits before request after path
  pub locks : ((before.last < after.last)
      × IsGranted before.options.longest before.options.prefix (head_of request).headers (body_of request) (as_found before after) who path status sent after.state
      × (body_of request ≢ []))
      ⊎ ((body_of request ≡ [])
      × Refreshes before.options.longest before.options.prefix (head_of request).headers (as_found before after) who (segments path.bytes) status sent after.state)

-- A LOCK that is read is refused: its `If` holds it off; or it doesn't, and what it asks for is refused.
pub record FailsLock (before : Server) (request : Request (List ℕ)) (after : Server) (e : Fault) : Type 0 where
  pub path : PathText
  pub who : Caller
  pub begins : Begins before request after path who
  pub why : HoldsOff before request after path e
      ⊎ (Admits before request after path × (((body_of request ≢ [])
      × FailsToLock before.options.longest (head_of request).headers (body_of request) (as_found before after) who path e)
      ⊎ ((body_of request ≡ []) × FailsToRefresh (head_of request).headers (as_found before after) who (segments path.bytes) e)))

-- a request with a body, which may change something
abbrev pub has_body : Request (List ℕ) → Bool
has_body request = has_any (body_of request)

abbrev pub LockAnswers : Server → Request (List ℕ) → Result ℕ Fault → Sent → Server → Type 0
LockAnswers before request (Ok status) sent after = IsLocked before request status sent after
LockAnswers before request (Err e) sent after = Unread before.options request before.last (has_body request) e ⊎ FailsLock before request after e

-- ---- the other methods

-- a PROPFIND
abbrev pub FindAnswers : Server → Request (List ℕ) → Result ℕ Fault → Sent → Server → Type 0
FindAnswers before request result sent after =
    ChangeAnswers false
    (TellsFound before.options.finite before.options.prefix (head_of request).headers
    (body_of request) sent)
    (FailsToTell before.options.finite (head_of request).headers (body_of request))
    before request result after

-- a DELETE
abbrev pub RemoveAnswers : Server → Request (List ℕ) → Result ℕ Fault → Server → Type 0
RemoveAnswers before request result after =
    BareAnswers true (Removes (head_of request).headers)
    (FailsToRemove (head_of request).headers) before request result after

-- a COPY
abbrev pub CopyAnswers : Server → Request (List ℕ) → Result ℕ Fault → Server → Type 0
CopyAnswers before request result after =
    BareAnswers true
    (Copies (site_for before.options request) before.options.prefix (head_of request).headers)
    (FailsToCopy (site_for before.options request) before.options.prefix (head_of request).headers)
    before request result after

-- a MOVE
abbrev pub MoveAnswers : Server → Request (List ℕ) → Result ℕ Fault → Server → Type 0
MoveAnswers before request result after =
    BareAnswers true
    (Moves (site_for before.options request) before.options.prefix (head_of request).headers)
    (FailsToMove (site_for before.options request) before.options.prefix (head_of request).headers)
    before request result after

-- a MKCOL
abbrev pub MakeAnswers : Server → Request (List ℕ) → Result ℕ Fault → Server → Type 0
MakeAnswers before request result after =
    BareAnswers true (Makes (head_of request).headers) (FailsToMake (head_of request).headers)
    before request result after

-- an UNLOCK
abbrev pub UnlockAnswers : Server → Request (List ℕ) → Result ℕ Fault → Server → Type 0
UnlockAnswers before request result after =
    BareAnswers false (Unlocks (head_of request).headers)
    (FailsToUnlock (head_of request).headers) before request result after
