-- How the server answers a request: what it promises of the answer, and of what it leaves (RFC 9110 section 9, RFC 4918 sections 6, 7 and 9).
use Rattle.std.specs.Prelude.{◌≡◌, ◌≢◌, ◌⊎◌, ℕ, ◌<◌, ◌≤◌, ◌/◌, ◌^◌, length, List, [], Option, None, Some, Result, Ok, Err, IfErr, IfOk, OnOk, Contains}
use Rattle.http.specs.declared.request.Request.{Request}
use Rattle.http.specs.Request.{head_of, body_of}
use Rattle.http_server.specs.declared.response.Response.{Response}
use Rattle.dav_path_core.specs.declared.util.DavMethod.{DavMethod}
use Rattle.dav_path_core.specs.declared.util.DavMethod.TheVariants as method
use Rattle.dav_path_core.specs.Methods.{word}
use Rattle.dav_path_core.specs.PathText.{PathText}
use Rattle.dav_path_core.specs.Segments.{segments}
use Rattle.dav_path_core.specs.Fronts.{Path}
use Rattle.dav_files_core.specs.Resources.{IsResourceMap}
use Rattle.dav_locks_core.specs.Exclusive.{Exclusive}
use Rattle.dav_locks_core.specs.Lock.{Lock}
use Rattle.dav_guarded_core.specs.Step.{State}
use Rattle.dav_faults_core.specs.declared.faults.Fault.{Fault}
use Rattle.dav_faults_core.specs.declared.faults.Fault.TheVariants as fault
use Rattle.dav_session_core.specs.Callers.{Asks, Caller, RunBy, Runs, SameLive}
use Rattle.dav_methods_core.specs.CopyMethod.{StartsToCopy}
use Rattle.dav_faults_core.specs.Faults.{fault_status}
use Rattle.dav_fields_core.specs.AnswerFields.{first_fields, options_fields}
use Rattle.dav_fields_core.specs.Dates.{IsHttpDate}
use Rattle.dav_fields_core.specs.Fields.{Field, Sent, sent_behind, nothing_sent, sent_of}
use Rattle.dav_methods_core.specs.LockMethod.{Grants, IsAskedBy, LeavesUntold, Wanted}
use Rattle.dav_methods_core.specs.MoveMethod.{StartsToMove}
use Rattle.dav_methods_core.specs.CreatedPlaces.{TellsPlace}
use Rattle.dav_safe_methods_core.specs.RefusalAnswers.{TellsWhy}
use Rattle.dav_session_core.specs.Refreshing.{RefreshesOwn}
use Rattle.dav_methods_core.specs.UnlockMethod.{Unlocks}
use Rattle.dav_handler_core.specs.Server.{Server, IsFrom, site_for}
use Rattle.dav_handler_core.specs.RequestMoments.{Comes, answer_moment, may_change}
use Rattle.dav_handler_core.specs.MethodAnswers.{Begins, CopyAnswers, FindAnswers, GetAnswers, LockAnswers, MakeAnswers, MoveAnswers, PatchAnswers, PutAnswers, RemoveAnswers, UnlockAnswers, as_found}

-- ---- the request

-- the method that a word names, where it names one
abbrev pub IsMethod : Option DavMethod → List ℕ → Type 0
IsMethod (Some m) name = word m ≡ name
IsMethod None name = (m : DavMethod) → word m ≢ name

-- ---- what is done, method by method

abbrev pub AnswersTo : Option DavMethod → Server → Request (List ℕ) → Result ℕ Fault → Sent → Server → Type 0
AnswersTo (Some method.Get) before request result sent after =
    GetAnswers method.Get before request result sent after × SameLive after.last before.state after.state
AnswersTo (Some method.Head) before request result sent after =
    GetAnswers method.Head before request result sent after × SameLive after.last before.state after.state
AnswersTo (Some method.PropFind) before request result sent after =
    FindAnswers before request result sent after × SameLive after.last before.state after.state
AnswersTo (Some method.Put) before request result sent after = PutAnswers before request result sent after
AnswersTo (Some method.Delete) before request result sent after = RemoveAnswers before request result after
AnswersTo (Some method.Copy) before request result sent after = CopyAnswers before request result after
AnswersTo (Some method.Move) before request result sent after = MoveAnswers before request result after
AnswersTo (Some method.MkCol) before request result sent after = MakeAnswers before request result after
AnswersTo (Some method.Unlock) before request result sent after = UnlockAnswers before request result after
AnswersTo (Some method.Lock) before request result sent after = LockAnswers before request result sent after
AnswersTo (Some method.PropPatch) before request result sent after = PatchAnswers before request result sent after
AnswersTo (Some method.Options) before request (Ok status) sent after = (status ≡ 200) × (after.state ≡ before.state)
AnswersTo (Some method.Options) before request (Err e) sent after = (e ≡ fault.InsufficientStorage) × (after.state ≡ before.state)
AnswersTo _ before request result sent after = (result ≡ Err fault.NotImplemented) × (after.state ≡ before.state)

-- What is sent by the methods that tell nothing of what stands at their path, where they are done; of the others `AnswersTo` says it. A COPY and a MOVE tell at which
-- URL something was made.
abbrev pub SendsOwn : Option DavMethod → Server → Request (List ℕ) → Result ℕ Fault → Sent → Type 0
SendsOwn (Some method.Delete) before request result own = OnOk result (own ≡ nothing_sent)
SendsOwn (Some method.MkCol) before request result own = OnOk result (own ≡ nothing_sent)
SendsOwn (Some method.Unlock) before request result own = OnOk result (own ≡ nothing_sent)
SendsOwn (Some method.Copy) before request result own =
    IfOk result (λ status. TellsPlace (site_for before.options request) before.options.prefix (head_of request).headers status own)
SendsOwn (Some method.Move) before request result own =
    IfOk result (λ status. TellsPlace (site_for before.options request) before.options.prefix (head_of request).headers status own)
SendsOwn (Some method.Options) before request result own = OnOk result (own ≡ record { fields = options_fields; body = [] })
SendsOwn _ before request result own = Unit {0}

-- ---- what every answer keeps to

-- one lock of the caller's own ends, and nothing else changes, by a run of the caller's requests
pub record EndsOne (before : Server) (request : Request (List ℕ)) (after : Server) (who : Caller) : Type 0 where
  pub asks : Asks who before.state after.state
  pub path : Path
  pub status : ℕ
  pub unlocks : Unlocks (head_of request).headers (as_found before after) who path status after.state

-- What a LOCK does to the locks: one more is granted; or it was, and is taken back; or a lock of the caller's own, whose token it names, has another end.
pub data LocksOne (s : State) (who : Caller) (path : PathText) (s' : State) : Type 0 where
  grants : (wanted : Wanted) (lock : Lock) → Grants s who path wanted lock s' → LocksOne s who path s'
  takes_back : LeavesUntold (λ l. Unit {0}) s who (segments path.bytes) s' → LocksOne s who path s'
  refreshes : (token : List ℕ) (timeout : Option ℕ) → Contains who.tokens token → RefreshesOwn s who (segments path.bytes) token timeout s' → LocksOne s who path s'

-- it is done by a run of requests, of the caller, or with the new lock's token beside the caller's
pub record Locks (before after : Server) (who : Caller) : Type 0 where
  pub runs : Runs before.state after.state
  pub path : PathText
  pub does : LocksOne (as_found before after) who path after.state

-- Nothing was asked of the stores, or a run of requests of the caller whose request it is, none of which grants, ends or refreshes a lock but that of an UNLOCK or a LOCK.
abbrev pub ByCaller : Server → Request (List ℕ) → Server → Type 0
ByCaller before request after =
    (after.state ≡ before.state) ⊎ ((who : Caller) × IsFrom before.options request who × (who.now ≡ after.last)
    × (RunBy who before.state after.state ⊎ (EndsOne before request after who ⊎ Locks before after who)))

-- what a method may do to the server
pub record MayDo (before : Server) (request : Request (List ℕ)) (after : Server) : Type 0 where
  pub by_caller : ByCaller before request after
  -- moments never go back
  pub moments : before.last ≤ after.last
  pub options : after.options ≡ before.options
  pub clock : after.clock ≡ before.clock
  -- notes of what changes begin where they began
  pub noting : after.noting ≡ before.noting

-- What a refusal leaves: all is as it was, but that locks that have expired may be gone. A COPY or a MOVE that lacked memory may have begun; of a LOCK that lacked memory
-- once it was granted, the generator has given a token.
abbrev pub Leaves : Option DavMethod → Server → Request (List ℕ) → Fault → Server → Type 0
Leaves (Some method.Copy) before request fault.InsufficientStorage after =
    SameLive after.last before.state after.state
    ⊎ ((before.last < after.last) × ((path : PathText) × (who : Caller) × Begins before request after path who
    × StartsToCopy (site_for before.options request) before.options.prefix (head_of request).headers (as_found before after) who (segments path.bytes) after.state))
Leaves (Some method.Move) before request fault.InsufficientStorage after =
    SameLive after.last before.state after.state
    ⊎ ((before.last < after.last) × ((path : PathText) × (who : Caller) × Begins before request after path who
    × StartsToMove (site_for before.options request) before.options.prefix (head_of request).headers (as_found before after) who (segments path.bytes) after.state))
Leaves (Some method.Lock) before request fault.InsufficientStorage after =
    SameLive after.last before.state after.state
    ⊎ ((path : PathText) × (who : Caller) × Begins before request after path who
    × LeavesUntold (IsAskedBy (body_of request) (as_found before after) who path) (as_found before after) who (segments path.bytes) after.state)
Leaves _ before request e after = SameLive after.last before.state after.state

-- the status that says how it ended
abbrev pub status_of : Result ℕ Fault → ℕ
status_of (Ok status) = status
status_of (Err e) = fault_status e

-- what is sent, behind the fields that stand first: what the method tells, or why it is refused
abbrev pub SendsBehind : List Field → List ℕ → Result ℕ Fault → Sent → Sent → Type 0
SendsBehind first prefix (Ok status) own sent = sent ≡ sent_behind first own
SendsBehind first prefix (Err e) own sent = TellsWhy first prefix e sent

pub record Answers (before : Server) (request : Request (List ℕ)) (response : Response) (after : Server) : Type 0 where
  pub moves : MayDo before request after
  -- the method, how it ended, and by which status
  pub method : Option DavMethod
  pub is_method : IsMethod method (head_of request).method
  -- memory holds the body
  pub fits : length (body_of request) < 2 ^ 64
  pub result : Result ℕ Fault
  pub status : response.status ≡ status_of result
  -- the fields of the method, and its body
  pub own : Sent
  pub done : AnswersTo method before request result own after
  pub sends_own : SendsOwn method before request result own
  -- the second of its moment stands before them
  pub date : List ℕ
  pub dated : IsHttpDate (answer_moment (may_change method request) before / 1_000_000_000) date
  -- a refusal is told by its document, or by nothing beside its status
  pub sends : SendsBehind (first_fields date) before.options.prefix result own (sent_of response)
  -- its moment, by the clock
  pub comes : Comes method before request result after
  -- what is refused has changed nothing, but that a COPY or a MOVE that lacks memory may have begun, and a LOCK may have drawn a token
  pub refused : IfErr result (λ e. Leaves method before request e after)
  -- two locks that cover one path are both shared, and the map is a resource map
  pub exclusive : Exclusive before.state.locks → Exclusive after.state.locks
  pub shape : Exclusive before.state.locks → IsResourceMap before.state.map → IsResourceMap after.state.map
