-- When two answers to one request are one answer, and leave one server (own).
use Rattle.std.specs.Prelude.{◌≡◌, ◌⊎◌, ℕ, List, [], IsSome}
use Rattle.http_server.specs.declared.response.Response.{Response}
use Rattle.http_server.specs.Response.{fields_of}
use Rattle.dav_faults_core.specs.declared.faults.Fault.{Fault}
use Rattle.dav_faults_core.specs.Faults.{fault_status}
use Rattle.dav_fields_core.specs.AnswerFields.{first_fields}
use Rattle.dav_fields_core.specs.Fields.{sent_behind, sent_of}
use Rattle.dav_session_core.specs.Callers.{live}
use Rattle.dav_safe_methods_core.specs.RefusalAnswers.{refusal_sent}
use Rattle.dav_methods_core.specs.SameFaults.{shows_refusing_lock}
use Rattle.dav_handler_core.specs.Server.{Server}

-- It is for want of memory: by 507, or by a status alone, without even its date.
abbrev pub LacksMemory : Response → Type 0
LacksMemory response = (response.status ≡ 507) ⊎ (fields_of response ≡ [])

-- it tells of this refusal, behind the date
pub record TellsOf (date prefix : List ℕ) (e : Fault) (response : Response) : Type 0 where
  pub status : response.status ≡ fault_status e
  pub sends : sent_of response ≡ sent_behind (first_fields date) (refusal_sent prefix e)

-- Both tell of a lock, and both locks do the same: they refuse the caller, or they let no other lock
-- be granted.
pub record ShowLocks (prefix : List ℕ) (response other : Response) : Type 0 where
  pub date : List ℕ
  pub fault : Fault
  pub also : Fault
  pub shows : IsSome (shows_refusing_lock fault)
  pub alike : shows_refusing_lock fault ≡ shows_refusing_lock also
  pub told : TellsOf date prefix fault response
  pub told_also : TellsOf date prefix also other

-- They have one status, the same fields and one body, but for which of several locks they show.
abbrev pub AreOneAnswer : List ℕ → Response → Response → Type 0
AreOneAnswer prefix response other =
    ((response.status ≡ other.status) × (sent_of response ≡ sent_of other))
    ⊎ ShowLocks prefix response other

-- the server without the locks that have expired at its last moment
abbrev pub as_left : Server → Server
as_left s = record s { state = live s.last s.state }
