-- How long a lock with a timeout stands over a run of a server (RFC 4918 section 6.6).
use Rattle.std.specs.Prelude.{◌≡◌, ◌⊎◌, ℕ, ◌≤◌, false, List, Contains, Some}
use Rattle.http.specs.declared.request.Request.{Request}
use Rattle.http_server.specs.declared.response.Response.{Response}
use Rattle.dav_locks_core.specs.Lock.{Lock}
use Rattle.dav_locks_core.specs.Stale.{is_stale}
use Rattle.dav_handler_core.specs.Answers.{Answers}
use Rattle.dav_handler_core.specs.Holding.{IsHolders}
use Rattle.dav_handler_core.specs.MethodAnswers.{as_found}
use Rattle.dav_handler_core.specs.Server.{Server}
use Rattle.dav_handler_core.specs.TagHistories.{Becomes}

-- between the two servers a request of the lock's holder that names its token was answered, and
-- ended or changed the lock
pub record IsEndedByHolder (l : Lock) (s s' : Server) : Type 0 where
  pub before : Server
  pub after : Server
  pub request : Request (List ℕ)
  pub response : Response
  pub first : Becomes s before
  pub answers : Answers before request response after
  pub rest : Becomes after s'
  pub holders : IsHolders before request l
  pub stood : Contains before.state.locks l
  pub gone : ¬ Contains after.state.locks l

-- a lock whose end hasn't come at the last moment of a run stands at its end, or its holder ended or
-- changed it
abbrev pub StandsItsTime : Server → Server → Type 0
StandsItsTime s s' = (l : Lock) → Contains s.state.locks l → is_stale s'.last l ≡ false
    → Contains s'.state.locks l ⊎ IsEndedByHolder l s s'

-- a request that comes at its moment, once the clock has come to a lock's end, doesn't find the lock
abbrev pub FindsNoneBehind : Server → Server → Type 0
FindsNoneBehind before after = (l : Lock) (end : ℕ) → l.timeout_at ≡ Some end → end ≤ before.clock → ¬ Contains (as_found before after).locks l
