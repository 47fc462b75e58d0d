-- What a LOCK without a body leaves and tells, and why it is refused (RFC 4918 section 9.10.2).
use Rattle.std.specs.Prelude.{◌≡◌, ℕ, ◌<◌, Bool, List, [], bytes_eq, length, ◌∷◌, Option, None, Some, Ok, Err, filter, map, if◌then◌else◌}
use Rattle.std.specs.List.{list_any}
use Rattle.dav_locks_core.specs.Lock.{Lock}
use Rattle.dav_faults_core.specs.declared.faults.Fault.{Fault}
use Rattle.dav_faults_core.specs.declared.faults.Fault.TheVariants as fault
use Rattle.http_header.specs.FieldValue.{FieldValue}
use Rattle.http_header.specs.HeaderMap.{Entries}
use Rattle.dav_path_core.specs.declared.util.DavMethod.TheVariants as method
use Rattle.dav_path_core.specs.Fronts.{Path}
use Rattle.dav_headers_core.specs.declared.davheaders.timeouts.DavTimeout.{DavTimeout}
use Rattle.dav_locks_core.specs.Locks.{discovered_locks, refreshed_lock}
use Rattle.dav_guarded_core.specs.Step.{State}
use Rattle.dav_session_core.specs.Callers.{Caller}
use Rattle.dav_session_core.specs.Conditions.{has_token}
use Rattle.dav_fields_core.specs.Fields.{Sent}
use Rattle.dav_methods_core.specs.ChangeConditions.{change_course}
use Rattle.dav_documents_core.specs.LockDocuments.{discovery_pieces}
use Rattle.dav_fields_core.specs.LockTimeouts.{given_of, timeouts_in}
use Rattle.dav_documents_core.specs.Pieces.{written_pieces}
use Rattle.dav_safe_methods_core.specs.SentDocuments.{document_sent}
use Rattle.dav_session_core.specs.Unlocking.{IsAnothers}
use Rattle.dav_session_core.specs.Refreshing.{RefreshesOwn}

-- ---- what is asked for

-- one of the locks has the token
abbrev pub is_token_of_one : List Lock → List ℕ → Bool
is_token_of_one locks token = list_any (λ l. bytes_eq l.token token) locks

-- of some tokens there isn't exactly one
abbrev pub NotOne : List (List ℕ) → Fault → Type 0
NotOne tokens fault.InsufficientStorage = Unit {0}
NotOne tokens fault.PreconditionFailed = tokens ≡ []
NotOne tokens fault.BadRequest = 1 < length tokens
NotOne tokens e = ⊥

-- the tokens that the caller names and that a lock has which covers the path
abbrev pub named_there : State → Caller → Path → List (List ℕ)
named_there s who p = filter (has_token s p) who.tokens

-- the timeout of the first of some locks that has the token
abbrev pub timeout_among : List ℕ → List Lock → Option ℕ
timeout_among token [] = None
timeout_among token (l ∷ locks) = if bytes_eq l.token token then l.timeout else timeout_among token locks

-- what a lock with the token gets: the first of the timeouts that are asked for that can be given, else the one that it has
abbrev pub next_timeout : Option ℕ → List DavTimeout → List ℕ → List Lock → Option ℕ
next_timeout most [] token locks = timeout_among token locks
next_timeout most wanted token locks = given_of most wanted

-- a lock as it is told: the one with the token has its next timeout, and an end counted from now
abbrev pub told_with : ℕ → List ℕ → Option ℕ → Lock → Lock
told_with now token timeout l = if bytes_eq l.token token then refreshed_lock now timeout l else l

abbrev pub retimed_locks : ℕ → List ℕ → Option ℕ → List Lock → List Lock
retimed_locks now token timeout locks = map (told_with now token timeout) locks

-- ---- what is done

-- 200. One named token is that of a lock which covers the path, and no lock with it there or above is another's; its lock has another end, counted from now. The body tells the locks that cover the path.
pub record Refreshes (most : Option ℕ) (prefix : List ℕ) (headers : Entries FieldValue) (s : State) (who : Caller) (p : Path) (status : ℕ) (sent : Sent) (s' : State) : Type 0 where
  pub status_is : status ≡ 200
  pub timeouts : List DavTimeout
  pub read : timeouts_in headers ≡ Some timeouts
  pub token : List ℕ
  pub names : named_there s who p ≡ token ∷ []
  pub timeout : Option ℕ
  pub timeout_is : timeout ≡ next_timeout most timeouts token (discovered_locks s.locks p)
  pub own : ¬ IsAnothers s who p token
  pub course : change_course method.Lock s.map p headers ≡ Ok tt
  pub refreshes : RefreshesOwn s who p token timeout s'
  pub tells : sent ≡ document_sent (written_pieces (discovery_pieces prefix who.principal who.now
      (retimed_locks who.now token timeout (discovered_locks s.locks p))))

-- ---- refusals

-- Each refusal of a LOCK without a body, and where it comes: first a `Timeout` that can't be read; then no named token that a lock has which covers the path, or several of
-- them; then a lock with the token at the path or above that is another's; and then the conditions of HTTP (RFC 9110 section 13.2.1).
pub data FailsToRefresh (headers : Entries FieldValue) (s : State) (who : Caller) (p : Path) : Fault → Type 0 where
  memory : FailsToRefresh headers s who p fault.InsufficientStorage
  unread : timeouts_in headers ≡ None → FailsToRefresh headers s who p fault.BadRequest
  none : (timeouts : List DavTimeout) → timeouts_in headers ≡ Some timeouts → named_there s who p ≡ [] → FailsToRefresh headers s who p fault.PreconditionFailed
  several : (timeouts : List DavTimeout) → timeouts_in headers ≡ Some timeouts → 1 < length (named_there s who p) → FailsToRefresh headers s who p fault.BadRequest
  anothers : (timeouts : List DavTimeout) (token : List ℕ) → timeouts_in headers ≡ Some timeouts → named_there s who p ≡ token ∷ [] → IsAnothers s who p token
      → FailsToRefresh headers s who p fault.Forbidden
  course : (e : Fault) (timeouts : List DavTimeout) (token : List ℕ) → timeouts_in headers ≡ Some timeouts → named_there s who p ≡ token ∷ [] → ¬ IsAnothers s who p token
      → change_course method.Lock s.map p headers ≡ Err e → FailsToRefresh headers s who p e
