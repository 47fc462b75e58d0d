-- Which lock a LOCK without a body names, how it is told, and why the request is refused.
use Rattle.std.proofs.Common.{◌≡◌, ◌⊎◌, inl, inr, ℕ, true, false, cond, List, [], ◌∷◌, Option, Some, None, Err, sym, ◌∙◌, ap, subst}
use Rattle.std.specs.Prelude.{bytes_eq, filter}
use Rattle.std.proofs.lemmas.List.Elements.{filter_agree}
use Rattle.http_header.specs.FieldValue.{FieldValue}
use Rattle.http_header.specs.HeaderMap.{Entries}
use Rattle.dav_headers_core.specs.declared.davheaders.timeouts.DavTimeout.{DavTimeout}
use Rattle.dav_path_core.specs.declared.util.DavMethod.TheVariants as method
use Rattle.dav_path_core.specs.Fronts.{Path}
use Rattle.dav_locks_core.specs.Lock.{Lock}
use Rattle.dav_locks_core.specs.Locks.{discovered_locks, refreshed_lock}
use Rattle.dav_guarded_core.specs.Step.{State}
use Rattle.dav_faults_core.specs.declared.faults.Fault.{Fault}
use Rattle.dav_faults_core.specs.declared.faults.Fault.TheVariants as fault
use Rattle.dav_session_core.specs.Callers.{Caller}
use Rattle.dav_session_core.specs.Conditions.{has_token}
use Rattle.dav_fields_core.specs.LockTimeouts.{timeouts_in}
use Rattle.dav_methods_core.specs.ChangeConditions.{change_course}
use Rattle.dav_methods_core.specs.RefreshMethod.{NotOne, is_token_of_one, FailsToRefresh, named_there, told_with}
use Rattle.dav_session_core.specs.Unlocking.{IsAnothers}
use Rattle.dav_locks_core.proofs.answers.CoveringTokens.{any_discovered}

-- ---- which named token a lock has

-- of the locks that are discovered one has the token where one has it that covers the path
pub named_is : (s : State) (who : Caller) (p : Path) (locks : List Lock) (tokens : List (List ℕ)) → locks ≡ discovered_locks s.locks p → tokens ≡ who.tokens
    → filter (is_token_of_one locks) tokens ≡ named_there s who p
named_is s who p locks tokens found named =
    ap (λ (ls : List Lock). filter (is_token_of_one ls) tokens) found
    ∙ ap (filter (is_token_of_one (discovered_locks s.locks p))) named
    ∙ filter_agree (is_token_of_one (discovered_locks s.locks p)) (has_token s p)
    (λ token. any_discovered (λ (l : Lock). bytes_eq l.token token) s.locks p) who.tokens

-- ---- locks as they are told

-- one with the token has another timeout and another end, and one without it stays
pub told_one : (now : ℕ) (token : List ℕ) (timeout : Option ℕ) (l m : Lock) → l ≡ m → bytes_eq l.token token ≡ true → refreshed_lock now timeout l ≡ told_with now token timeout m
told_one now token timeout l m same named =
    sym (ap (λ b. cond b (refreshed_lock now timeout l) l) named) ∙ ap (told_with now token timeout) same

pub told_other : (now : ℕ) (token : List ℕ) (timeout : Option ℕ) (l m : Lock) → l ≡ m → bytes_eq l.token token ≡ false → l ≡ told_with now token timeout m
told_other now token timeout l m same other = sym (ap (λ b. cond b (refreshed_lock now timeout l) l) other) ∙ ap (told_with now token timeout) same

-- ---- refusals

module _ (headers : Entries FieldValue) (s : State) (who : Caller) (p : Path) (e : Fault) where
  pub fails_short : e ≡ fault.InsufficientStorage → FailsToRefresh headers s who p e
  fails_short short = subst (FailsToRefresh headers s who p) (sym short) FailsToRefresh.memory

  pub fails_unread : (e ≡ fault.InsufficientStorage) ⊎ ((e ≡ fault.BadRequest) × (timeouts_in headers ≡ None)) → FailsToRefresh headers s who p e
  fails_unread (inl short) = fails_short short
  fails_unread (inr h) = subst (FailsToRefresh headers s who p) (sym h.0) (FailsToRefresh.unread h.1)

  pub fails_anothers : (timeouts : List DavTimeout) (token : List ℕ) → timeouts_in headers ≡ Some timeouts → named_there s who p ≡ token ∷ []
      → (e ≡ fault.InsufficientStorage) ⊎ ((e ≡ fault.Forbidden) × IsAnothers s who p token) → FailsToRefresh headers s who p e
  fails_anothers timeouts token read names (inl short) = fails_short short
  fails_anothers timeouts token read names (inr h) = subst (FailsToRefresh headers s who p) (sym h.0) (FailsToRefresh.anothers timeouts token read names h.1)

  pub fails_course : (timeouts : List DavTimeout) (token : List ℕ) → timeouts_in headers ≡ Some timeouts → named_there s who p ≡ token ∷ [] → ¬ IsAnothers s who p token
      → (e ≡ fault.InsufficientStorage) ⊎ (change_course method.Lock s.map p headers ≡ Err e) → FailsToRefresh headers s who p e
  fails_course timeouts token read names own (inl short) = fails_short short
  fails_course timeouts token read names own (inr withheld) = FailsToRefresh.course e timeouts token read names own withheld

pub fails_unnamed : (headers : Entries FieldValue) (s : State) (who : Caller) (p : Path) (e : Fault) (timeouts : List DavTimeout) → timeouts_in headers ≡ Some timeouts
    → NotOne (named_there s who p) e → FailsToRefresh headers s who p e
fails_unnamed headers s who p fault.InsufficientStorage timeouts read h = FailsToRefresh.memory
fails_unnamed headers s who p fault.PreconditionFailed timeouts read h = FailsToRefresh.none timeouts read h
fails_unnamed headers s who p fault.BadRequest timeouts read h = FailsToRefresh.several timeouts read h
fails_unnamed headers s who p _ timeouts read h = absurd h
