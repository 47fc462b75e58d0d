-- Which lock an UNLOCK ends, and why none (RFC 4918 section 9.11).
use Rattle.std.specs.Prelude.{◌≡◌, true, false, ℕ, List, Some, Contains, get_or, remove}
use Rattle.dav_path_core.specs.Fronts.{Path}
use Rattle.dav_locks_core.specs.Lock.{Lock}
use Rattle.dav_locks_core.specs.Locks.{found_token, found_here}
use Rattle.dav_guarded_core.specs.Step.{State}
use Rattle.dav_faults_core.specs.declared.faults.Fault.{Fault}
use Rattle.dav_faults_core.specs.declared.faults.Fault.TheVariants as fault
use Rattle.dav_session_core.specs.Callers.{Caller, is_own}
use Rattle.dav_session_core.specs.Conditions.{has_token}

-- a lock with the token stands at the path or above, and has another principal
abbrev pub IsAnothers : State → Caller → Path → List ℕ → Type 0
IsAnothers s who p token = (l : Lock) × Contains s.locks l × (found_here p token l ≡ true) × (is_own who l ≡ false)

-- Of a caller who names a token: the lock that is found with it at the path or above is the caller's own and is gone, and all else is as it was.
pub record EndsOwn (s : State) (who : Caller) (p : Path) (token : List ℕ) (s' : State) : Type 0 where
  pub place : ℕ
  pub found_there : found_token s.locks p token ≡ Some place
  pub own : (l : Lock) → is_own who (get_or s.locks place l) ≡ true
  pub left : s' ≡ record s { locks = remove s.locks place }

-- why it doesn't end: no lock with the token covers the path; or one is another's
abbrev pub KeepsLock : State → Caller → Path → List ℕ → Fault → Type 0
KeepsLock s who p token fault.InsufficientStorage = Unit {0}
KeepsLock s who p token fault.NoSuchLock = has_token s p token ≡ false
KeepsLock s who p token fault.Forbidden = (has_token s p token ≡ true) × IsAnothers s who p token
KeepsLock s who p token e = ⊥
