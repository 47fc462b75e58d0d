-- How a caller's own lock gets another end (RFC 4918 sections 6.6 and 9.10.2).
use Rattle.std.specs.Prelude.{◌≡◌, ℕ, true, List, Option, Some, get_or, set}
use Rattle.dav_path_core.specs.Fronts.{Path}
use Rattle.dav_locks_core.specs.Lock.{Lock}
use Rattle.dav_locks_core.specs.Locks.{found_token, refreshed_lock}
use Rattle.dav_guarded_core.specs.Step.{State}
use Rattle.dav_session_core.specs.Callers.{Caller, is_own}

-- Of a caller who names a token: the lock that is found with it at the path or above is the caller's own and has another end, and all else is as it was.
pub record RefreshesOwn (s : State) (who : Caller) (p : Path) (token : List ℕ) (timeout : Option ℕ) (s' : State) : Type 0 where
  pub place : ℕ
  pub found_there : found_token s.locks p token ≡ Some place
  pub own : (l : Lock) → is_own who (get_or s.locks place l) ≡ true
  pub lock : Lock
  pub lock_is : lock ≡ refreshed_lock who.now timeout (get_or s.locks place lock)
  pub left : s' ≡ record s { locks = set s.locks place lock }
