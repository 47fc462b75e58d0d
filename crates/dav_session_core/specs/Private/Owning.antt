-- Whose locks have a token. Private contracts alone speak of it.
use Rattle.std.specs.Prelude.{◌≡◌, ℕ, Bool, true, not, ◌&&◌, bytes_eq, List, Contains}
use Rattle.dav_path_core.specs.Fronts.{Path}
use Rattle.dav_locks_core.specs.Lock.{Lock}
use Rattle.dav_locks_core.specs.Locks.{found_here}
use Rattle.dav_guarded_core.specs.Step.{State}
use Rattle.dav_session_core.specs.Callers.{Caller, is_own}

-- the lock has the token and another principal
abbrev pub is_anothers : Caller → List ℕ → Lock → Bool
is_anothers who token l = bytes_eq l.token token && not (is_own who l)

-- each lock with the token at the path or above is the caller's own
abbrev pub AllOwn : State → Caller → Path → List ℕ → Type 0
AllOwn s who p token = (l : Lock) → Contains s.locks l → found_here p token l ≡ true → is_own who l ≡ true
