-- What goes from the target of a COPY or a MOVE before it is written: a folder, with all that is in it and with its locks (RFC 4918 sections 9.8.4 and 9.9.3).
use Rattle.std.specs.Prelude.{◌≡◌, ◌⊎◌, false, ℕ, List, [], ◌∷◌, ◌++◌}
use Rattle.dav_path_core.specs.Fronts.{Path}
use Rattle.dav_locks_core.specs.Lock.{Lock}
use Rattle.dav_locks_core.specs.Locks.{check_conflicts, without_below}
use Rattle.dav_guarded_core.specs.Step.{State}
use Rattle.dav_session_core.specs.Callers.{Caller, as_caller}
use Rattle.dav_session_core.specs.Ends.{HasFolder}
use Rattle.dav_session_core.specs.Removing.{IsRemoved, refusing_removal}

-- The locks that refuse the caller to make something at the path, once those at the path and below it are gone.
abbrev pub refusing_anew : State → Caller → Path → List Lock
refusing_anew s who p = check_conflicts (without_below p s.locks) p false (as_caller who)

-- The locks that refuse it: those that refuse to take away any of what goes; and those that refuse to make something there behind that, when a lock by which the caller might
-- change the place has gone with what stood there.
abbrev pub refusing_clearing : State → Caller → Path → List Path → List Lock
refusing_clearing s who to [] = []
refusing_clearing s who to (q ∷ gone) = refusing_removal s who (q ∷ gone) ++ refusing_anew s who to

-- A folder that stood there is gone, with all in it. Where none stood nothing has changed.
abbrev pub IsCleared : ℕ → Path → State → State → Type 0
IsCleared now to s s' = (HasFolder s.map to × IsRemoved now to s s') ⊎ ((¬ HasFolder s.map to) × (s' ≡ s))
