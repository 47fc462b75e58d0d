-- What is left where a resource is moved, and which locks refuse it (RFC 4918 sections 7, 9.9 and 11.5).
use Rattle.std.specs.Prelude.{◌≡◌, true, false, ℕ, List, [], ◌∷◌, ◌++◌, None, IsSome, option_map}
use Rattle.dav_path_core.specs.Fronts.{Path, is_front, parent}
use Rattle.dav_files_core.specs.Following.{dated_folder}
use Rattle.dav_files_core.specs.Resources.{IsResourceMap, at_path}
use Rattle.dav_locks_core.specs.Lock.{Lock}
use Rattle.dav_locks_core.specs.Locks.{without_below}
use Rattle.dav_guarded_core.specs.Step.{State}
use Rattle.dav_session_core.specs.Callers.{Caller}
use Rattle.dav_session_core.specs.Clearing.{refusing_clearing}
use Rattle.dav_session_core.specs.Ends.{HasFolder, is_related}
use Rattle.dav_session_core.specs.Removing.{refusing_removal}

-- All at or below the source stands at or below the target, as it was; nothing is left at the source, and its locks are gone; both folders were changed at the moment; each other
-- place is as it was.
pub record IsMoved (now : ℕ) (from to : Path) (s s' : State) : Type 0 where
  pub there : (rest : Path) → at_path s'.map (to ++ rest) ≡ at_path s.map (from ++ rest)
  pub gone : (q : Path) → is_front from q ≡ true → at_path s'.map q ≡ None
  pub others : (q : Path) → is_front from q ≡ false → is_front to q ≡ false → at_path s'.map q ≡ option_map (dated_folder from to now q) (at_path s.map q)
  pub next : s'.map.next ≡ s.map.next
  pub locks : s'.locks ≡ without_below from s.locks
  pub rng : s'.rng ≡ s.rng

-- ---- which locks refuse it

-- those at its target: that refuse that a folder goes first; or where no folder stands, that refuse a change of the place, of anything below it, or of the folder above
abbrev pub refusing_place : State → Caller → Path → List Path → List Lock
refusing_place s who to [] = refusing_removal s who (to ∷ [])
refusing_place s who to (q ∷ gone) = refusing_clearing s who to (q ∷ gone)

-- and those that refuse to take away the source
abbrev pub refusing_move : State → Caller → Path → Path → List Path → List Lock
refusing_move s who from to gone = refusing_removal s who (from ∷ []) ++ refusing_place s who to gone

-- It can be moved: something stands at the source; neither end is at or below the other; a folder stands above the target, and nothing below it; and no lock refuses it.
pub record CanMove (s : State) (who : Caller) (from to : Path) : Type 0 where
  pub shape : IsResourceMap s.map
  pub stands : IsSome (at_path s.map from)
  pub apart : is_related false from to ≡ false
  pub above : HasFolder s.map (parent to)
  pub no_folder : ¬ HasFolder s.map to
  pub free : refusing_removal s who (from ∷ to ∷ []) ≡ []
