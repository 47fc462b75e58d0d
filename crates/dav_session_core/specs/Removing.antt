-- What is left where all at or below a path is taken away, and which locks refuse it (RFC 4918 sections 7.1, 7.4 and 9.6).
use Rattle.std.specs.Prelude.{◌≡◌, ◌≢◌, true, false, ℕ, List, None, option_map}
use Rattle.std.specs.List.{flat_map}
use Rattle.dav_path_core.specs.Fronts.{Path, is_front, parent}
use Rattle.dav_files_core.specs.Following.{dated_entry}
use Rattle.dav_files_core.specs.Resources.{at_path}
use Rattle.dav_locks_core.specs.Lock.{Lock}
use Rattle.dav_locks_core.specs.Locks.{without_below}
use Rattle.dav_guarded_core.specs.Checks.{member, refusing}
use Rattle.dav_guarded_core.specs.Step.{State}
use Rattle.dav_session_core.specs.Callers.{Caller, as_caller}

-- the locks that refuse the caller to take away what stands at the places: at one of them, below it, or at the folder that it stands in
abbrev pub refusing_removal : State → Caller → List Path → List Lock
refusing_removal s who places = refusing s.locks (as_caller who) (flat_map (λ q. member q true) places)

-- All at or below the path is gone, with its locks, and the folder above was changed at the moment.
-- Each other place is as it was. No two states are left so.
pub record IsRemoved (now : ℕ) (p : Path) (s s' : State) : Type 0 where
  pub gone : (q : Path) → is_front p q ≡ true → at_path s'.map q ≡ None
  pub above : at_path s'.map (parent p) ≡ option_map (dated_entry now) (at_path s.map (parent p))
  pub others : (q : Path) → is_front p q ≡ false → q ≢ parent p → at_path s'.map q ≡ at_path s.map q
  pub next : s'.map.next ≡ s.map.next
  pub locks : s'.locks ≡ without_below p s.locks
  pub rng : s'.rng ≡ s.rng
