-- The place of a lock that is to be added to a tree of locks.
use Rattle.std.specs.Prelude.{◌≡◌, ℕ, Option, Some}
use Rattle.dav_path_core.specs.Fronts.{Path}
use Rattle.dav_path_core.specs.Keyed.{IsKnown}
use Rattle.dav_locks_core.specs.Private.NotedEnds.{Ends, Notes, SameEnds}
use Rattle.dav_locks_core.specs.Private.LockTree.{LockTree, node_below}
use Rattle.dav_locks_core.specs.Private.Pruning.{AllNeeded, NeededBut, SameLocks}

-- u is t with a node n at the path, where the lock with that end and number is noted, which is to stand there
pub record IsPlace (t u : LockTree) (old new : Ends) (p : Path) (end : Option ℕ) (number n : ℕ) : Type 0 where
  pub same : SameLocks t u
  pub leads : node_below u 1 p ≡ Some n
  pub known : IsKnown u n
  pub needed : NeededBut u n
  pub noted : Notes old new end number (Some n)

-- u has the locks of t, with the same ends, and no node that no lock needs
pub record IsPruned (t u : LockTree) (old new : Ends) : Type 0 where
  pub same : SameLocks t u
  pub needed : AllNeeded u
  pub ends : SameEnds old new
