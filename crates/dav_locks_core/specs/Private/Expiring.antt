-- What is left of a tree of locks where those go whose end has come.
use Rattle.std.specs.Prelude.{◌≡◌, ℕ}
use Rattle.dav_locks_core.specs.Stale.{without_stale}
use Rattle.dav_locks_core.specs.Private.NotedEnds.{Ends, IsNotedTree}
use Rattle.dav_locks_core.specs.Private.LockTree.{LockTree, lock_list}

-- u is t without them, and when its locks end is noted
pub record Expires (t u : LockTree) (old new : Ends) (now : ℕ) : Type 0 where
  pub kept : (next : ℕ) → IsNotedTree t next old → IsNotedTree u next new
  pub left : (next : ℕ) → IsNotedTree t next old → lock_list u ≡ without_stale now (lock_list t)
