-- A tree of locks and the list of its locks, with their grant numbers, which it represents.
use Rattle.std.specs.Prelude.{◌≡◌, ℕ, ◌<◌, List, Some, T}
use Rattle.std.specs.Ordering.{nat_cmp}
use Rattle.std.specs.FinMap.{find, is_sorted}
use Rattle.dav_path_core.specs.Keyed.{IsTree}
use Rattle.dav_locks_core.specs.Lock.{Lock}
use Rattle.dav_locks_core.specs.Locks.{lock_path}
use Rattle.dav_locks_core.specs.Private.LockTree.{NumberedLock, LockTree, locks_at, node_below, is_segment, all_granted, lock_list}
use Rattle.dav_locks_core.specs.Private.Pruning.{AllNeeded}
use Rattle.dav_locks_core.specs.Exclusive.{Exclusive}

-- the list and the locks at each node are in the order of their numbers, which are below the next; each lock at a node is of
-- the list, and its path leads to the node; each of the list stands at a node
pub record Represents (t : LockTree) (granted : List NumberedLock) (next : ℕ) : Type 0 where
  pub tree : IsTree is_segment t
  pub in_order : T (is_sorted nat_cmp granted)
  pub nodes_in_order : (n : ℕ) → T (is_sorted nat_cmp (locks_at t n))
  pub listed : (n g : ℕ) (l : Lock) → find nat_cmp g (locks_at t n) ≡ Some l → (find nat_cmp g granted ≡ Some l) × (node_below t 1 (lock_path l) ≡ Some n)
  pub stands : (g : ℕ) (l : Lock) → find nat_cmp g granted ≡ Some l → (n : ℕ) × (find nat_cmp g (locks_at t n) ≡ Some l)
  pub below : (g : ℕ) (l : Lock) → find nat_cmp g granted ≡ Some l → g < next

-- a tree of locks that represents its list, in which two locks that cover one path are both shared
pub record IsLockList (t : LockTree) (next : ℕ) : Type 0 where
  pub represents : Represents t (all_granted t) next
  pub exclusive : Exclusive (lock_list t)

-- what a lock list keeps: that, and no node that no lock needs
pub record IsLockTree (t : LockTree) (next : ℕ) : Type 0 where
  pub list : IsLockList t next
  pub needed : AllNeeded t
