-- Which nodes of a tree of locks are needed, and what is left of a tree where others go.
use Rattle.std.specs.Prelude.{◌≡◌, ◌≢◌, ◌⊎◌, ℕ, [], Some, None}
use Rattle.dav_path_core.specs.Fronts.{Path}
use Rattle.dav_path_core.specs.Keyed.{IsKnown, Under, parent_number, parent_and_key, entry, IsTree}
use Rattle.dav_locks_core.specs.Private.LockTree.{LockTree, is_segment, locks_at, node_below}

-- the root, or a node at which or below which a lock stands
abbrev pub IsNeeded : LockTree → ℕ → Type 0
IsNeeded t n = (n ≡ 1) ⊎ ((m : ℕ) × Under (parent_number t) n m × (locks_at t m ≢ []))

-- each node is needed: they are the fronts of the paths of the locks, and no more
abbrev pub AllNeeded : LockTree → Type 0
AllNeeded t = (n : ℕ) → IsKnown t n → IsNeeded t n

-- each node that isn't needed stands at n or above it
abbrev pub NeededBut : LockTree → ℕ → Type 0
NeededBut t n = (k : ℕ) → IsKnown t k → IsNeeded t k ⊎ Under (parent_number t) k n

-- u has the locks of t, and the same ways lead to them
pub record SameLocks (t u : LockTree) : Type 0 where
  pub tree : IsTree is_segment u
  pub locks : (n : ℕ) → locks_at u n ≡ locks_at t n
  pub ways : (n : ℕ) (p : Path) → locks_at t n ≢ [] → node_below t 1 p ≡ Some n → node_below u 1 p ≡ Some n

-- u is t without what stands below top, and without the locks at top
pub record Cleared (t u : LockTree) (top : ℕ) : Type 0 where
  pub tree : IsTree is_segment u
  pub known : IsKnown u top
  pub same_place : parent_and_key u top ≡ parent_and_key t top
  pub here : locks_at u top ≡ []
  pub below : (n : ℕ) → Under (parent_number t) top n → n ≢ top → entry u n ≡ None
  pub kept : (n : ℕ) → (Under (parent_number t) top n → ⊥) → entry u n ≡ entry t n
