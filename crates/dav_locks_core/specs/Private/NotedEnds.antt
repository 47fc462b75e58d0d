-- Where the locks of a tree stand, by their numbers, and when they end.
use Rattle.std.specs.Prelude.{◌≡◌, ◌≢◌, ℕ, ◌==◌, Bool, false, ◌<◌, ◌≤◌, List, Option, Some, None, slice_index_or}
use Rattle.std.specs.BTreeMap.{get}
use Rattle.std.specs.Ordering.{nat_cmp, ordering_then}
use Rattle.std.specs.declared.cmp.Ordering.{Ordering}
use Rattle.std.specs.FinMap.{find}
use Rattle.dav_path_core.specs.ChildIndex.{Index, IsIndex}
use Rattle.dav_locks_core.specs.Lock.{Lock}
use Rattle.dav_locks_core.specs.Private.LockTree.{NumberedLock, LockTree, locks_at}
use Rattle.dav_locks_core.specs.Private.LockRepresents.{IsLockTree}
pub use Rattle.dav_locks_core.specs.declared.memls.ends.Ends.{Ends}

-- by the end, then by the number
abbrev pub end_cmp : ℕ × ℕ → ℕ × ℕ → Ordering
end_cmp a b = ordering_then (nat_cmp a.0 b.0) (nat_cmp a.1 b.1)

-- the node that is noted for the lock with a number: under the number alone, or under an end and the number
abbrev pub noted_node : Ends → Option ℕ → ℕ → Option ℕ
noted_node ends None number = get nat_cmp ends.nodes number
noted_node ends (Some end) number = get end_cmp ends.by_end (end, number)

abbrev pub SameEnds : Ends → Ends → Type 0
SameEnds old new = (k : Option ℕ) (g : ℕ) → noted_node new k g ≡ noted_node old k g

-- the number alone
abbrev pub IsAlone : Option ℕ → Type 0
IsAlone None = Unit {0}
IsAlone (Some e) = ⊥

-- the end of a lock, if it has one
abbrev pub IsEndOf : Option ℕ → Option ℕ → Type 0
IsEndOf end None = ⊥
IsEndOf end (Some e) = end ≡ Some e

-- either: a lock with that end is noted under these
abbrev pub IsKeyOf : Option ℕ → Option ℕ → Type 0
IsKeyOf end None = Unit {0}
IsKeyOf end (Some e) = end ≡ Some e

-- new has this node, or none, for the lock with that number under these keys, and else what old has
pub record NotesAt (old new : Ends) (keys : Option ℕ → Type 0) (number : ℕ) (node : Option ℕ) : Type 0 where
  pub this : (k : Option ℕ) → keys k → noted_node new k number ≡ node
  pub others : (k : Option ℕ) (g : ℕ) → (keys k → g ≡ number → ⊥) → noted_node new k g ≡ noted_node old k g

-- the end of a lock is noted, or forgotten
abbrev pub NotesEnd : Ends → Ends → Option ℕ → ℕ → Option ℕ → Type 0
NotesEnd old new end = NotesAt old new (IsEndOf end)

-- and so is where it stands
abbrev pub Notes : Ends → Ends → Option ℕ → ℕ → Option ℕ → Type 0
Notes old new end = NotesAt old new (IsKeyOf end)

-- new is old, but for the lock with this number: it is noted under these keys alone, with n
pub record Renotes (old new : Ends) (number : ℕ) (keys : Option ℕ → Type 0) (n : ℕ) : Type 0 where
  pub others : (k : Option ℕ) (g : ℕ) → g ≢ number → noted_node new k g ≡ noted_node old k g
  pub noted : (k : Option ℕ) → keys k → noted_node new k number ≡ Some n
  pub only : (k : Option ℕ) (m : ℕ) → noted_node new k number ≡ Some m → keys k × (m ≡ n)

-- whether both are ends at one moment
abbrev pub same_end : Option ℕ → Option ℕ → Bool
same_end None end = false
same_end (Some was) None = false
same_end (Some was) (Some end) = was == end

-- no end has come
abbrev pub NoneEnds : Ends → ℕ → Type 0
NoneEnds ends now = (e g n : ℕ) → noted_node ends (Some e) g ≡ Some n → now < e

-- the lock with that number at that node is one whose end has come, and it is forgotten
pub record TakesEnded (old new : Ends) (now number node : ℕ) : Type 0 where
  pub end : ℕ
  pub has_come : end ≤ now
  pub was : noted_node old (Some end) number ≡ Some node
  pub gone : Notes old new (Some end) number None

-- new is old without the first so many of these locks
pub record ForgetsFirst (granted : List NumberedLock) (count : ℕ) (old new : Ends) : Type 0 where
  pub only : (k : Option ℕ) (g n : ℕ) → noted_node new k g ≡ Some n → noted_node old k g ≡ Some n
  pub gone : (i : ℕ) (k : Option ℕ) (d : NumberedLock) → i < count → IsKeyOf (slice_index_or granted i d).1.timeout_at k → noted_node new k (slice_index_or granted i d).0 ≡ None
  pub kept : (k : Option ℕ) (g n : ℕ) → noted_node old k g ≡ Some n → ((i : ℕ) (d : NumberedLock) → i < count → (slice_index_or granted i d).0 ≡ g → IsKeyOf (slice_index_or granted i d).1.timeout_at k → ⊥) → noted_node new k g ≡ Some n

-- new is old without the locks at the nodes of which P holds
pub record ForgetsEnds (t : LockTree) (old new : Ends) (P : ℕ → Type 0) : Type 0 where
  pub only : (k : Option ℕ) (g n : ℕ) → noted_node new k g ≡ Some n → noted_node old k g ≡ Some n
  pub gone : (k : Option ℕ) (g n : ℕ) (l : Lock) → P n → find nat_cmp g (locks_at t n) ≡ Some l → IsKeyOf l.timeout_at k → noted_node new k g ≡ None
  pub kept : (k : Option ℕ) (g n : ℕ) → noted_node old k g ≡ Some n → (P n → ⊥) → noted_node new k g ≡ Some n

-- each lock is noted with its node, and nothing else is
pub record AreEndsNoted (t : LockTree) (ends : Ends) : Type 0 where
  pub noted : (k : Option ℕ) (g n : ℕ) (l : Lock) → find nat_cmp g (locks_at t n) ≡ Some l → IsKeyOf l.timeout_at k → noted_node ends k g ≡ Some n
  pub only : (k : Option ℕ) (g n : ℕ) → noted_node ends k g ≡ Some n → (l : Lock) × (find nat_cmp g (locks_at t n) ≡ Some l) × IsKeyOf l.timeout_at k

-- a tree of locks, and what is noted of them
pub record IsNotedTree (t : LockTree) (next : ℕ) (ends : Ends) : Type 0 where
  pub tree : IsLockTree t next
  pub are_ends : AreEndsNoted t ends

-- what locks in memory keep: that, and an index of the segments of the tree
pub record IsStored (t : LockTree) (next : ℕ) (ends : Ends) (ix : Index) : Type 0 where
  pub kept : IsNotedTree t next ends
  pub indexed : IsIndex t ix
