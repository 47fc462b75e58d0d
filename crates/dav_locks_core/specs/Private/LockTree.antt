-- The locks of a tree of segments: those that stand at each node, with their grant numbers, and the list that they make, in
-- the order of granting.
use Rattle.std.specs.Prelude.{◌≡◌, ℕ, Bool, true, false, List, [], ◌∷◌, ◌++◌, Option, Some, IsSome, option_map, option_and_then, map, filter, position, nat_eq, slice_index_or}
use Rattle.std.specs.Option.{option_or, unwrap_or}
use Rattle.std.specs.Ordering.{nat_cmp}
use Rattle.std.specs.FinMap.{entries, from_entries}
use Rattle.std.specs.Cmp.Lexicographic.{pointwise}
use Rattle.dav_path_core.specs.Fronts.{Segment, Path}
use Rattle.dav_path_core.specs.Keyed.{Keyed, Entry, item, child, IsKnown}
use Rattle.dav_locks_core.specs.Lock.{Lock}
use Rattle.dav_locks_core.specs.declared.ls.LockError.{LockError}
use Rattle.dav_locks_core.specs.declared.ls.LockError.TheVariants.{Conflict, OutOfMemory}

-- a lock with its grant number
abbrev pub NumberedLock : Type 0
NumberedLock = ℕ × Lock

abbrev pub LockTree : Type 0
LockTree = Keyed Segment (List NumberedLock)

-- the locks that stand at a node; none at an unknown one
abbrev pub locks_at : LockTree → ℕ → List NumberedLock
locks_at t n = unwrap_or (item t n) []

abbrev pub is_segment : Segment → Segment → Bool
is_segment = pointwise nat_eq

-- the child of a node, by its segment
abbrev pub child_at : LockTree → ℕ → Segment → Option ℕ
child_at t n s = child (λ k. is_segment k s) t n

-- the node to which a path leads down from a node
unfoldable pub node_below : LockTree → ℕ → Path → Option ℕ
node_below t n [] = Some n
node_below t n (s ∷ p) = option_and_then (λ c. node_below t c p) (child_at t n s)

abbrev pub all_standing : List (ℕ × Entry Segment (List NumberedLock)) → List NumberedLock
all_standing [] = []
all_standing (e ∷ es) = e.1.item ++ all_standing es

-- all of them, in the order of granting
unfoldable pub all_granted : LockTree → List NumberedLock
all_granted t = entries (from_entries {R = nat_cmp} (all_standing (entries t.nodes)))

abbrev pub locks_of : List NumberedLock → List Lock
locks_of granted = map (λ g. g.1) granted

abbrev pub lock_list : LockTree → List Lock
lock_list t = locks_of (all_granted t)

-- ---- the way down to a path

-- a place at a node, if there is one
abbrev pub at_node : ℕ → Option ℕ → Option (ℕ × ℕ)
at_node n o = option_map {U = ℕ × ℕ} (λ k. (n, k)) o

-- the place among the locks at a node of the first that passes
abbrev pub first_at : (Lock → Bool) → LockTree → ℕ → Option ℕ
first_at test t n = position (λ g. test g.1) (locks_at t n)

-- the node, and the place there, of the first lock that passes on the way down from a node; the test is told whether the lock
-- stands where the way ends
unfoldable pub lookup_lock : (Bool → Lock → Bool) → LockTree → ℕ → Path → Option (ℕ × ℕ)
lookup_lock test t n [] = at_node n (first_at (test true) t n)
lookup_lock test t n (s ∷ p) =
    option_or (at_node n (first_at (test false) t n)) (option_and_then (λ c. lookup_lock test t c p) (child_at t n s))

-- the locks that cover a path, on the way down to it from a node: the deep ones above it and those at its end
unfoldable pub covering_down : LockTree → ℕ → Path → List Lock
covering_down t n [] = locks_of (locks_at t n)
covering_down t n (s ∷ p) =
    filter (λ l. l.deep) (locks_of (locks_at t n)) ++ unwrap_or (option_map (λ c. covering_down t c p) (child_at t n s)) []

-- what is shown is the lock at that node and place, if there is memory to show it
abbrev pub ShowsAt : LockTree → Option (ℕ × ℕ) → LockError → Type 0
ShowsAt t o (Conflict l) =
    (f : ℕ × ℕ) × (o ≡ Some f) × ((d : NumberedLock) → l ≡ (slice_index_or (locks_at t f.0) f.1 d).1)
ShowsAt t o OutOfMemory = IsSome o

-- u is t with more nodes, at which no locks stand
pub record Grown (t u : LockTree) : Type 0 where
  pub known : (n : ℕ) → IsKnown t n → IsKnown u n
  pub locks : (n : ℕ) → locks_at u n ≡ locks_at t n
  pub ways : (n c : ℕ) (s : Segment) → child_at t n s ≡ Some c → child_at u n s ≡ Some c
