-- The locks of a tree, by their numbers and nodes.
use Rattle.std.specs.Prelude.{ℕ, List, [], ◌∷◌, Option, Some, None, IsSome, T}
use Rattle.std.specs.List.{AllByRecursion}
use Rattle.std.specs.Ordering.{nat_cmp}
use Rattle.std.specs.FinMap.{find, is_sorted}
use Rattle.dav_locks_core.specs.Lock.{Lock}
use Rattle.dav_locks_core.specs.Private.LockTree.{LockTree, locks_at}

-- one lock, if there is one, and others behind it
abbrev pub with_lock_first : Option Lock → List Lock → List Lock
with_lock_first None others = others
with_lock_first (Some l) others = l ∷ others

-- the locks with these numbers at these nodes
unfoldable pub locks_by : LockTree → List (ℕ × ℕ) → List Lock
locks_by t [] = []
locks_by t (p ∷ places) = with_lock_first (find nat_cmp p.0 (locks_at t p.1)) (locks_by t places)

-- each of them is there, and the locks at each node are in the order of their numbers
pub record AllThere (t : LockTree) (places : List (ℕ × ℕ)) : Type 0 where
  pub in_order : (n : ℕ) → T (is_sorted nat_cmp (locks_at t n))
  pub stand : AllByRecursion (λ p. IsSome (find nat_cmp p.0 (locks_at t p.1))) places
