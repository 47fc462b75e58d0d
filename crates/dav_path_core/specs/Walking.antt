-- The walk of what stands at a node and below it, along first children, siblings and parents: first a node, and then what is
-- below it (own).
use Rattle.std.specs.Prelude.{◌≡◌, ◌≢◌, ◌⊎◌, ◌↔◌, ◌==◌, ℕ, zero, suc, eqb, if◌then◌else◌, List, [], ◌∷◌, ◌++◌, Option, Some, None}
use Rattle.std.specs.FinMap.{len}
use Rattle.std.specs.List.{IsDistinct}
use Rattle.std.specs.Option.{option_or}
use Rattle.dav_path_core.specs.Keyed.{Keyed, IsIn, IsKnown, Under, parent_number}
use Rattle.dav_path_core.specs.TreeValue.{TreeValue, first, after}

-- s is a sibling behind n
pub data Follows (next : ℕ → Option ℕ) : ℕ → ℕ → Type 0 where
  right_behind : {n s : ℕ} → next n ≡ Some s → Follows next n s
  further : {n m s : ℕ} → next n ≡ Some m → Follows next m s → Follows next n s

-- q is at or below a sibling behind n, or behind one of the numbers from n up to top, top aside
pub data Later {K D : Type 0} (t : TreeValue K D) (top : ℕ) : ℕ → ℕ → Type 0 where
  beside : {n s q : ℕ} → n ≢ top → Follows (after t) n s → Under (parent_number t.keyed) s q → Later t top n q
  above : {n p q : ℕ} → n ≢ top → parent_number t.keyed n ≡ Some p → Later t top p q → Later t top n q

module _ {K D : Type 0} where
  -- q is still to be met by a walk below top that stands at n
  abbrev pub ToCome : TreeValue K D → ℕ → ℕ → ℕ → Type 0
  ToCome t top n q = Under (parent_number t.keyed) n q ⊎ Later t top n q

  -- a walk below top that has met n goes on to m
  pub record WalkGoesOn (t : TreeValue K D) (top n m : ℕ) : Type 0 where
    pub under : Under (parent_number t.keyed) top m
    pub known : IsKnown t.keyed m
    pub rest : (q : ℕ) → ToCome t top n q → (q ≡ n) ⊎ ToCome t top m q
    pub back : (q : ℕ) → ToCome t top m q → ToCome t top n q
    pub passed : ToCome t top m n → ⊥

  -- a walk below top that has met n is over
  abbrev pub IsWalkOver : TreeValue K D → ℕ → ℕ → Type 0
  IsWalkOver t top n = (q : ℕ) → ToCome t top n q → q ≡ n

  -- the next sibling of n, or of the nearest number above it that has one, looking at no more than so many numbers; none from top on
  abbrev pub climbs : TreeValue K D → ℕ → ℕ → ℕ → Option ℕ
  climbs t top zero n = None
  climbs t top (suc steps) n =
      if n == top then None else option_or (after t n) (elim (parent_number t.keyed n) [ None ↦ None | Some p ↦ climbs t top steps p ])

  -- the number after n in the walk below top
  abbrev pub following : TreeValue K D → ℕ → ℕ → Option ℕ
  following t top n = option_or (first t n) (climbs t top (len t.keyed.nodes) n)

  -- the numbers that a walk from the root meets from o on, so many at most
  abbrev pub numbers_from : TreeValue K D → ℕ → Option ℕ → List ℕ
  numbers_from t zero o = []
  numbers_from t (suc left) None = []
  numbers_from t (suc left) (Some n) = n ∷ numbers_from t left (following t 1 n)

  -- the numbers of the nodes, each once, and each behind its parent
  pub record IsTreeWalk (t : Keyed K D) (ns : List ℕ) : Type 0 where
    pub members : (n : ℕ) → IsIn n ns ↔ IsKnown t n
    pub once : IsDistinct eqb ns
    pub behind : (front rest : List ℕ) (n p : ℕ) → ns ≡ front ++ n ∷ rest → parent_number t n ≡ Some p → IsIn p front
