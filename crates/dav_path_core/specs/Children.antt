-- The children of a node with their keys, as `Children` gives them (own).
use Rattle.std.specs.Prelude.{◌≡◌, ℕ, Bool, true, List, map}
use Rattle.std.specs.List.{All}
use Rattle.dav_path_core.specs.Keyed.{IsChild}
use Rattle.dav_path_core.specs.TreeValue.{TreeValue, IsChildList}

module _ {K D : Type 0} where
  -- the number is a child of p, and the key equals its own
  abbrev pub IsChildNamed : (K → K → Bool) → TreeValue K D → ℕ → K × ℕ → Type 0
  IsChildNamed eq t p q = (k : K) × IsChild t.keyed p k q.1 × (eq k q.0 ≡ true)

  -- the pairs are of the children of p, each once, in the order of p's list
  pub record ListsChildren (eq : K → K → Bool) (t : TreeValue K D) (p : ℕ) (pairs : List (K × ℕ)) : Type 0 where
    pub listed : IsChildList t p (map (λ q. q.1) pairs)
    pub named : All (IsChildNamed eq t p) pairs
