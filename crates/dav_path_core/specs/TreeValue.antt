-- What a contract sees of a `Tree`: the keyed tree that it holds, and each node's list of its children, as links between
-- numbers (own).
use Rattle.std.specs.Prelude.{◌≡◌, ℕ, ◌↔◌, Bool, eqb, List, [], ◌∷◌, Option, Some, None, refl}
use Rattle.std.specs.Ordering.{nat_cmp}
use Rattle.std.specs.List.{IsDistinct}
use Rattle.std.specs.Option.{option_map}
use Rattle.std.specs.Coded.{Coded, code_by, coded×, coded_ℕ, coded_option}
use Rattle.std.specs.FinMap.{FinMap, get, code}
use Rattle.dav_path_core.specs.Keyed.{Keyed, keyed_code, IsIn, IsKnown, IsTree, entry, parent_number}

-- the first child of a node, and the sibling after it
pub record Links : Type 0 where
  pub first : Option ℕ
  pub after : Option ℕ

pub record TreeValue (K D : Type 0) : Type 0 where
  pub keyed : Keyed K D
  pub links : FinMap nat_cmp Links

abbrev pub links_code : Coded Links
links_code = code_by (Option ℕ × Option ℕ) (coded× (coded_option coded_ℕ) (coded_option coded_ℕ)) (λ l. (l.first, l.after)) (λ p. record { first = p.0; after = p.1 }) (λ _. refl)

abbrev pub tree_value_code : {K D : Type 0} → Coded K → Coded D → Coded (TreeValue K D)
tree_value_code {K} {D} k d =
    code_by (Keyed K D × FinMap nat_cmp Links) (coded× (keyed_code k d) (code coded_ℕ links_code)) (λ t. (t.keyed, t.links)) (λ p. record { keyed = p.0; links = p.1 }) (λ _. refl)

abbrev pub links_first : Option Links → Option ℕ
links_first None = None
links_first (Some l) = l.first

abbrev pub links_after : Option Links → Option ℕ
links_after None = None
links_after (Some l) = l.after

-- the siblings from a number on, by `after`
pub data Siblings (after : ℕ → Option ℕ) : Option ℕ → List ℕ → Type 0 where
  done : Siblings after None []
  more : {n : ℕ} {ns : List ℕ} → Siblings after (after n) ns → Siblings after (Some n) (n ∷ ns)

module _ {K D : Type 0} where
  -- the first child of a number
  abbrev pub first : TreeValue K D → ℕ → Option ℕ
  first t p = links_first (get t.links p)

  -- the sibling after a number
  abbrev pub after : TreeValue K D → ℕ → Option ℕ
  after t n = links_after (get t.links n)

  -- a fact of a number, for a known one only
  abbrev pub if_known : {X : Type 0} → TreeValue K D → ℕ → X → Option X
  if_known t n x = option_map (λ _. x) (entry t.keyed n)

  -- ks are the children of p, each once
  pub record IsChildList (t : TreeValue K D) (p : ℕ) (ks : List ℕ) : Type 0 where
    pub linked : Siblings (after t) (first t p) ks
    pub once : IsDistinct eqb ks
    pub members : (n : ℕ) → IsIn n ks ↔ (parent_number t.keyed n ≡ Some p)

  -- what every tree keeps
  pub record IsTreeValue (eq : K → K → Bool) (t : TreeValue K D) : Type 0 where
    pub tree : IsTree eq t.keyed
    pub listed : (p : ℕ) → IsKnown t.keyed p → (ks : List ℕ) × IsChildList t p ks
    pub root_alone : after t 1 ≡ None
