-- Lists of children as links in both directions between numbers (own).
use Rattle.std.specs.Prelude.{◌≡◌, ℕ, ◌↔◌, eqb, List, [], ◌∷◌, Option, Some, None}
use Rattle.std.specs.List.{IsDistinct}
use Rattle.dav_path_core.specs.Keyed.{IsIn}

-- the links from o on are ks, and each leads back to the one before, the first to b
abbrev pub AreLinks : (ℕ → Option ℕ) → (ℕ → Option ℕ) → Option ℕ → Option ℕ → List ℕ → Type 0
AreLinks after before b o [] = o ≡ None
AreLinks after before b o (n ∷ ns) = (o ≡ Some n) × (before n ≡ b) × AreLinks after before (Some n) (after n) ns

-- ks are the numbers with the parent p, each once
pub record IsChainOf (parent first after before : ℕ → Option ℕ) (p : ℕ) (ks : List ℕ) : Type 0 where
  pub linked : AreLinks after before None (first p) ks
  pub once : IsDistinct eqb ks
  pub members : (n : ℕ) → IsIn n ks ↔ (parent n ≡ Some p)

-- each number has such a list
pub record Linked (parent first after before : ℕ → Option ℕ) : Type 0 where
  pub listed : (p : ℕ) → (ks : List ℕ) × IsChainOf parent first after before p ks
