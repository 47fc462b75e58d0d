-- Numbers above others in a tree.
use Rattle.std.proofs.Common.{◌≡◌, ◌≢◌, ◌⊎◌, inl, inr, ℕ, Bool, Option, Some, None, refl, sym, ap, ◌∙◌, subst}
use Rattle.std.proofs.lemmas.Bool.{cases_eq}
use Rattle.dav_path_core.specs.Keyed.{Keyed, Under, here, below, LeadsToRoot, root, up, parent_number, IsKnown, IsTree}
use Rattle.dav_path_core.proofs.trees.KeyedDepth.{top, no_cycle}
use Rattle.dav_path_core.proofs.trees.Trees.{none≢some, same_some}
use Rattle.dav_path_core.proofs.children.Walks.{parent_known}

module _ {f : ℕ → Option ℕ} where
  -- one step up
  pub Under-up : {n k p : ℕ} → Under f n k → n ≢ k → f k ≡ Some p → Under f n p
  Under-up here ne e = absurd (ne refl)
  Under-up {n = n} {p = p} (below {p = r} g u) ne e = subst (Under f n) (same_some r p (sym g ∙ e)) u

  -- a number above another has a number above it
  pub Under-step : {n k : ℕ} → Under f n k → k ≢ n → (p : ℕ) × (f k ≡ Some p) × Under f n p
  Under-step here ne = absurd (ne refl)
  Under-step (below {p = p} e u) ne = (p, e, u)

  -- of two numbers above one, one is above the other
  pub one_above : {a b k : ℕ} → Under f a k → Under f b k → Under f a b ⊎ Under f b a
  one_above here v = inr v
  one_above (below e u) here = inl (below e u)
  one_above {b = b} (below {p = p} e u) (below {p = q} g v) = one_above u (subst (Under f b) (same_some q p (sym g ∙ e)) v)

module _ {K D : Type 0} (eq : K → K → Bool) (t : Keyed K D) (tree : IsTree eq t) where
  -- a number isn't below its own child
  pub not_below_child : (n p : ℕ) → parent_number t n ≡ Some p → Under (parent_number t) n p → ⊥
  not_below_child n p e u = no_cycle (parent_number t) (top eq t tree) e (tree.attached p (parent_known eq t tree n p e)) u

  pub root_top : (n : ℕ) → Under (parent_number t) n 1 → n ≡ 1
  root_top n u = elim (cases_eq 1 n) [
    | inl is ↦ sym is
    | inr ne ↦ let s = Under-step u ne in absurd (none≢some s.0 (sym (top eq t tree) ∙ s.1))
  ]

  pub known_above : (n k : ℕ) → Under (parent_number t) n k → IsKnown t k → IsKnown t n
  known_above n k here known = known
  known_above n k (below {p = p} e u) known = known_above n p u (parent_known eq t tree k p e)

  pub not_root : (n p : ℕ) → parent_number t n ≡ Some p → n ≢ 1
  not_root n p e is = none≢some p (sym (top eq t tree) ∙ sym (ap (parent_number t) is) ∙ e)

  -- the root alone has no parent
  pub no_parent : (n : ℕ) → IsKnown t n → parent_number t n ≡ None → n ≡ 1
  no_parent n known none = by (tree.attached n known) none
    where
      by : {n : ℕ} → LeadsToRoot (parent_number t) n → parent_number t n ≡ None → n ≡ 1
      by root none = refl
      by (up {p = p} e l) none = absurd (none≢some p (sym none ∙ e))

  leads_under : (n : ℕ) → LeadsToRoot (parent_number t) n → Under (parent_number t) 1 n
  leads_under n root = here
  leads_under n (up {p = p} e l) = below e (leads_under p l)

  -- each node is at or below the root
  pub known_under : (n : ℕ) → IsKnown t n → Under (parent_number t) 1 n
  known_under n known = leads_under n (tree.attached n known)
