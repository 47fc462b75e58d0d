-- The way up from a node has fewer numbers than the next number, so looking at that many is enough.
use Rattle.std.proofs.Common.{◌≡◌, ◌≢◌, ℕ, zero, suc, ◌+◌, ◌<◌, ◌≤◌, ◌||◌, Bool, true, false, List, [], ◌∷◌, length, Some, None, Option, refl, ap, sym, ◌∙◌, subst, inl, inr, arith, eqb}
use Rattle.std.specs.Option.{option_map}
use Rattle.std.specs.List.{list_any, IsDistinct}
use Rattle.std.proofs.lemmas.Bool.{cases_eq, eq-eqb, ne_eqb, eqb-true, or_cases, false≢true}
use Rattle.std.proofs.lemmas.Map.Steps.{length-le_from_distinct_below}
use Rattle.dav_path_core.specs.Keyed.{Keyed, LeadsToRoot, root, up, Under, here, below, meets, is_under, parent_number, IsKnown, IsTree}
use Rattle.dav_path_core.proofs.children.Chains.{more_distinct, no_distinct}
use Rattle.dav_path_core.proofs.trees.Trees.{none≢some, same_some, known_from_parent}

pub meets-here : (f : ℕ → Option ℕ) (m n k : ℕ) → k ≡ n → meets f (suc m) n k ≡ true
meets-here f m n k e = ap (λ b. b || elim (f k) [ None ↦ false | Some p ↦ meets f m n p ]) (eq-eqb k n e)

pub meets-up : (f : ℕ → Option ℕ) (m n k p : ℕ) → k ≢ n → f k ≡ Some p → meets f (suc m) n k ≡ meets f m n p
meets-up f m n k p ne e = ap (λ b. b || elim (f k) [ None ↦ false | Some p ↦ meets f m n p ]) (ne_eqb k n ne) ∙ ap (λ o. elim o [ None ↦ false | Some p ↦ meets f m n p ]) e

pub meets-top : (f : ℕ → Option ℕ) (m n k : ℕ) → k ≢ n → f k ≡ None → meets f (suc m) n k ≡ false
meets-top f m n k ne e = ap (λ b. b || elim (f k) [ None ↦ false | Some p ↦ meets f m n p ]) (ne_eqb k n ne) ∙ ap (λ o. elim o [ None ↦ false | Some p ↦ meets f m n p ]) e

abbrev pub depth : {f : ℕ → Option ℕ} {n : ℕ} → LeadsToRoot f n → ℕ
depth root = 0
depth (up e l) = suc (depth l)

abbrev pub way : {f : ℕ → Option ℕ} {n : ℕ} → LeadsToRoot f n → List ℕ
way root = 1 ∷ []
way (up {n = n} e l) = n ∷ way l

pub length-way : {f : ℕ → Option ℕ} {n : ℕ} (l : LeadsToRoot f n) → length (way l) ≡ suc (depth l)
length-way root = refl
length-way (up e l) = ap suc (length-way l)

module _ (f : ℕ → Option ℕ) (top : f 1 ≡ None) where
  -- two ways up from one number are as long
  depth-same : {m n : ℕ} → m ≡ n → (l : LeadsToRoot f m) (r : LeadsToRoot f n) → depth l ≡ depth r
  depth-same is root root = refl
  depth-same is root (up {p = p} e r) = absurd (none≢some p (sym top ∙ ap f is ∙ e))
  depth-same is (up {p = p} e l) root = absurd (none≢some p (sym top ∙ ap f (sym is) ∙ e))
  depth-same is (up {p = p} e l) (up {p = q} e' r) = ap suc (depth-same (same_some p q (sym e ∙ ap f is ∙ e')) l r)

  -- from each number on the way, a way that is no longer
  pub on_way : {n : ℕ} (l : LeadsToRoot f n) (k : ℕ) → list_any (eqb k) (way l) ≡ true → (r : LeadsToRoot f k) × (depth r ≤ depth l)
  on_way root k h = elim (or_cases (eqb k 1) false h) [ inl e ↦ (subst (LeadsToRoot f) (sym (eqb-true k 1 e)) root, omega (arith, depth-same (eqb-true k 1 e) (subst (LeadsToRoot f) (sym (eqb-true k 1 e)) root) root)) | inr e ↦ absurd (false≢true e) ]
  on_way (up {n = n} e l) k h = elim (or_cases (eqb k n) (list_any (eqb k) (way l)) h) [
    | inl is ↦ (subst (LeadsToRoot f) (sym (eqb-true k n is)) (up e l), omega (arith, depth-same (eqb-true k n is) (subst (LeadsToRoot f) (sym (eqb-true k n is)) (up e l)) (up e l)))
    | inr on ↦ let r = on_way l k on in (r.0, omega (arith, r.1))
  ]

  pub once : {n : ℕ} (l : LeadsToRoot f n) → IsDistinct eqb (way l)
  once root = more_distinct 1 [] (λ h. false≢true h) no_distinct
  once (up {n = n} e l) = more_distinct n (way l) (λ h. let r = on_way l n h in omega (arith, r.1, depth-same refl r.0 (up e l))) (once l)

  pub one_up : {k p : ℕ} (l : LeadsToRoot f k) → f k ≡ Some p → (r : LeadsToRoot f p) × (suc (depth r) ≡ depth l)
  one_up {p = p} root e = absurd (none≢some p (sym top ∙ e))
  one_up {p = p} (up {p = q} e' l) e =
      let is : q ≡ p = same_some q p (sym e' ∙ e) in (subst (LeadsToRoot f) is l, ap suc (depth-same (sym is) (subst (LeadsToRoot f) is l) l))

  -- the way from a number is no longer than from one below it
  above_shorter : {n k : ℕ} → Under f n k → (l : LeadsToRoot f k) → (r : LeadsToRoot f n) × (depth r ≤ depth l)
  above_shorter here l = (l, omega arith)
  above_shorter (below e u) l = let s = one_up l e in let r = above_shorter u s.0 in (r.0, omega (arith, r.1, s.1))

  -- a number does not lie below itself
  pub no_cycle : {n p : ℕ} → f n ≡ Some p → LeadsToRoot f p → Under f n p → ⊥
  no_cycle e l u = let r = above_shorter u l in omega (arith, r.1, depth-same refl r.0 (up e l))

  -- what is met by the relation is met by looking far enough
  pub meets_from_under : {n k : ℕ} (m : ℕ) → Under f n k → (l : LeadsToRoot f k) → depth l < m → meets f m n k ≡ true
  meets_from_under zero u l h = absurd (omega arith)
  meets_from_under {n = n} (suc m) here l h = meets-here f m n n refl
  meets_from_under {n = n} {k = k} (suc m) (below {p = p} e u) l h =
      elim (cases_eq k n) [
        | inl is ↦ meets-here f m n k is
        | inr ne ↦ let r = one_up l e in meets-up f m n k p ne e ∙ meets_from_under m u r.0 (omega (arith, r.1, h))
      ]

  under_from_meets : {n : ℕ} (m k : ℕ) → meets f m n k ≡ true → Under f n k
  under_from_meets zero k h = absurd (false≢true h)
  under_from_meets {n = n} (suc m) k h =
      elim (cases_eq k n) [
        | inl is ↦ subst (Under f n) (sym is) here
        | inr ne ↦ go ne (λ p. under_from_meets m p) (f k) refl
      ]
    where
      go : k ≢ n → ((p : ℕ) → meets f m n p ≡ true → Under f n p) → (o : Option ℕ) → f k ≡ o → Under f n k
      go ne more None e = absurd (false≢true (sym (meets-top f m n k ne e) ∙ h))
      go ne more (Some p) e = below e (more p (sym (meets-up f m n k p ne e) ∙ h))

-- a number met after i steps up, from which the way on is short enough
pub record Climb {K D : Type 0} (t : Keyed K D) (at i : ℕ) : Type 0 where
  pub leads : LeadsToRoot (parent_number t) at
  pub short_yet : depth leads + i < t.next

module _ {K D : Type 0} (eq : K → K → Bool) (t : Keyed K D) (tree : IsTree eq t) where
  pub top : parent_number t 1 ≡ None
  top = ap (option_map (λ q. q.0)) tree.root.1

  pub known_leads : (n : ℕ) → LeadsToRoot (parent_number t) n → IsKnown t n
  known_leads n root = tree.root.0
  known_leads n (up {p = p} e l) = known_from_parent t n p e

  pub short : (n : ℕ) (l : LeadsToRoot (parent_number t) n) → depth l < t.next
  short n l =
      let b = length-le_from_distinct_below (way l) t.next (once (parent_number t) top l) (λ q h. (tree.numbered q (known_leads q (on_way (parent_number t) top l q h).0)).1) in
      omega (arith, b, length-way l)

  -- the test means the relation
  pub is_under-true : (n k : ℕ) → IsKnown t k → (is_under t n k ≡ true → Under (parent_number t) n k) × (Under (parent_number t) n k → is_under t n k ≡ true)
  is_under-true n k known = (under_from_meets (parent_number t) top t.next k, λ u. meets_from_under (parent_number t) top t.next u (tree.attached k known) (short k (tree.attached k known)))

  pub climb_start : (n : ℕ) → IsKnown t n → Climb t n 0
  climb_start n known = let l = tree.attached n known in record { leads = l; short_yet = omega (arith, short n l) }

  pub climb_next : (at i p : ℕ) → Climb t at i → parent_number t at ≡ Some p → Climb t p (i + 1)
  climb_next at i p c e = let r = one_up (parent_number t) top c.leads e in record { leads = r.0; short_yet = omega (arith, r.1, c.short_yet) }

  pub climb_ends : (at i : ℕ) → Climb t at i → i < t.next
  climb_ends at i c = omega (arith, c.short_yet)
