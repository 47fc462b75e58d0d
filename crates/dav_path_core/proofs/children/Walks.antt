-- A walk along the children of a node.
use Rattle.std.proofs.Common.{◌≡◌, ℕ, zero, suc, ◌<◌, ◌≤◌, Bool, true, false, List, [], ◌∷◌, ◌++◌, length, Some, None, Option, refl, ap, sym, ◌∙◌, subst, inl, inr, arith, eqb, Result, Ok, Err}
use Rattle.std.specs.Option.{option_map, ok_or}
use Rattle.std.specs.List.{list_any}
use Rattle.std.specs.Map.{IsKeyTest}
use Rattle.std.proofs.lemmas.Bool.{eqb-true, or_cases, or_right, false≢true, true≢false}
use Rattle.std.proofs.lemmas.List.{append-nil, append_assoc, length-append}
use Rattle.std.proofs.lemmas.List.Folds.{list_any-append}
use Rattle.std.proofs.lemmas.Map.Steps.{length-le_from_distinct_below}
use Rattle.dav_path_core.specs.Keyed.{Keyed, parent_and_key, parent_number, child, IsChild, IsKnown, IsTree, LeadsToRoot, root, up}
use Rattle.dav_path_core.proofs.trees.Trees.{none≢some, same_some, known_from_parent, child-some, child-only}
use Rattle.dav_path_core.proofs.children.Chains.{in_here}
use Rattle.dav_path_core.specs.TreeValue.{TreeValue, Siblings, done, more, first, after, IsChildList, IsTreeValue}

-- how many are left, looking at no more than m
abbrev pub left : (ℕ → Option ℕ) → ℕ → Option ℕ → ℕ
left f zero o = 0
left f (suc m) None = 0
left f (suc m) (Some n) = suc (left f m (f n))

pub left-length : {f : ℕ → Option ℕ} {o : Option ℕ} {ks : List ℕ} (m : ℕ) → Siblings f o ks → length ks ≤ m → left f m o ≡ length ks
left-length zero done h = refl
left-length (suc m) done h = refl
left-length zero (more s) h = absurd (omega arith)
left-length (suc m) (more s) h = ap suc (left-length m s (omega arith))

pub split : {f : ℕ → Option ℕ} {n : ℕ} {ks : List ℕ} → Siblings f (Some n) ks → (ns : List ℕ) × (ks ≡ n ∷ ns) × Siblings f (f n) ns
split (more {ns = ns} s) = (ns, refl, s)

pub ended : {f : ℕ → Option ℕ} {ks : List ℕ} → Siblings f None ks → ks ≡ []
ended done = refl

parent_and_key_under : {K : Type 0} (o : Option (ℕ × K)) (p : ℕ) (w : ℕ × K) → option_map (λ q. q.0) o ≡ Some p → o ≡ Some w → o ≡ Some (p, w.1)
parent_and_key_under o p w h e = e ∙ ap (λ (n : ℕ). Some (n, w.1)) (same_some w.0 p (sym (ap (option_map (λ q. q.0)) e) ∙ h))

module _ {K D : Type 0} where
  leads_known : (eq : K → K → Bool) (t : Keyed K D) → IsTree eq t → (n : ℕ) → LeadsToRoot (parent_number t) n → IsKnown t n
  leads_known eq t tree n root = tree.root.0
  leads_known eq t tree n (up {p = p} e l) = known_from_parent t n p e

  above_known : (eq : K → K → Bool) (t : Keyed K D) → IsTree eq t → (n p : ℕ) → parent_number t n ≡ Some p → LeadsToRoot (parent_number t) n → IsKnown t p
  above_known eq t tree n p e root = absurd (none≢some p (sym (ap (option_map (λ q. q.0)) tree.root.1) ∙ e))
  above_known eq t tree n p e (up {p = r} f l) = subst (IsKnown t) (same_some r p (sym f ∙ e)) (leads_known eq t tree r l)

  -- an unknown number has no children
  pub parent_known : (eq : K → K → Bool) (t : Keyed K D) → IsTree eq t → (n p : ℕ) → parent_number t n ≡ Some p → IsKnown t p
  parent_known eq t tree n p e = above_known eq t tree n p e (tree.attached n (known_from_parent t n p e))

  pub child_here : (t : Keyed K D) (n p r : ℕ) (k : K) → parent_number t n ≡ Some p → parent_and_key t n ≡ Some (r, k) → IsChild t p k n
  child_here t n p r k h e = parent_and_key_under (parent_and_key t n) p (r, k) h e

  -- a walk along the children of p that stands at a number and has passed ks
  pub record Walk (t : TreeValue K D) (p : ℕ) (at : Option ℕ) (ks : List ℕ) : Type 0 where
    pub rest : List ℕ
    pub linked : Siblings (after t) at rest
    pub listed : IsChildList t p (ks ++ rest)

  module _ (t : TreeValue K D) (p : ℕ) where
    pub walk_start : {eq : K → K → Bool} → IsTreeValue eq t → IsKnown t.keyed p → Walk t p (first t p) []
    walk_start shape known = let w = shape.listed p known in record { rest = w.0; linked = w.1.linked; listed = w.1 }

    pub walk_end : (ks : List ℕ) → Walk t p None ks → IsChildList t p ks
    walk_end ks walk = subst (IsChildList t p) (ap (λ ns. ks ++ ns) (ended walk.linked) ∙ append-nil ks) walk.listed

    module _ (id : ℕ) (ks : List ℕ) (walk : Walk t p (Some id) ks) where
      pub walk_here : parent_number t.keyed id ≡ Some p
      walk_here =
          let s = split walk.linked in
          (walk.listed.members id).0 (list_any-append (eqb id) ks walk.rest ∙ or_right (list_any (eqb id) ks) (list_any (eqb id) walk.rest) (ap (list_any (eqb id)) s.1 ∙ in_here id s.0))

      pub walk_next : Walk t p (after t id) (ks ++ id ∷ [])
      walk_next =
          let s = split walk.linked in
          record { rest = s.0; linked = s.2; listed = subst (IsChildList t p) (ap (λ ns. ks ++ ns) s.1 ∙ sym (append_assoc ks (id ∷ []) s.0)) walk.listed }

      module _ {eq : K → K → Bool} (tree : IsTree eq t.keyed) where
        fits : length walk.rest ≤ t.keyed.next
        fits =
            omega (
              arith,
              length-le_from_distinct_below (ks ++ walk.rest) t.keyed.next walk.listed.once (λ q h. (tree.numbered q (known_from_parent t.keyed q p ((walk.listed.members q).0 h))).1),
              length-append ks walk.rest,
            )

        one_less : left (after t) t.keyed.next (after t id) < left (after t) t.keyed.next (Some id)
        one_less =
            let s = split walk.linked in
            omega (arith, left-length t.keyed.next walk.linked fits, left-length t.keyed.next s.2 (omega (arith, fits, ap length s.1)), ap length s.1)

        pub smaller : (o b : Option ℕ) → o ≡ Some id → after t id ≡ b → left (after t) t.keyed.next b < left (after t) t.keyed.next o
        smaller o b e f = subst (λ v. left (after t) t.keyed.next v < left (after t) t.keyed.next o) f (subst (λ v. left (after t) t.keyed.next (after t id) < left (after t) t.keyed.next v) (sym e) one_less)

  -- ---- a search: each child that was passed is refused
  pub record Searched (t : TreeValue K D) (p : ℕ) (Refused : K → Type 0) (at : Option ℕ) : Type 0 where
    pub passed : List ℕ
    pub walk : Walk t p at passed
    pub refused : (n : ℕ) (k : K) → list_any (eqb n) passed ≡ true → IsChild t.keyed p k n → Refused k

  module _ (t : TreeValue K D) (p : ℕ) (Refused : K → Type 0) where
    pub search_start : {eq : K → K → Bool} → IsTreeValue eq t → IsKnown t.keyed p → Searched t p Refused (first t p)
    search_start shape known = record { passed = []; walk = walk_start t p shape known; refused = λ n k h. absurd (false≢true h) }

    pub search_next : (id : ℕ) → Searched t p Refused (Some id) → ((k : K) → IsChild t.keyed p k id → Refused k) → Searched t p Refused (after t id)
    search_next id s refuses = record {
      passed = s.passed ++ id ∷ [];
      walk = walk_next t p id s.passed s.walk;
      refused = λ n k h e. elim (or_cases (list_any (eqb n) s.passed) (list_any (eqb n) (id ∷ [])) (sym (list_any-append (eqb n) s.passed (id ∷ [])) ∙ h)) [
        | inl before ↦ s.refused n k before e
        | inr last ↦ elim (or_cases (eqb n id) false last) [
          | inl is ↦ refuses k (subst (λ v. IsChild t.keyed p k v) (eqb-true n id is) e)
          | inr none ↦ absurd (false≢true none)
        ]
      ];
    }

    pub search_end : Searched t p Refused None → (n : ℕ) (k : K) → IsChild t.keyed p k n → Refused k
    search_end s n k e = s.refused n k (((walk_end t p s.passed s.walk).members n).1 (ap (option_map (λ q. q.0)) e)) e

  -- a search that gives some child which passes, and none only where none does, is a look-up where the test is of one key
  module _ (eq : K → K → Bool) (t : Keyed K D) (p : ℕ) (tree : IsTree eq t) (Gives : K → Bool → Type 0) {E : Type 0} (error : E) (test : K → Bool) (one : IsKeyTest eq test) (pure : (k : K) (b : Bool) → Gives k b → b ≡ test k) where
    pub search-found : (n : ℕ) (k : K) → IsChild t p k n → Gives k true → ◌≡◌ {A = Result ℕ E} (Ok n) (ok_or (child test t p) error)
    search-found n k e says = ap (λ o. ok_or o error) (sym (child-only t test p eq tree one n k e (sym (pure k true says))))

    pub search-none : ((n : ℕ) (k : K) → IsChild t p k n → Gives k false) → ◌≡◌ {A = Result ℕ E} (Err error) (ok_or (child test t p) error)
    search-none none =
        elim (child test t p) as (λ o. child test t p ≡ o → ◌≡◌ {A = Result ℕ E} (Err error) (ok_or o error)) [
          | None ↦ λ is. refl
          | Some m ↦ λ is. let w = child-some t test p m is in absurd (true≢false (sym w.2 ∙ sym (pure w.0 false (none m w.0 w.1))))
        ] refl
