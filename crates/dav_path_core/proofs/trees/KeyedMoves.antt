-- A node that is put below another, or moved there, keeps the tree.
use Rattle.std.proofs.Common.{◌≡◌, ◌≢◌, ℕ, Bool, true, false, Some, None, Option, refl, ap, sym, ◌∙◌, subst, inl, inr, is_some}
use Rattle.std.specs.Cmp.{IsEquivalence}
use Rattle.std.specs.Option.{option_map}
use Rattle.std.proofs.lemmas.Bool.{cases_eq, false≢true, true≢false, false_from_ne_true}
use Rattle.dav_path_core.specs.Keyed.{Entry, Keyed, LeadsToRoot, root, up, Under, here, below, entry, parent_and_key, parent_and_key_of, parent_number, child, is_under, without_node, with_new_place, placed_at, IsChild, IsKnown, IsTree}
use Rattle.dav_path_core.proofs.trees.Trees.{same_some, none≢some, child-none, child-some, child_before, Sets, Sets-insert, known_from_child, known_from_parent}
use Rattle.dav_path_core.proofs.trees.KeyedDepth.{is_under-true}
use Rattle.dav_path_core.proofs.trees.KeyedCuts.{IsLeaf, Under-mono, IsTree-without, entry-without, apart, parent-without, parent_and_key-without}

module _ {f g : ℕ → Option ℕ} (n : ℕ) (other : (q : ℕ) → q ≢ n → g q ≡ f q) where
  beside : {r : ℕ} → LeadsToRoot f r → (Under f n r → ⊥) → LeadsToRoot g r
  beside root no_way = root
  beside {r = r} (up e l) no_way = up (other r (λ is. no_way (subst (Under f n) (sym is) here)) ∙ e) (beside l (λ u. no_way (below e u)))

  still : (p : ℕ) → g n ≡ Some p → LeadsToRoot g p → {q : ℕ} → LeadsToRoot f q → LeadsToRoot g q
  still p at lp root = root
  still p at lp {q = q} (up e l) = elim (cases_eq q n) [ inl is ↦ up (subst (λ v. g v ≡ Some p) (sym is) at) lp | inr ne ↦ up (other q ne ∙ e) (still p at lp l) ]

module _ {K D : Type 0} (eq : K → K → Bool) (symm : (a b : K) → eq a b ≡ eq b a) (t : Keyed K D) (n p : ℕ) (k : K) (tree : IsTree eq t) (known : IsKnown t p) (not_root : n ≢ 1) (outside : is_under t n p ≡ false) (free : child (eq k) t p ≡ None) where
  at_entry : (o : Option (Entry K D)) → entry t n ≡ o → IsTree eq (placed_at t n p k o)
  at_entry None at = tree
  at_entry (Some e) at =
      let w : Entry K D = record e { parent_and_key = Some (p, k) } in
      let u : Keyed K D = placed_at t n p k (Some e) in
      let s : Sets (entry t) (entry u) n (Some w) = Sets-insert t.nodes n w in
      let same_known : (q : ℕ) → IsKnown u q → IsKnown t q =
      λ q h. elim (cases_eq q n) [ inl is ↦ subst (IsKnown t) (sym is) (ap is_some at) | inr ne ↦ ap is_some (sym (s.other q ne)) ∙ h ] in
      let one : 1 ≢ n = λ e. not_root (sym e) in
      let other : (q : ℕ) → q ≢ n → parent_number u q ≡ parent_number t q = λ q ne. ap (λ o. option_map (λ x. x.0) (parent_and_key_of o)) (s.other q ne) in
      let here_p : parent_number u n ≡ Some p = ap (λ o. option_map (λ x. x.0) (parent_and_key_of o)) s.here in
      let lp : LeadsToRoot (parent_number u) p = beside n other (tree.attached p known) (λ v. false≢true (sym outside ∙ (is_under-true eq t tree n p known).1 v)) in
      record {
        root = (ap is_some (s.other 1 one) ∙ tree.root.0, ap parent_and_key_of (s.other 1 one) ∙ tree.root.1);
        numbered = λ q h. tree.numbered q (same_known q h);
        attached = λ q h. still n other p here_p lp (tree.attached q (same_known q h));
        distinct = λ r a b m m' x y same. elim (child_before t u n w s r a m x) [
          | inl first ↦ elim (child_before t u n w s r b m' y) [
            | inl second ↦ first.0 ∙ sym second.0
            | inr second ↦
                let v : (p, k) ≡ (r, a) = same_some _ _ first.1 in
                absurd (true≢false (sym same ∙ ap (λ z. eq z b) (sym (ap (λ (z : ℕ × K). z.1) v)) ∙ child-none t (eq k) p free m' b (subst (λ z. IsChild t z b m') (sym (ap (λ (z : ℕ × K). z.0) v)) second.1)))
          ]
          | inr first ↦ elim (child_before t u n w s r b m' y) [
            | inl second ↦
                let v : (p, k) ≡ (r, b) = same_some _ _ second.1 in
                absurd (true≢false (sym same ∙ symm a b ∙ ap (λ z. eq z a) (sym (ap (λ (z : ℕ × K). z.1) v)) ∙ child-none t (eq k) p free m a (subst (λ z. IsChild t z a m) (sym (ap (λ (z : ℕ × K). z.0) v)) first.1)))
            | inr second ↦ tree.distinct r a b m m' first.1 second.1 same
          ]
        ];
      }

  pub IsTree-placed : IsTree eq (with_new_place t n p k)
  IsTree-placed = at_entry (entry t n) refl

module _ {K D : Type 0} (eq : K → K → Bool) (laws : IsEquivalence eq) (t : Keyed K D) (n p : ℕ) (k : K) (tree : IsTree eq t) (known_n : IsKnown t n) (known : IsKnown t p) (not_root : n ≢ 1) (outside : is_under t n p ≡ false) where
  -- the node that is replaced goes first
  module _ (c : ℕ) (at : child (eq k) t p ≡ Some c) (alone : IsLeaf t c) (ne : c ≢ n) where
    found : (l : K) × IsChild t p l c × (eq k l ≡ true)
    found = child-some t (eq k) p c at

    below_p : parent_number t c ≡ Some p
    below_p = ap (option_map (λ q. q.0)) found.1

    pub c_not_root : c ≢ 1
    c_not_root is = none≢some (p, found.0) (sym tree.root.1 ∙ subst (λ v. parent_and_key t v ≡ Some (p, found.0)) is found.1)

    pub p_apart : p ≢ c
    p_apart is = alone c (below_p ∙ ap (λ (x : ℕ). Some x) is)

    rest : IsTree eq (without_node t c)
    rest = IsTree-without eq t c tree c_not_root alone

    pub known_rest : IsKnown (without_node t c) p
    known_rest = ap is_some ((entry-without t c).other p p_apart) ∙ known

    up_before : (q r : ℕ) → parent_number (without_node t c) q ≡ Some r → parent_number t q ≡ Some r
    up_before q r e = sym (parent-without t c q (apart t c q (known_from_parent (without_node t c) q r e))) ∙ e

    pub outside_rest : is_under (without_node t c) n p ≡ false
    outside_rest = false_from_ne_true _ (λ e. false≢true (sym outside ∙ (is_under-true eq t tree n p known).1 (Under-mono up_before ((is_under-true eq (without_node t c) rest n p known_rest).0 e))))

    pub free_rest : child (eq k) (without_node t c) p ≡ None
    free_rest = elim (child (eq k) (without_node t c) p) as (λ o. child (eq k) (without_node t c) p ≡ o → o ≡ None) [
      | None ↦ λ e. refl
      | Some m ↦ λ e.
          let w = child-some (without_node t c) (eq k) p m e in
          let same : c ≡ m = tree.distinct p found.0 w.0 c m found.1 (parent_and_key-without t c m (p, w.0) w.1) (sym (laws.congr k found.0 w.0 found.2) ∙ w.2) in
          absurd (apart t c m (known_from_child (without_node t c) p w.0 m w.1) (sym same))
    ] refl
