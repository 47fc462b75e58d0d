-- What is left of a keyed tree where a node goes, or a node and all that leads to it.
use Rattle.std.proofs.Common.{◌≡◌, ◌≢◌, ℕ, Bool, true, false, cond, not, Some, None, Option, refl, ap, sym, ◌∙◌, subst, inl, inr, is_some}
use Rattle.std.specs.Ordering.{nat_cmp}
use Rattle.std.specs.Cmp.{nat_cmp_total}
use Rattle.std.specs.Option.{option_map}
use Rattle.std.specs.FinMap.{FinMap, get, remove, get-retain_keys, same_map, nat_cmp-IsAntisymmetric}
use Rattle.std.proofs.lemmas.Bool.{cases_eq, false≢true, true≢false, false_from_ne_true}
use Rattle.dav_path_core.specs.Keyed.{Entry, Keyed, LeadsToRoot, root, up, Under, here, below, entry, parent_and_key, parent_and_key_of, parent_number, is_under, has_child, without_node, without_subtree, IsKnown, IsTree}
use Rattle.dav_path_core.proofs.lists.FinMaps.{get_gone, get_left}
use Rattle.dav_path_core.proofs.trees.Trees.{none≢some, same_some, none_from_is_some, known_from_parent, known_from_child, child-none, Sets}
use Rattle.dav_path_core.proofs.trees.KeyedDepth.{is_under-true, top}

-- no number has the parent n
abbrev pub IsLeaf : {K D : Type 0} → Keyed K D → ℕ → Type 0
IsLeaf t n = (q : ℕ) → parent_number t q ≡ Some n → ⊥

pub same_truth : (a b : Bool) → (a ≡ true → b ≡ true) → (b ≡ true → a ≡ true) → a ≡ b
same_truth true b there back = sym (there refl)
same_truth false true there back = back refl
same_truth false false there back = refl

pub Under-mono : {f g : ℕ → Option ℕ} {n k : ℕ} → ((q p : ℕ) → f q ≡ Some p → g q ≡ Some p) → Under f n k → Under g n k
Under-mono h here = here
Under-mono h (below e u) = below (h _ _ e) (Under-mono h u)

-- on the way from another number, the last before n has the parent n
Under-last : {f : ℕ → Option ℕ} {n k : ℕ} → Under f n k → k ≢ n → (c : ℕ) × (f c ≡ Some n)
Under-last here ne = absurd (ne refl)
Under-last {f = f} {n = n} {k = k} (below {p = p} e u) ne = elim (cases_eq p n) [ inl is ↦ (k, e ∙ ap (λ (x : ℕ). Some x) is) | inr no_end ↦ Under-last u no_end ]

module _ {K D : Type 0} where
  Sets-remove : (m : FinMap nat_cmp (Entry K D)) (n : ℕ) → Sets (get m) (get (remove m n)) n None
  Sets-remove m n = record {
    here = get_gone nat_cmp_total nat_cmp-IsAntisymmetric m n;
    other = λ q ne. get_left nat_cmp_total nat_cmp-IsAntisymmetric m n q ne;
  }

  -- a number with a parent is a child under some key
  pub parent_child : (o : Option (Entry K D)) (p : ℕ) → option_map (λ q. q.0) (parent_and_key_of o) ≡ Some p → (k : K) × (parent_and_key_of o ≡ Some (p, k))
  parent_child None p e = absurd (none≢some p e)
  parent_child (Some x) p e = go x.parent_and_key e
    where
      go : (w : Option (ℕ × K)) → option_map (λ q. q.0) w ≡ Some p → (k : K) × (w ≡ Some (p, k))
      go None e = absurd (none≢some p e)
      go (Some q) e = (q.1, ap (λ (n : ℕ). Some (n, q.1)) (same_some q.0 p e))

  pub leaf : (t : Keyed K D) (n : ℕ) → has_child t n ≡ false → IsLeaf t n
  leaf t n h q e = let w = parent_child (entry t q) n e in true≢false (child-none t (λ _. true) n (none_from_is_some _ h) q w.0 w.1)

  -- ---- a leaf goes
  Leads-without : (t u : Keyed K D) (n : ℕ) → ((q : ℕ) → q ≢ n → parent_number u q ≡ parent_number t q) → IsLeaf t n → (q : ℕ) → q ≢ n → LeadsToRoot (parent_number t) q → LeadsToRoot (parent_number u) q
  Leads-without t u n same alone q ne root = root
  Leads-without t u n same alone q ne (up {p = p} e l) = up (same q ne ∙ e) (Leads-without t u n same alone p (λ is. alone q (e ∙ ap (λ (x : ℕ). Some x) is)) l)

  module _ (t : Keyed K D) (n : ℕ) where
    pub entry-without : Sets (entry t) (entry (without_node t n)) n None
    entry-without = Sets-remove t.nodes n

    pub apart : (q : ℕ) → IsKnown (without_node t n) q → q ≢ n
    apart q h e = false≢true (sym (ap is_some entry-without.here) ∙ subst (λ v. IsKnown (without_node t n) v) e h)

    pub parent-without : (q : ℕ) → q ≢ n → parent_number (without_node t n) q ≡ parent_number t q
    parent-without q ne = ap (λ o. option_map (λ w. w.0) (parent_and_key_of o)) (entry-without.other q ne)

    pub known-without : (q : ℕ) → IsKnown (without_node t n) q → IsKnown t q
    known-without q h = ap is_some (sym (entry-without.other q (apart q h))) ∙ h

    pub parent_and_key-without : (q : ℕ) (w : ℕ × K) → parent_and_key (without_node t n) q ≡ Some w → parent_and_key t q ≡ Some w
    parent_and_key-without q w e = ap parent_and_key_of (sym (entry-without.other q (apart q (known_from_child (without_node t n) w.0 w.1 q e)))) ∙ e

  pub IsTree-without : (eq : K → K → Bool) (t : Keyed K D) (n : ℕ) → IsTree eq t → n ≢ 1 → IsLeaf t n → IsTree eq (without_node t n)
  IsTree-without eq t n tree not_root alone =
      let u : Keyed K D = without_node t n in
      let s = entry-without t n in
      let one : 1 ≢ n = λ e. not_root (sym e) in
      record {
        root = (ap is_some (s.other 1 one) ∙ tree.root.0, ap parent_and_key_of (s.other 1 one) ∙ tree.root.1);
        numbered = λ q h. tree.numbered q (known-without t n q h);
        attached = λ q h. Leads-without t u n (parent-without t n) alone q (apart t n q h) (tree.attached q (known-without t n q h));
        distinct = λ p k l a b x y same. tree.distinct p k l a b (parent_and_key-without t n a (p, k) x) (parent_and_key-without t n b (p, l) y) same;
      }

  -- ---- a node goes, and all that leads to it
  nothing : (b : Bool) (o : Option (Entry K D)) → o ≡ None → cond b o None ≡ None
  nothing true o h = h
  nothing false o h = refl

  module _ (t : Keyed K D) (n : ℕ) where
    pub entry-cut : (q : ℕ) → entry (without_subtree t n) q ≡ cond (not (is_under t n q)) (entry t q) None
    entry-cut q = get-retain_keys t.nodes (λ k. not (is_under t n k)) q (λ x e. ap (λ k. not (is_under t n k)) (sym (nat_cmp-IsAntisymmetric q x e)))

    pub none-cut : (q : ℕ) → entry t q ≡ None → entry (without_subtree t n) q ≡ None
    none-cut q h = entry-cut q ∙ nothing (not (is_under t n q)) (entry t q) h

  module _ (eq : K → K → Bool) (t : Keyed K D) (n : ℕ) where
    pub cut-out : (q : ℕ) → is_under t n q ≡ false → entry (without_subtree t n) q ≡ entry t q
    cut-out q h = entry-cut t n q ∙ ap (λ b. cond (not b) (entry t q) None) h

    pub cut-in : (q : ℕ) → is_under t n q ≡ true → entry (without_subtree t n) q ≡ None
    cut-in q h = entry-cut t n q ∙ ap (λ b. cond (not b) (entry t q) None) h

    module _ (tree : IsTree eq t) where
      pub no_parent : {k : ℕ} → k ≡ 1 → Under (parent_number t) n k → k ≢ n → ⊥
      no_parent is here ne = ne refl
      no_parent is (below {p = p} e u) ne = none≢some p (sym (ap (parent_number t) is ∙ top eq t tree) ∙ e)

      -- a cut drops exactly the numbers whose parents lead to n
      pub cut-law : (q : ℕ) → IsKnown t q → ((Under (parent_number t) n q → entry (without_subtree t n) q ≡ None) × ((Under (parent_number t) n q → ⊥) → entry (without_subtree t n) q ≡ entry t q))
      cut-law q known =
          let law = is_under-true eq t tree n q known in
          (λ u. cut-in q (law.1 u), λ none. cut-out q (false_from_ne_true _ (λ e. none (law.0 e))))

      module _ (known : IsKnown t n) (alone : IsLeaf t n) where
        leaf_same : (q : ℕ) → entry (without_subtree t n) q ≡ entry (without_node t n) q
        leaf_same q = elim (cases_eq q n) [
          | inl is ↦ subst (λ v. entry (without_subtree t n) v ≡ entry (without_node t n) v) (sym is) (cut-in n ((is_under-true eq t tree n n known).1 here) ∙ sym (entry-without t n).here)
          | inr ne ↦ (elim (is_some (entry t q)) as (λ b. is_some (entry t q) ≡ b → entry (without_subtree t n) q ≡ entry t q) [
            | true ↦ λ k. cut-out q (false_from_ne_true _ (λ e. let c = Under-last ((is_under-true eq t tree n q k).0 e) ne in alone c.0 c.1))
            | false ↦ λ k. none-cut t n q (none_from_is_some _ k) ∙ sym (none_from_is_some _ k)
          ] refl) ∙ sym ((entry-without t n).other q ne)
        ]

        -- where nothing leads to n, it goes alone
        pub cut-leaf : without_subtree t n ≡ without_node t n
        cut-leaf = ap (λ (m : FinMap nat_cmp (Entry K D)). record t { nodes = m }) (same_map nat_cmp_total nat_cmp-IsAntisymmetric (without_subtree t n).nodes (without_node t n).nodes leaf_same)

      -- a leaf below n may go first
      module _ (m : ℕ) (known : IsKnown t m) (under : Under (parent_number t) n m) (ne : m ≢ n) (alone : IsLeaf t m) where
        not_first : m ≢ 1
        not_first is = no_parent is under ne

        rest : IsTree eq (without_node t m)
        rest = IsTree-without eq t m tree not_first alone

        pub kept : {k : ℕ} → k ≢ m → Under (parent_number t) n k → Under (parent_number (without_node t m)) n k
        kept other here = here
        kept {k = k} other (below {p = p} e u) = below (parent-without t m k other ∙ e) (kept (λ is. alone k (e ∙ ap (λ (x : ℕ). Some x) is)) u)

        still_parent : (q p : ℕ) → parent_number (without_node t m) q ≡ Some p → parent_number t q ≡ Some p
        still_parent q p e = sym (parent-without t m q (apart t m q (known_from_parent (without_node t m) q p e))) ∙ e

        same_test : (q : ℕ) → q ≢ m → IsKnown t q → is_under (without_node t m) n q ≡ is_under t n q
        same_test q other k =
            let known' : IsKnown (without_node t m) q = ap is_some ((entry-without t m).other q other) ∙ k in
            let old = is_under-true eq t tree n q k in
            let new = is_under-true eq (without_node t m) rest n q known' in
            same_truth _ _ (λ e. old.1 (Under-mono still_parent (new.0 e))) (λ e. new.1 (kept other (old.0 e)))

      -- then the cut is the same
      pub cut-without : (m : ℕ) → IsKnown t m → Under (parent_number t) n m → m ≢ n → IsLeaf t m → without_subtree (without_node t m) n ≡ without_subtree t n
      cut-without m known under ne alone = ap (λ (x : FinMap nat_cmp (Entry K D)). record t { nodes = x })
          (same_map nat_cmp_total nat_cmp-IsAntisymmetric (without_subtree (without_node t m) n).nodes (without_subtree t n).nodes (λ q. elim (cases_eq q m) [
            | inl is ↦ subst (λ v. entry (without_subtree (without_node t m) n) v ≡ entry (without_subtree t n) v) (sym is) (none-cut (without_node t m) n m (entry-without t m).here ∙ sym (cut-in m ((is_under-true eq t tree n m known).1 under)))
            | inr other ↦ (elim (is_some (entry t q)) as (λ b. is_some (entry t q) ≡ b → entry (without_subtree (without_node t m) n) q ≡ entry (without_subtree t n) q) [
              | true ↦ λ k. entry-cut (without_node t m) n q ∙ ap (λ b. cond (not b) (entry (without_node t m) q) None) (same_test m known under ne alone q other k)
                  ∙ ap (λ o. cond (not (is_under t n q)) o None) ((entry-without t m).other q other) ∙ sym (entry-cut t n q)
              | false ↦ λ k. none-cut (without_node t m) n q ((entry-without t m).other q other ∙ none_from_is_some _ k) ∙ sym (none-cut t n q (none_from_is_some _ k))
            ] refl)
          ]))
