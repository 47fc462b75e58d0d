-- A new child in the place of another, which hangs below it until it is cut.
use Rattle.std.proofs.Common.{◌≡◌, ◌≢◌, ℕ, ◌+◌, Bool, true, false, cond, not, Some, None, Option, refl, ap, sym, ◌∙◌, subst, inl, inr, arith, IsSome, is_some}
use Rattle.std.specs.Cmp.{nat_cmp_total, IsEquivalence}
use Rattle.std.specs.Option.{option_map}
use Rattle.std.specs.FinMap.{same_map, nat_cmp-IsAntisymmetric}
use Rattle.std.proofs.lemmas.Bool.{cases_eq, cases_Bool, false≢true, false_from_ne_true}
use Rattle.dav_path_core.specs.Keyed.{Entry, Keyed, Under, here, below, entry, parent_and_key, parent_and_key_of, parent_number, child, add, without_subtree, is_under, with_new_place, placed_at, IsChild, IsKnown, IsTree}
use Rattle.dav_path_core.proofs.trees.Trees.{none≢some, same_some, none_from_is_some, known_from_child, known_from_parent, child-some, child_before, Sets, Sets-insert}
use Rattle.dav_path_core.proofs.trees.KeyedDepth.{is_under-true, no_cycle, top}
use Rattle.dav_path_core.proofs.trees.KeyedCuts.{same_truth, entry-cut, none-cut, cut-in, cut-out}
use Rattle.dav_path_core.proofs.children.Walks.{parent_known}

-- the test that tells all keys apart
abbrev pub never : {K : Type 0} → K → K → Bool
never a b = false

pub never-symm : {K : Type 0} (a b : K) → never a b ≡ never b a
never-symm a b = refl

-- ways down from n are the same by parents that differ at n alone
under_but : {f g : ℕ → Option ℕ} {n k : ℕ} → ((q p : ℕ) → q ≢ n → f q ≡ Some p → g q ≡ Some p) → Under f n k → Under g n k
under_but h here = here
under_but {g = g} {n = n} {k = k} h (below {p = p} e u) = elim (cases_eq k n) [ inl is ↦ subst (Under g n) (sym is) here | inr ne ↦ below (h k p ne e) (under_but h u) ]

module _ {K D : Type 0} where
  -- a tree stays one where no keys are compared
  pub IsTree-never : (eq : K → K → Bool) (t : Keyed K D) → IsTree eq t → IsTree never t
  IsTree-never eq t tree = record { root = tree.root; numbered = tree.numbered; attached = tree.attached; distinct = λ p k l m n x y same. absurd (false≢true same) }

  pub child-never : (k : K) (t : Keyed K D) (p : ℕ) → child (never k) t p ≡ None
  child-never k t p = elim (child (never k) t p) as (λ o. child (never k) t p ≡ o → o ≡ None) [
    | None ↦ λ e. refl
    | Some m ↦ λ e. absurd (false≢true (child-some t (never k) p m e).2)
  ] refl

  module _ (eq : K → K → Bool) (laws : IsEquivalence eq) (t : Keyed K D) (p : ℕ) (k : K) (d : D) (tree : IsTree eq t) (known : IsKnown t p) (c : ℕ) (taken : child (eq k) t p ≡ Some c) where
    pub found : (l : K) × IsChild t p l c × (eq k l ≡ true)
    found = child-some t (eq k) p c taken

    pub old_known : IsKnown t c
    old_known = known_from_child t p found.0 c found.1

    old_parent : parent_number t c ≡ Some p
    old_parent = ap (option_map (λ q. q.0)) found.1

    pub old_not_root : c ≢ 1
    old_not_root is = none≢some (p, found.0) (sym tree.root.1 ∙ subst (λ v. parent_and_key t v ≡ Some (p, found.0)) is found.1)

    new_apart : (q : ℕ) → IsKnown t q → q ≢ t.next
    new_apart q h e = omega (arith, (tree.numbered q h).1, e)

    old_apart : c ≢ t.next
    old_apart = new_apart c old_known

    -- the parents of w are those of t but for the new number and the old child
    module _ (w : Keyed K D) (same : (q : ℕ) → q ≢ t.next → q ≢ c → parent_number w q ≡ parent_number t q) where
      back : {q : ℕ} → Under (parent_number w) c q → IsKnown t q → Under (parent_number t) c q
      back here h = here
      back {q = q} (below {p = r} e u) h = elim (cases_eq q c) [
        | inl is ↦ subst (Under (parent_number t) c) (sym is) here
        | inr ne ↦ let e' : parent_number t q ≡ Some r = sym (same q (new_apart q h) ne) ∙ e in below e' (back u (parent_known eq t tree q r e'))
      ]

      forth : {q : ℕ} → Under (parent_number t) c q → Under (parent_number w) c q
      forth u = under_but (λ q r ne e. same q (new_apart q (known_from_parent t q r e)) ne ∙ e) u

      -- the new number is not below the old child
      not_below : parent_number w t.next ≡ Some p → {q : ℕ} → q ≡ t.next → Under (parent_number w) c q → ⊥
      not_below at is here = old_apart is
      not_below at is (below {p = r} e u) =
          let same_p : r ≡ p = same_some r p (sym e ∙ ap (parent_number w) is ∙ at) in
          no_cycle (parent_number t) (top eq t tree) old_parent (tree.attached p known) (back (subst (Under (parent_number w) c) same_p u) known)

    -- ---- with the new child
    abbrev added : Keyed K D
    added = add t p k d

    abbrev new_entry : Entry K D
    new_entry = record { parent_and_key = Some (p, k); item = d }

    s1 : Sets (entry t) (entry added) t.next (Some new_entry)
    s1 = Sets-insert t.nodes t.next new_entry

    parent1 : (q : ℕ) → q ≢ t.next → parent_number added q ≡ parent_number t q
    parent1 q ne = ap (λ o. option_map (λ w. w.0) (parent_and_key_of o)) (s1.other q ne)

    pub new_known : IsKnown added t.next
    new_known = ap is_some s1.here

    pub old_parent_and_key_added : parent_and_key added c ≡ Some (p, found.0)
    old_parent_and_key_added = ap parent_and_key_of (s1.other c old_apart) ∙ found.1

    pub new_outside : IsTree never added → is_under added c t.next ≡ false
    new_outside tree1 = false_from_ne_true _ (λ e. not_below added (λ q ne _. parent1 q ne) (ap (λ o. option_map (λ w. w.0) (parent_and_key_of o)) s1.here) refl ((is_under-true never added tree1 c t.next new_known).0 e))

    -- ---- with the old child below it
    abbrev pub over : Keyed K D
    over = with_new_place added c t.next found.0

    known_entry : (o : Option (Entry K D)) → IsSome o → (x : Entry K D) × (o ≡ Some x)
    known_entry None h = absurd (false≢true h)
    known_entry (Some x) h = (x, refl)

    old_entry : (x : Entry K D) × (entry added c ≡ Some x)
    old_entry = known_entry (entry added c) (ap is_some (s1.other c old_apart) ∙ old_known)

    abbrev hung_entry : Entry K D
    hung_entry = record old_entry.0 { parent_and_key = Some (t.next, found.0) }

    over-is : over ≡ record added { nodes = over.nodes }
    over-is = ap (placed_at added c t.next found.0) old_entry.1 ∙ sym (ap (λ (m : Keyed K D). record added { nodes = m.nodes }) (ap (placed_at added c t.next found.0) old_entry.1))

    over-next : over.next ≡ t.next + 1
    over-next = ap (λ (m : Keyed K D). m.next) over-is

    s2 : Sets (entry added) (entry over) c (Some hung_entry)
    s2 = subst (λ (m : Keyed K D). Sets (entry added) (entry m) c (Some hung_entry)) (sym (ap (placed_at added c t.next found.0) old_entry.1)) (Sets-insert added.nodes c hung_entry)

    entry2 : (q : ℕ) → q ≢ t.next → q ≢ c → entry over q ≡ entry t q
    entry2 q new old = s2.other q old ∙ s1.other q new

    new2 : entry over t.next ≡ Some new_entry
    new2 = s2.other t.next (λ e. old_apart (sym e)) ∙ s1.here

    parent2 : (q : ℕ) → q ≢ t.next → q ≢ c → parent_number over q ≡ parent_number t q
    parent2 q new old = ap (λ o. option_map (λ w. w.0) (parent_and_key_of o)) (entry2 q new old)

    -- which child of r a number is under the key a
    data Kind (r : ℕ) (a : K) (m : ℕ) : Type 0 where
      hangs : m ≡ c → r ≡ t.next → Kind r a m
      fresh : m ≡ t.next → r ≡ p → k ≡ a → Kind r a m
      stays : m ≢ c → IsChild t r a m → Kind r a m

    kind : (r : ℕ) (a : K) (m : ℕ) → IsChild over r a m → Kind r a m
    kind r a m h = elim (child_before added over c hung_entry s2 r a m h) [
      | inl first ↦ let v : (t.next, found.0) ≡ (r, a) = same_some _ _ first.1 in hangs first.0 (sym (ap (λ (z : ℕ × K). z.0) v))
      | inr first ↦ elim (child_before t added t.next new_entry s1 r a m first.1) [
        | inl second ↦ let v : (p, k) ≡ (r, a) = same_some _ _ second.1 in fresh second.0 (sym (ap (λ (z : ℕ × K). z.0) v)) (ap (λ (z : ℕ × K). z.1) v)
        | inr second ↦ stays first.0 second.1
      ]
    ]

    no_child_of_new : (r : ℕ) (a : K) (m : ℕ) → r ≡ t.next → IsChild t r a m → ⊥
    no_child_of_new r a m is h = new_apart r (parent_known eq t tree m r (ap (option_map (λ q. q.0)) h)) is

    -- the old child was the only one with an equal key
    no_other : (r : ℕ) (b : K) (m : ℕ) → r ≡ p → m ≢ c → IsChild t r b m → eq k b ≡ true → ⊥
    no_other r b m is ne h same = ne (sym (tree.distinct p found.0 b c m found.1 (subst (λ v. IsChild t v b m) is h) (sym (laws.congr k found.0 b found.2) ∙ same)))

    apart_keys : (r : ℕ) (a b : K) (m n : ℕ) → Kind r a m → Kind r b n → eq a b ≡ true → m ≡ n
    apart_keys r a b m n (hangs is at) (hangs is' at') same = is ∙ sym is'
    apart_keys r a b m n (hangs is at) (fresh is' at' key) same = absurd (new_apart p known (sym at' ∙ at))
    apart_keys r a b m n (hangs is at) (stays ne h) same = absurd (no_child_of_new r b n at h)
    apart_keys r a b m n (fresh is at key) (hangs is' at') same = absurd (new_apart p known (sym at ∙ at'))
    apart_keys r a b m n (fresh is at key) (fresh is' at' key') same = is ∙ sym is'
    apart_keys r a b m n (fresh is at key) (stays ne h) same = absurd (no_other r b n at ne h (ap (λ z. eq z b) key ∙ same))
    apart_keys r a b m n (stays ne h) (hangs is at) same = absurd (no_child_of_new r a m at h)
    apart_keys r a b m n (stays ne h) (fresh is at key) same = absurd (no_other r a m at ne h (ap (λ z. eq z a) key ∙ laws.symm b a ∙ same))
    apart_keys r a b m n (stays ne h) (stays ne' h') same = tree.distinct r a b m n h h' same

    module _ (loose : IsTree never over) where
      pub IsTree-over : IsTree eq over
      IsTree-over = record {
        root = loose.root;
        numbered = loose.numbered;
        attached = loose.attached;
        distinct = λ r a b m n x y same. apart_keys r a b m n (kind r a m x) (kind r b n y) same;
      }

      -- ---- and then without it
      new_not_under : is_under over c t.next ≡ false
      new_not_under = false_from_ne_true _ (λ e. not_below over parent2 (ap (λ o. option_map (λ w. w.0) (parent_and_key_of o)) new2) refl ((is_under-true never over loose c t.next (ap is_some new2)).0 e))

      s3 : Sets (entry (without_subtree t c)) (entry (add (without_subtree t c) p k d)) t.next (Some new_entry)
      s3 = Sets-insert (without_subtree t c).nodes t.next new_entry

      same_test : (q : ℕ) → IsKnown t q → q ≢ c → is_under over c q ≡ is_under t c q
      same_test q h ne =
          let known' : IsKnown over q = ap is_some (entry2 q (new_apart q h) ne) ∙ h in
          let new = is_under-true never over loose c q known' in
          let old = is_under-true eq t tree c q h in
          same_truth _ _ (λ e. old.1 (back over parent2 (new.0 e) h)) (λ e. new.1 (forth over parent2 (old.0 e)))

      pub old_known_over : IsKnown over c
      old_known_over = ap is_some s2.here

      left : (q : ℕ) → q ≢ t.next → entry (without_subtree over c) q ≡ entry (without_subtree t c) q
      left q new = elim (cases_eq q c) [
        | inl is ↦ subst (λ v. entry (without_subtree over c) v ≡ entry (without_subtree t c) v) (sym is)
            (cut-in never over c c ((is_under-true never over loose c c old_known_over).1 here) ∙ sym (cut-in eq t c c ((is_under-true eq t tree c c old_known).1 here)))
        | inr ne ↦ elim (cases_Bool (is_some (entry t q))) [
          | inl h ↦ entry-cut over c q ∙ ap (λ b. cond (not b) (entry over q) None) (same_test q h ne) ∙ ap (λ o. cond (not (is_under t c q)) o None) (entry2 q new ne) ∙ sym (entry-cut t c q)
          | inr h ↦ none-cut over c q (entry2 q new ne ∙ none_from_is_some _ h) ∙ sym (none-cut t c q (none_from_is_some _ h))
        ]
      ]

      same_entries : (q : ℕ) → entry (without_subtree over c) q ≡ entry (add (without_subtree t c) p k d) q
      same_entries q = elim (cases_eq q t.next) [
        | inl is ↦ subst (λ v. entry (without_subtree over c) v ≡ entry (add (without_subtree t c) p k d) v) (sym is) (cut-out never over c t.next new_not_under ∙ new2 ∙ sym s3.here)
        | inr new ↦ left q new ∙ sym (s3.other q new)
      ]

      -- it is the new child in the tree without the old one
      pub cut-over : without_subtree over c ≡ add (without_subtree t c) p k d
      cut-over = λ i. record {
        nodes = same_map nat_cmp_total nat_cmp-IsAntisymmetric (without_subtree over c).nodes (add (without_subtree t c) p k d).nodes same_entries i;
        next = over-next i;
      }
