-- What the calls of an index and of its tree, one after another, come to.
use Rattle.std.proofs.Common.{◌≡◌, ◌≢◌, ◌+◌, ◌⊎◌, ℕ, Bool, cond, Result, is_some, IsSome, Option, Some, None, refl, sym, ap, ◌∙◌, subst}
use Rattle.std.specs.Option.{option_map, ok_or}
use Rattle.std.specs.Result.{result_ok}
use Rattle.std.proofs.lemmas.Bool.{ne_eqb}
use Rattle.dav_path_core.specs.declared.errors.FsError.{FsError}
use Rattle.dav_path_core.specs.declared.errors.FsError.TheVariants.{NotFound}
use Rattle.dav_path_core.proofs.trees.Trees.{ok-ok_or, no_next}
use Rattle.std.specs.Prelude.{nat_eq}
use Rattle.std.specs.Cmp.Lexicographic.{pointwise, nat_list_eq_equiv}
use Rattle.std.specs.FinMap.{remove}
use Rattle.dav_path_core.specs.Fronts.{Segment}
use Rattle.dav_path_core.specs.Keyed.{Keyed, IsChild, IsTree, IsKnown, parent_and_key, entry, child, add, add_as, without_node, with_new_place, with_moved, moved_over}
use Rattle.dav_path_core.specs.ChildIndex.{Index, IsIndex, is_key_named, with_noted, without_noted}
use Rattle.dav_path_core.proofs.index.IndexLemmas.{IsChild-added, IsIndex-added, IsIndex-placed}
use Rattle.dav_path_core.proofs.trees.Refusals.{no_parent_root}

-- ---- a look-up by a name
module _ {D : Type 0} (t : Keyed Segment D) (p : ℕ) (s : Segment) where
  -- by what compares with the name as by the name itself
  pub found : (k : Segment) (taken : Option ℕ) (r : Result ℕ FsError) → taken ≡ result_ok r → r ≡ ok_or (child (is_key_named k) t p) NotFound → k ≡ s → child (pointwise nat_eq s) t p ≡ taken
  found k taken r is answer same =
      ap (λ (test : Segment → Bool). child test t p) (λ i l. nat_list_eq_equiv.symm s l i) ∙ ap (λ l. child (is_key_named l) t p) (sym same)
      ∙ sym (ok-ok_or (child (is_key_named k) t p) NotFound) ∙ ap result_ok (sym answer) ∙ sym is

  pub moved-over : (n c : ℕ) → child (pointwise nat_eq s) t p ≡ Some c → c ≢ n → with_moved (pointwise nat_eq) t n p s ≡ with_new_place (without_node t c) n p s
  moved-over n c at ne = ap (moved_over t n p s) at ∙ ap (λ b. cond b t (with_new_place (without_node t c) n p s)) (ne_eqb c n ne)

module _ {D : Type 0} (t u : Keyed Segment D) (tree : IsTree (pointwise nat_eq) t) (after : IsTree (pointwise nat_eq) u) (ix new : Index) (index : IsIndex t ix) where
  -- a child is added under a free number and noted
  module _ (p n next : ℕ) (k : Segment) (d : D) (unused : entry t n ≡ None) (grown : u ≡ add_as t n next p k d) where
    pub child_added : IsChild u p k n
    child_added = subst (λ v. IsChild v p k n) (sym grown) (IsChild-added t tree n next p k d unused (subst (IsTree (pointwise nat_eq)) grown after) ix index)

    pub has_parent : IsSome (option_map (λ q. q.0) (parent_and_key u n))
    has_parent = ap is_some (ap (option_map (λ q. q.0)) child_added)

    pub index_added : (new ≡ with_noted ix p k n) ⊎ (new ≡ remove ix p) → IsIndex u new
    index_added how =
        subst (λ v. IsIndex v new) (sym grown) (IsIndex-added t tree n next p k d unused (subst (IsTree (pointwise nat_eq)) grown after) ix index new how)

  -- the same of the next number
  module _ (p id : ℕ) (k : Segment) (d : D) (number : id ≡ t.next) (grown : u ≡ add t p k d) where
    grown_by : u ≡ add_as t id (t.next + 1) p k d
    grown_by = grown ∙ ap (λ n. add_as t n (t.next + 1) p k d) (sym number)

    unused_by : entry t id ≡ None
    unused_by = ap (entry t) number ∙ no_next (pointwise nat_eq) t tree

    pub child_next : IsChild u p k id
    child_next = child_added p id (t.next + 1) k d unused_by grown_by

    pub has_parent_next : IsSome (option_map (λ q. q.0) (parent_and_key u id))
    has_parent_next = has_parent p id (t.next + 1) k d unused_by grown_by

    pub index_next : (new ≡ with_noted ix p k id) ⊎ (new ≡ remove ix p) → IsIndex u new
    index_next = index_added p id (t.next + 1) k d unused_by grown_by

  -- a node is moved, forgotten where it was and noted where it is
  module _ (n r : ℕ) (l : Segment) (known : IsKnown t n) (not_root : n ≢ 1) (with_moved : u ≡ with_new_place t n r l) where
    place : (o : Option (ℕ × Segment)) → parent_and_key t n ≡ o → (p : ℕ) × (k : Segment) × IsChild t p k n
    place (Some q) is = (q.0, q.1, is)
    place None is = absurd (not_root (no_parent_root t (pointwise nat_eq) tree n known is))

    pub index_moved : (kept : Index) → ((p : ℕ) (k : Segment) → IsChild t p k n → kept ≡ without_noted ix p k) → (new ≡ with_noted kept r l n) ⊎ (new ≡ remove kept r) → IsIndex u new
    index_moved kept forgets how =
        let w = place (parent_and_key t n) refl in
        subst (λ v. IsIndex v new) (sym with_moved)
        (IsIndex-placed t tree n w.0 r w.1 l w.2 (subst (IsTree (pointwise nat_eq)) with_moved after) ix new index
        (subst (λ x. (new ≡ with_noted x r l n) ⊎ (new ≡ remove x r)) (forgets w.0 w.1 w.2) how))
