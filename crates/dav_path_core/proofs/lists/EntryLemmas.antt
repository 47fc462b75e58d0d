-- The entries of a finite map as the members of a list.
use Rattle.std.proofs.Common.{◌≡◌, inl, inr, false, cond, List, [], ◌∷◌, Some, sym, ap, ◌∙◌, subst}
use Rattle.std.specs.Prelude.{T}
use Rattle.std.specs.Ordering.{eq_by_cmp, is_lt}
use Rattle.std.specs.declared.cmp.Ordering.{Ordering}
use Rattle.std.specs.Cmp.{IsTotalOrder}
use Rattle.std.specs.FinMap.{FinMap, IsAntisymmetric, entries, entries_sorted, get, find, get-entries, is_sorted}
use Rattle.std.specs.FinMap.Entries.{below_all}
use Rattle.std.specs.List.{AllByRecursion, IsDistinct}
use Rattle.std.proofs.lemmas.Bool.{true≢false}
use Rattle.std.proofs.lemmas.Cmp.{eq_by_cmp_equiv}
use Rattle.dav_path_core.proofs.lists.Every.{Every, below_each, first_so, second_so, get_each, not_tied}
use Rattle.dav_path_core.proofs.lists.FinMaps.{dec, test_false}
use Rattle.dav_path_core.proofs.lists.MemberLemmas.{In}
use Rattle.dav_path_core.proofs.lists.Orders.{eq_by_cmp_same}
use Rattle.dav_path_core.proofs.lists.SameMembers.{NoneTwice}
use Rattle.dav_path_core.proofs.trees.Trees.{none≢some, same_some}

every_in : {A : Type 0} (P : A → Type 0) (xs : List A) (x : A) → Every P xs → In x xs → P x
every_in P [] x h i = absurd i
every_in P (y ∷ xs) x h i = elim i [ inl e ↦ subst P e h.0 | inr j ↦ every_in P xs x h.1 j ]

module _ {K X : Type 0} {R : K → K → Ordering} (o : IsTotalOrder R) where
  pub In-entries : (m : FinMap R X) (e : K × X) → In e (entries m) → get m e.0 ≡ Some e.1
  In-entries m e i = every_in (λ (e : K × X). get m e.0 ≡ Some e.1) (entries m) e (get_each o m) i

  none_twice : (es : List (K × X)) → T (is_sorted R es) → NoneTwice es
  none_twice [] s = tt
  none_twice (e ∷ es) s = (
    λ i.
        let less : T (is_lt (R e.0 e.0)) = every_in (λ (f : K × X). T (is_lt (R e.0 f.0))) es e (below_each o e.0 es (first_so (below_all R e.0 es) (is_sorted R es) s)) i in
        true≢false (sym (eq_by_cmp_same o e.0) ∙ not_tied o e.0 e.0 less),
    none_twice es (second_so (below_all R e.0 es) (is_sorted R es) s),
  )

  -- no two entries have one key
  distinct_sorted : (es : List (K × X)) → T (is_sorted R es) → IsDistinct (λ (a b : K × X). eq_by_cmp R a.0 b.0) es
  unfolding IsDistinct
  distinct_sorted [] s = tt
  distinct_sorted (e ∷ es) s = (
    others es (below_each o e.0 es (first_so (below_all R e.0 es) (is_sorted R es) s)),
    distinct_sorted es (second_so (below_all R e.0 es) (is_sorted R es) s),
  )
    where
      others : (fs : List (K × X)) → Every (λ (f : K × X). T (is_lt (R e.0 f.0))) fs → AllByRecursion (λ f. eq_by_cmp R e.0 f.0 ≡ false) fs
      others [] h = tt
      others (f ∷ fs) h = ((eq_by_cmp_equiv o).symm e.0 f.0 ∙ not_tied o e.0 f.0 h.0, others fs h.1)

  pub distinct_entries : (m : FinMap R X) → IsDistinct (λ (a b : K × X). eq_by_cmp R a.0 b.0) (entries m)
  distinct_entries m = distinct_sorted (entries m) (entries_sorted m)

  pub entries_once : (m : FinMap R X) → NoneTwice (entries m)
  entries_once m = none_twice (entries m) (entries_sorted m)

  module _ (exact : IsAntisymmetric R) where
    found_in : (es : List (K × X)) (k : K) (v : X) → find R k es ≡ Some v → In (k, v) es
    found_in [] k v h = absurd (none≢some v h)
    found_in (e ∷ es) k v h = elim (dec o exact k e.0) [
      | inl same ↦
          let here : e.1 ≡ v = same_some e.1 v (sym (ap (λ b. cond b (Some e.1) (find R k es)) (ap (eq_by_cmp R k) (sym same) ∙ eq_by_cmp_same o k)) ∙ h) in
          inl (λ i. (sym same i, here i))
      | inr other ↦ inr (found_in es k v (sym (ap (λ b. cond b (Some e.1) (find R k es)) (test_false o exact k e.0 other)) ∙ h))
    ]

    pub entries-In : (m : FinMap R X) (k : K) (v : X) → get m k ≡ Some v → In (k, v) (entries m)
    entries-In m k v h = found_in (entries m) k v (sym (get-entries m k) ∙ h)
