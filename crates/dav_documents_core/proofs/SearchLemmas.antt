-- What a binary search finds among values whose keys rise.
use Rattle.std.proofs.Common.{◌≡◌, ℕ, zero, suc, ◌+◌, ◌-◌, ◌<◌, List, Err, Bool, true, false, length, get_or, refl, sym, subst, ap, ◌∙◌, arith}
use Rattle.std.specs.declared.cmp.Ordering.{Ordering}
use Rattle.std.specs.declared.cmp.Ordering.TheVariants.{Less, Equal, Greater}
use lib.Dec.{ltb}
use Rattle.std.specs.Cmp.{IsTotalOrder}
use Rattle.std.proofs.lemmas.Bool.Decides.{nat_tests}
use Rattle.std.specs.Ordering.{is_lt, ordering_index, ordering_reverse}
use Rattle.std.specs.List.{AllAdjacentBelow}
use Rattle.std.specs.List.Sorted.{IsBinarySearchResult, IsNonDecreasingBy}
use Rattle.std.proofs.lemmas.List.Sorted.{searchable_from_sorted}

module _ {K X : Type 0} {R : K → K → Ordering} (o : IsTotalOrder R) (key : X → K) (xs : List X) (rise : AllAdjacentBelow (λ x y. R (key x) (key y) ≡ Less) xs (length xs)) where
  -- a key is below each one behind it
  below_later : (n i : ℕ) (d : X) → i + suc n < length xs → R (key (get_or xs i d)) (key (get_or xs (i + suc n) d)) ≡ Less
  below_later zero i d inside = rise i d inside
  below_later (suc n) i d inside =
      let near = below_later n i d (omega arith) in
      let next : R (key (get_or xs (i + suc n) d)) (key (get_or xs (i + suc n + 1) d)) ≡ Less = rise (i + suc n) d (omega arith) in
      let same : i + suc n + 1 ≡ i + suc (suc n) = omega arith in
      subst (λ k. R (key (get_or xs i d)) (key (get_or xs k d)) ≡ Less) same (o.trans _ _ _ near next)

  turned : (r : Ordering) → ordering_reverse r ≡ Less → is_lt r ≡ false
  turned Less back = cc
  turned Equal back = cc
  turned Greater back = refl

  -- so a search may be made
  searchable : (x : K) → IsNonDecreasingBy (λ y. ordering_index (R (key y) x)) xs
  searchable x = searchable_from_sorted o key xs x (λ k d low inside. turned (R (key (get_or xs (k + 1) d)) (key (get_or xs k d))) (sym (o.antisymm _ _) ∙ rise k d inside))

  -- where it finds one, the others in front have lower keys
  pub lower_before : (x : K) (i k : ℕ) (d : X) → i < length xs → R (key (get_or xs i d)) x ≡ Equal → k < i → R (key (get_or xs k d)) x ≡ Less
  lower_before x i k d inside found before =
      let n = i - (k + 1) in
      let there : k + suc n ≡ i = omega arith in
      let less : R (key (get_or xs k d)) (key (get_or xs i d)) ≡ Less =
      subst (λ j. R (key (get_or xs k d)) (key (get_or xs j d)) ≡ Less) there (below_later n k d (omega arith)) in
      o.antisymm (key (get_or xs k d)) x ∙ ap ordering_reverse (sym (o.congr _ _ (key (get_or xs k d)) found)) ∙ sym (o.antisymm _ _) ∙ less

  -- where it finds none, no key is the one sought
  pub none_equal : (x : K) (i k : ℕ) (d : X) → IsBinarySearchResult (λ y. R (key y) x) xs (Err i) → k < length xs → R (key (get_or xs k d)) x ≡ Equal → ⊥
  none_equal x i k d answer inside same = beside (ltb k i) refl
    where
      beside : (b : Bool) → ltb k i ≡ b → ⊥
      beside true before =
          let less = (answer (searchable x)).0 k d (omega arith) (grind (arith, nat_tests, before)) in
          let wrong : Less ≡ Equal = sym less ∙ same in cc
      beside false behind =
          let more = (answer (searchable x)).1 k d (grind (arith, nat_tests, behind)) inside in
          let wrong : Greater ≡ Equal = sym more ∙ same in cc
