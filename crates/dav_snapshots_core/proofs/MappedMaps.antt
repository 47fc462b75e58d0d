-- A map with another value at each key.
use Rattle.std.proofs.Common.{◌≡◌, ◌∙◌, true, false, cond, List, [], ◌∷◌, map, Some, refl, sym, ap, subst}
use Rattle.std.specs.Prelude.{T, ◌&&◌, option_map}
use Rattle.std.specs.FinMap.{FinMap, entries, entries_sorted, entries-from_sorted, find, from_sorted, get, get-entries, get-from_sorted, is_sorted}
use Rattle.std.specs.FinMap.Entries.{below_all}
use Rattle.std.specs.Ordering.{eq_by_cmp, is_lt}
use Rattle.std.specs.declared.cmp.Ordering.{Ordering}

abbrev pub with_value : {K X Y : Type 0} → (X → Y) → K × X → K × Y
with_value f e = (e.0, f e.1)

module _ {K X Y : Type 0} (R : K → K → Ordering) (f : X → Y) where
  below_same : (k : K) (es : List (K × X)) → below_all R k (map (with_value f) es) ≡ below_all R k es
  below_same k [] = refl
  below_same k (e ∷ es) = ap (λ b. is_lt (R k e.0) && b) (below_same k es)

  sorted_same : (es : List (K × X)) → is_sorted R (map (with_value f) es) ≡ is_sorted R es
  sorted_same [] = refl
  sorted_same (e ∷ es) = ap (λ b. b && is_sorted R (map (with_value f) es)) (below_same e.0 es) ∙ ap (λ b. below_all R e.0 es && b) (sorted_same es)

  find_mapped : (k : K) (es : List (K × X)) → find R k (map (with_value f) es) ≡ option_map f (find R k es)
  find_mapped k [] = refl
  find_mapped k (e ∷ es) = elim (eq_by_cmp R k e.0) as (λ b. cond b (Some (f e.1)) (find R k (map (with_value f) es)) ≡ option_map f (cond b (Some e.1) (find R k es))) [
    | true ↦ refl
    | false ↦ find_mapped k es
  ]

module _ {K X Y : Type 0} {R : K → K → Ordering} (f : X → Y) where
  abbrev pub with_values : FinMap R X → FinMap R Y
  with_values m = from_sorted (map (with_value f) (entries m))

  sorted_there : (m : FinMap R X) → T (is_sorted R (map (with_value f) (entries m)))
  sorted_there m = subst T (sym (sorted_same R f (entries m))) (entries_sorted m)

  pub entries-with_values : (m : FinMap R X) → entries (with_values m) ≡ map (with_value f) (entries m)
  entries-with_values m = entries-from_sorted R (map (with_value f) (entries m)) (sorted_there m)

  pub get-with_values : (m : FinMap R X) (k : K) → get (with_values m) k ≡ option_map f (get m k)
  get-with_values m k = get-from_sorted R (map (with_value f) (entries m)) k (sorted_there m) ∙ find_mapped R f k (entries m) ∙ ap (option_map f) (sym (get-entries m k))
