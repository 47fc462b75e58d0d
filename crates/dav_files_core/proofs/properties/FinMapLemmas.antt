-- An ordered map of the code, by its list of entries, as a finite map.
use Rattle.std.proofs.Common.{◌≡◌, Bool, true, false, cond, List, [], ◌∷◌, Option, Some, None, map, refl, sym, ap, ◌∙◌, subst}
use Rattle.std.specs.Prelude.{T, ◌&&◌}
use Rattle.std.specs.Option.{option_map}
use Rattle.std.specs.Ordering.{is_eq, is_lt}
use Rattle.std.specs.declared.cmp.Ordering.{Ordering}
use Rattle.std.specs.declared.cmp.Ordering.TheVariants.{Less}
use Rattle.std.specs.Cmp.{IsTotalOrder, eq_by_cmp_equiv}
use Rattle.std.specs.FinMap.{FinMap, IsAntisymmetric, entries, entries_sorted, find, get, insert, remove, from_entries, get-from_entries, get-entries, get-insert, get-remove, is_sorted, same_map}
use Rattle.std.specs.FinMap.Entries.{below_all, same_entries}
use Rattle.std.specs.List.{AllByRecursion, AllZip}
use Rattle.std.specs.List.Sorted.{IsStrictlySortedBy}
use Rattle.std.specs.Map.{lookup, keys_of}

-- ---- a list of entries whose values are seen by a function
module _ {K X Y : Type 0} (R : K → K → Ordering) (see : X → Y) where
  abbrev pub seen : K × X → K × Y
  seen e = (e.0, see e.1)

  pub find-seen : (q : K) (es : List (K × X)) → find R q (map seen es) ≡ option_map see (lookup (λ k. is_eq (R q k)) es)
  find-seen q [] = refl
  find-seen q (e ∷ es) = elim (is_eq (R q e.0)) as (λ b. cond b (Some (see e.1)) (find R q (map seen es)) ≡ option_map see (cond b (Some e.1) (lookup (λ k. is_eq (R q k)) es))) [
    | true ↦ refl
    | false ↦ find-seen q es
  ]

module _ {K X Y : Type 0} {R : K → K → Ordering} (o : IsTotalOrder R) (exact : IsAntisymmetric R) (see : X → Y) where
  abbrev as_map : List (K × X) → FinMap R Y
  as_map es = from_entries (map (seen R see) es)

  pub get-as_map : (es : List (K × X)) (q : K) → get (as_map es) q ≡ option_map see (lookup (λ k. is_eq (R q k)) es)
  get-as_map es q = get-from_entries o (map (seen R see) es) q ∙ find-seen R see q es

  same_test : (q k : K) → is_eq (R q k) ≡ is_eq (R k q)
  same_test q k = (eq_by_cmp_equiv o).symm q k

  taken : (b : Bool) (w u : Option X) → option_map see (cond b w u) ≡ cond b (option_map see w) (option_map see u)
  taken true w u = refl
  taken false w u = refl

  -- an entry that is set
  pub map_insert : (old new : List (K × X)) (k : K) (v : X) → ((q : K) → lookup (λ x. is_eq (R q x)) new ≡ cond (is_eq (R k q)) (Some v) (lookup (λ x. is_eq (R q x)) old))
      → as_map new ≡ insert (as_map old) k (see v)
  map_insert old new k v updates = same_map o exact (as_map new) (insert (as_map old) k (see v)) (λ q.
      get-as_map new q ∙ ap (option_map see) (updates q) ∙ taken (is_eq (R k q)) (Some v) (lookup (λ x. is_eq (R q x)) old)
      ∙ ap (λ b. cond b (Some (see v)) (option_map see (lookup (λ x. is_eq (R q x)) old))) (same_test k q)
      ∙ ap (cond (is_eq (R q k)) (Some (see v))) (sym (get-as_map old q)) ∙ sym (get-insert o (as_map old) k (see v) q))

  -- an entry that is taken out
  pub map_remove : (old new : List (K × X)) (k : K) → ((q : K) → lookup (λ x. is_eq (R q x)) new ≡ cond (is_eq (R k q)) None (lookup (λ x. is_eq (R q x)) old))
      → as_map new ≡ remove (as_map old) k
  map_remove old new k updates = same_map o exact (as_map new) (remove (as_map old) k) (λ q.
      get-as_map new q ∙ ap (option_map see) (updates q) ∙ taken (is_eq (R k q)) None (lookup (λ x. is_eq (R q x)) old)
      ∙ ap (λ b. cond b None (option_map see (lookup (λ x. is_eq (R q x)) old))) (same_test k q)
      ∙ ap (cond (is_eq (R q k)) None) (sym (get-as_map old q)) ∙ sym (get-remove o (as_map old) k q))

  -- ---- the entries, where the keys ascend
  all_below : (k : K) (es : List (K × X)) → AllByRecursion (λ y. R k y ≡ Less) (keys_of es) → T (below_all R k (map (seen R see) es))
  all_below k [] h = tt
  all_below k (e ∷ es) h = both (is_lt (R k e.0)) (below_all R k (map (seen R see) es)) (subst (λ r. T (is_lt r)) (sym h.0) tt) (all_below k es h.1)
    where
      both : (a b : Bool) → T a → T b → T (a && b)
      both true b s t = t
      both false b s t = absurd s

  ascending : (es : List (K × X)) → IsStrictlySortedBy R (keys_of es) → T (is_sorted R (map (seen R see) es))
  unfolding IsStrictlySortedBy
  ascending [] h = tt
  ascending (e ∷ es) h = both (below_all R e.0 (map (seen R see) es)) (is_sorted R (map (seen R see) es)) (all_below e.0 es h.0) (ascending es h.1)
    where
      both : (a b : Bool) → T a → T b → T (a && b)
      both true b s t = t
      both false b s t = absurd s

  pub entries-as_map : (es : List (K × X)) → IsStrictlySortedBy R (keys_of es) → entries (as_map es) ≡ map (seen R see) es
  entries-as_map es up = same_entries R o exact (entries (as_map es)) (map (seen R see) es) (entries_sorted (as_map es)) (ascending es up)
      (λ q. sym (get-entries (as_map es) q) ∙ get-from_entries o (map (seen R see) es) q)

-- ---- copies
module _ {K X Y : Type 0} (R : K → K → Ordering) (see : X → Y) (C : K → K → Type 0) (same : (k l : K) → C k l → l ≡ k) where
  pub seen_copy : (es fs : List (K × X)) → AllZip (λ (e f : K × X). C e.0 f.0 × (see f.1 ≡ see e.1)) es fs → map (seen R see) fs ≡ map (seen R see) es
  seen_copy [] [] h = refl
  seen_copy [] (f ∷ fs) h = absurd h
  seen_copy (e ∷ es) [] h = absurd h
  seen_copy (e ∷ es) (f ∷ fs) h = let rest = seen_copy es fs h.1 in λ i. (same e.0 f.0 h.0.0 i, h.0.1 i) ∷ rest i
