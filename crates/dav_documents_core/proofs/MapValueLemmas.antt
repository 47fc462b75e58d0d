-- What holds of each value that a map gives by a key holds of all of its values, in the keys' order.
use Rattle.std.proofs.Common.{◌≡◌, refl, ap, ◌∙◌, Bool, true, false, cond, ◌&&◌, List, [], ◌∷◌, map, Option, Some, None}
use Rattle.std.specs.Prelude.{T}
use Rattle.std.specs.Cmp.{IsTotalOrder}
use Rattle.std.specs.FinMap.{FinMap, entries, entries_sorted, get, get-entries, values}
use Rattle.std.specs.FinMap.Entries.{below_all, find, is_sorted}
use Rattle.std.specs.List.{AllByRecursion}
use Rattle.std.specs.Ordering.{is_eq, is_lt}
use Rattle.std.specs.declared.cmp.Ordering.{Ordering}
use Rattle.std.specs.declared.cmp.Ordering.TheVariants.{Less, Equal, Greater}
use Rattle.dav_path_core.proofs.lists.FinMaps.{none_some}
use Rattle.dav_path_core.proofs.lists.Orders.{eq_by_cmp_same}

parts : (a b : Bool) → T (a && b) → T a × T b
parts true b h = (tt, h)
parts false b h = absurd h

none_found : {A B : Type 0} {o : Option A} {x : A} → o ≡ None → o ≡ Some x → B
none_found {o = o} none some = none_some o _ none some

module _ {K X : Type 0} {R : K → K → Ordering} (o : IsTotalOrder R) where
  -- a key that ties with one that is below all has none of theirs
  not_below : (key x : K) (es : List (K × X)) → R key x ≡ Equal → T (below_all R x es) → find R key es ≡ None
  not_below key x [] tied h = refl
  not_below key x (e ∷ es) tied h =
      let p = parts (is_lt (R x e.0)) (below_all R x es) h in
      by (R x e.0) (o.congr key x e.0 tied) p.0 (not_below key x es tied p.1)
    where
      by : (r : Ordering) → R key e.0 ≡ r → T (is_lt r) → find R key es ≡ None → find R key (e ∷ es) ≡ None
      by Less is less rest = ap (λ (r : Ordering). cond (is_eq r) (Some e.1) (find R key es)) is ∙ rest
      by Equal is less rest = absurd less
      by Greater is less rest = absurd less

  module _ (P : X → Type 0) where
    in_entries : (es : List (K × X)) → T (is_sorted R es) → ((key : K) (x : X) → find R key es ≡ Some x → P x) → AllByRecursion P (map (λ e. e.1) es)
    in_entries [] sorted h = tt
    in_entries (e ∷ es) sorted h =
        let p = parts (below_all R e.0 es) (is_sorted R es) sorted in
        (h e.0 e.1 (ap (λ b. cond b (Some e.1) (find R e.0 es)) (eq_by_cmp_same o e.0)), in_entries es p.1 (λ key x found. h key x (later key x p.0 found)))
      where
        later : (key : K) (x : X) → T (below_all R e.0 es) → find R key es ≡ Some x → find R key (e ∷ es) ≡ Some x
        later key x below found = by (R key e.0) refl
          where
            by : (r : Ordering) → R key e.0 ≡ r → find R key (e ∷ es) ≡ Some x
            by Less is = ap (λ (r : Ordering). cond (is_eq r) (Some e.1) (find R key es)) is ∙ found
            by Greater is = ap (λ (r : Ordering). cond (is_eq r) (Some e.1) (find R key es)) is ∙ found
            by Equal is = absurd (none_found (not_below key e.0 es is below) found)

    pub in_values : (m : FinMap R X) → ((key : K) (x : X) → get m key ≡ Some x → P x) → AllByRecursion P (values m)
    in_values m h = in_entries (entries m) (entries_sorted m) (λ key x found. h key x (get-entries m key ∙ found))
