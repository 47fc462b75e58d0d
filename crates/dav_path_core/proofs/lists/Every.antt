-- What holds of each entry of a finite map.
use Rattle.std.proofs.Common.{◌≡◌, ℕ, zero, suc, ◌+◌, ◌-◌, ◌<◌, Bool, true, false, cond, ◌&&◌, List, [], ◌∷◌, Some, refl, ap, ◌∙◌, arith}
use Rattle.std.specs.Prelude.{T, is_some}
use Rattle.std.specs.Ordering.{eq_by_cmp, is_lt, is_eq}
use Rattle.std.specs.declared.cmp.Ordering.{Ordering}
use Rattle.std.specs.declared.cmp.Ordering.TheVariants.{Less, Equal, Greater}
use Rattle.std.specs.Cmp.{IsTotalOrder, eq_by_cmp_equiv}
use Rattle.std.specs.FinMap.{FinMap, entries, entries_sorted, get, remove, find, get-entries, is_sorted, len, len-remove, empty_of_len, get-empty}
use Rattle.std.specs.FinMap.Entries.{below_all}
use Rattle.dav_path_core.proofs.lists.FinMaps.{none_some}
use Rattle.dav_path_core.proofs.lists.Orders.{eq_by_cmp_same}

abbrev pub Every : {E : Type 0} → (E → Type 0) → List E → Type 0
Every P [] = Unit {0}
Every P (e ∷ es) = P e × Every P es

pub Every-map : {E : Type 0} {P Q : E → Type 0} → ((e : E) → P e → Q e) → (es : List E) → Every P es → Every Q es
Every-map f [] h = tt
Every-map f (e ∷ es) h = (f e h.0, Every-map f es h.1)

pub first_so : (a b : Bool) → T (a && b) → T a
first_so true b h = tt
first_so false b h = absurd h

pub second_so : (a b : Bool) → T (a && b) → T b
second_so true b h = h
second_so false b h = absurd h

module _ {K : Type 0} {R : K → K → Ordering} (o : IsTotalOrder R) where
  pub not_tied : (k q : K) → T (is_lt (R k q)) → eq_by_cmp R q k ≡ false
  not_tied k q h = (eq_by_cmp_equiv o).symm q k ∙ by (R k q) h
    where
      by : (r : Ordering) → T (is_lt r) → is_eq r ≡ false
      by Less h = refl
      by Equal h = absurd h
      by Greater h = absurd h

module _ {K X : Type 0} {R : K → K → Ordering} (o : IsTotalOrder R) where
  pub below_each : (k : K) (es : List (K × X)) → T (below_all R k es) → Every (λ (e : K × X). T (is_lt (R k e.0))) es
  below_each k [] h = tt
  below_each k (e ∷ es) h = (first_so (is_lt (R k e.0)) (below_all R k es) h, below_each k es (second_so (is_lt (R k e.0)) (below_all R k es) h))

  found_each : (es : List (K × X)) → T (is_sorted R es) → Every (λ (e : K × X). find R e.0 es ≡ Some e.1) es
  found_each [] h = tt
  found_each (e ∷ es) h = (
    ap (λ b. cond b (Some e.1) (find R e.0 es)) (eq_by_cmp_same o e.0),
    both es (below_each e.0 es (first_so (below_all R e.0 es) (is_sorted R es) h)) (found_each es (second_so (below_all R e.0 es) (is_sorted R es) h)),
  )
    where
      both : (fs : List (K × X)) → Every (λ (f : K × X). T (is_lt (R e.0 f.0))) fs → Every (λ (f : K × X). find R f.0 es ≡ Some f.1) fs → Every (λ (f : K × X). find R f.0 (e ∷ es) ≡ Some f.1) fs
      both [] a b = tt
      both (f ∷ fs) a b = (ap (λ t. cond t (Some e.1) (find R f.0 es)) (not_tied o e.0 f.0 a.0) ∙ b.0, both fs a.1 b.1)

  -- each entry is what the map has at its key
  pub get_each : (m : FinMap R X) → Every (λ (e : K × X). get m e.0 ≡ Some e.1) (entries m)
  get_each m = Every-map (λ e h. get-entries m e.0 ∙ h) (entries m) (found_each (entries m) (entries_sorted m))

  pub not_empty : (m : FinMap R X) (k : K) (v : X) → get m k ≡ Some v → 0 < len m
  not_empty m k v h = by (len m) refl
    where
      by : (n : ℕ) → len m ≡ n → 0 < n
      by zero e = none_some (get m k) v (ap (λ (m : FinMap R X). get m k) (empty_of_len m e) ∙ get-empty R k) h
      by (suc n) e = omega arith

  pub one_fewer : (m : FinMap R X) (k : K) (v : X) → get m k ≡ Some v → len m ≡ len (remove m k) + 1
  one_fewer m k v h =
      let less : len (remove m k) ≡ len m - 1 = len-remove o m k ∙ ap (λ b. cond b (len m - 1) (len m)) (ap is_some h) in
      let some = not_empty m k v h in omega arith
