-- What a finite map has after one change, by cases.
use Rattle.std.proofs.Common.{◌≡◌, ◌⊎◌, inl, inr, true, false, cond, Option, Some, None, refl, sym, ap, ◌∙◌}
use Rattle.std.specs.Ordering.{eq_by_cmp}
use Rattle.std.specs.declared.cmp.Ordering.{Ordering}
use Rattle.std.specs.Cmp.{IsTotalOrder}
use Rattle.std.specs.FinMap.{FinMap, IsAntisymmetric, get, insert, remove, get-insert, get-remove, same_map}
use Rattle.dav_path_core.proofs.lists.Orders.{eq_by_cmp_same, eq_by_cmp_true, eq_by_cmp_false}

pub none_some : {A B : Type 0} (o : Option A) (x : A) → o ≡ None → o ≡ Some x → B
none_some o x e h = let both : ◌≡◌ {A = Option _} None (Some x) = sym e ∙ h in absurd (cc)

pub one_some : {A : Type 0} (o : Option A) (x y : A) → o ≡ Some x → o ≡ Some y → x ≡ y
one_some o x y e h = let both : Some x ≡ Some y = sym e ∙ h in cc

module _ {K : Type 0} {R : K → K → Ordering} (o : IsTotalOrder R) (exact : IsAntisymmetric R) where
  pub dec : (x y : K) → (x ≡ y) ⊎ ¬ (x ≡ y)
  dec x y = elim (eq_by_cmp R x y) as (λ b. eq_by_cmp R x y ≡ b → (x ≡ y) ⊎ ¬ (x ≡ y)) [
    | true ↦ λ e. inl (eq_by_cmp_true exact x y e)
    | false ↦ λ e. inr (eq_by_cmp_false o x y e)
  ] refl

  pub test_false : (x y : K) → ¬ (x ≡ y) → eq_by_cmp R x y ≡ false
  test_false x y ne = elim (eq_by_cmp R x y) as (λ b. eq_by_cmp R x y ≡ b → b ≡ false) [
    | true ↦ λ e. absurd (ne (eq_by_cmp_true exact x y e))
    | false ↦ λ e. refl
  ] refl

module _ {K X : Type 0} {R : K → K → Ordering} (o : IsTotalOrder R) (exact : IsAntisymmetric R) where
  pub get_same : (m : FinMap R X) (k : K) (v : X) → get (insert m k v) k ≡ Some v
  get_same m k v = get-insert o m k v k ∙ ap (λ b. cond b (Some v) (get m k)) (eq_by_cmp_same o k)

  pub get_other : (m : FinMap R X) (k : K) (v : X) (q : K) → ¬ (q ≡ k) → get (insert m k v) q ≡ get m q
  get_other m k v q ne = get-insert o m k v q ∙ ap (λ b. cond b (Some v) (get m q)) (test_false o exact q k ne)

  pub get_gone : (m : FinMap R X) (k : K) → get (remove m k) k ≡ None
  get_gone m k = get-remove o m k k ∙ ap (λ b. cond b None (get m k)) (eq_by_cmp_same o k)

  pub get_left : (m : FinMap R X) (k q : K) → ¬ (q ≡ k) → get (remove m k) q ≡ get m q
  get_left m k q ne = get-remove o m k q ∙ ap (λ b. cond b None (get m q)) (test_false o exact q k ne)

  pub inserted : (m : FinMap R X) (k : K) (v : X) (q : K) (r : X) → get (insert m k v) q ≡ Some r → ((q ≡ k) × (r ≡ v)) ⊎ (¬ (q ≡ k) × (get m q ≡ Some r))
  inserted m k v q r h = elim (dec o exact q k) [
    | inl e ↦ inl (e, one_some _ r v h (ap (get (insert m k v)) e ∙ get_same m k v))
    | inr ne ↦ inr (ne, sym (get_other m k v q ne) ∙ h)
  ]

  pub removed : (m : FinMap R X) (k q : K) (r : X) → get (remove m k) q ≡ Some r → ¬ (q ≡ k) × (get m q ≡ Some r)
  removed m k q r h = elim (dec o exact q k) [
    | inl e ↦ none_some _ r (ap (get (remove m k)) e ∙ get_gone m k) h
    | inr ne ↦ (ne, sym (get_left m k q ne) ∙ h)
  ]

  -- an entry that is there already
  pub insert_same : (m : FinMap R X) (k : K) (v : X) → get m k ≡ Some v → insert m k v ≡ m
  insert_same m k v h = same_map o exact (insert m k v) m (λ q. elim (dec o exact q k) [
    | inl same ↦ ap (get (insert m k v)) same ∙ get_same m k v ∙ sym h ∙ ap (get m) (sym same)
    | inr other ↦ get_other m k v q other
  ])
