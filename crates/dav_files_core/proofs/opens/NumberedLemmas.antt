-- The one entry with a number.
use Rattle.std.proofs.Common.{◌≡◌, ℕ, Bool, true, false, cond, List, [], ◌∷◌, Option, Some, None, refl, sym, ap, ◌∙◌, subst}
use Rattle.std.specs.Prelude.{◌==◌, find as find_in}
use Rattle.std.specs.FinMap.{entries, find, get-entries}
use Rattle.std.proofs.lemmas.Bool.{eqb-true, eq-eqb, true≢false}
use Rattle.dav_path_core.specs.Fronts.{Path, path_cmp}
use Rattle.dav_path_core.proofs.lists.Every.{Every, get_each}
use Rattle.dav_path_core.proofs.lists.FinMaps.{none_some, one_some, test_false}
use Rattle.dav_path_core.proofs.lists.Orders.{path_total, path_exact}
use Rattle.dav_files_core.specs.OpenFiles.{with_number}
use Rattle.dav_files_core.specs.Resources.{Resource, ResourceMap, at_path, IsResourceMap}

module _ (m : ResourceMap) where
  abbrev Stand : List (Path × Resource) → Type 0
  Stand es = Every (λ (e : Path × Resource). at_path m e.0 ≡ Some e.1) es

  abbrev look : ℕ → List (Path × Resource) → Option (Path × Resource)
  look n es = find_in (λ (e : Path × Resource). e.1.number == n) es

  real_entry : (es : List (Path × Resource)) → Stand es → (n : ℕ) (x : Path × Resource) → look n es ≡ Some x → (at_path m x.0 ≡ Some x.1) × (x.1.number ≡ n)
  real_entry [] each n x h = absurd (cc)
  real_entry (e ∷ es) each n x h = by (e.1.number == n) refl (real_entry es each.1 n x)
    where
      by : (b : Bool) → (e.1.number == n) ≡ b → (look n es ≡ Some x → (at_path m x.0 ≡ Some x.1) × (x.1.number ≡ n)) → (at_path m x.0 ≡ Some x.1) × (x.1.number ≡ n)
      by true t ih =
          let is : e ≡ x = one_some (Some e) e x refl (sym (ap (λ b. cond b (Some e) (look n es)) t) ∙ h) in
          (subst (λ (x : Path × Resource). at_path m x.0 ≡ Some x.1) is each.0, ap (λ (x : Path × Resource). x.1.number) (sym is) ∙ eqb-true e.1.number n t)
      by false t ih = ih (sym (ap (λ b. cond b (Some e) (look n es)) t) ∙ h)

  -- what has the number stands in the map
  pub numbered_is : (n : ℕ) (x : Path × Resource) → with_number m n ≡ Some x → (at_path m x.0 ≡ Some x.1) × (x.1.number ≡ n)
  numbered_is n x h = real_entry (entries m.entries) (get_each path_total m.entries) n x h

  -- where no entry has the number
  pub number_gone : (n : ℕ) → ((p : Path) (r : Resource) → at_path m p ≡ Some r → ¬ (r.number ≡ n)) → with_number m n ≡ None
  number_gone n none = by (with_number m n) refl
    where
      by : (o : Option (Path × Resource)) → with_number m n ≡ o → o ≡ None
      by None e = refl
      by (Some x) e = let there = numbered_is n x e in absurd (none x.0 x.1 there.0 there.1)

  module _ (is_map : IsResourceMap m) where
    one_entry : (es : List (Path × Resource)) → Stand es → (p : Path) (r : Resource) → at_path m p ≡ Some r → find path_cmp p es ≡ Some r → look r.number es ≡ Some (p, r)
    one_entry [] each p r here h = absurd (cc)
    one_entry (e ∷ es) each p r here h = by (e.1.number == r.number) refl (one_entry es each.1 p r here)
      where
        by : (b : Bool) → (e.1.number == r.number) ≡ b → (find path_cmp p es ≡ Some r → look r.number es ≡ Some (p, r)) → look r.number (e ∷ es) ≡ Some (p, r)
        by true t ih =
            let same_path : e.0 ≡ p = is_map.apart e.0 p e.1 r each.0 here (eqb-true e.1.number r.number t) in
            let same : e.1 ≡ r = one_some (at_path m p) e.1 r (ap (at_path m) (sym same_path) ∙ each.0) here in
            ap (λ b. cond b (Some e) (look r.number es)) t ∙ ap Some (λ i. (same_path i, same i))
        by false t ih =
            ap (λ b. cond b (Some e) (look r.number es)) t
            ∙ ih (sym (ap (λ b. cond b (Some e.1) (find path_cmp p es)) (test_false path_total path_exact p e.0 (λ same.
            let number : e.1.number ≡ r.number = ap (λ (r : Resource). r.number) (one_some (at_path m p) e.1 r (ap (at_path m) same ∙ each.0) here) in
            true≢false (sym (eq-eqb e.1.number r.number number) ∙ t)))) ∙ h)

    -- and what stands in the map is what has its number
    pub number_is : (p : Path) (r : Resource) → at_path m p ≡ Some r → (n : ℕ) → r.number ≡ n → with_number m n ≡ Some (p, r)
    number_is p r here n number =
        ap (with_number m) (sym number) ∙ one_entry (entries m.entries) (get_each path_total m.entries) p r here (sym (get-entries m.entries p) ∙ here)

    pub gone_number : (n : ℕ) → with_number m n ≡ None → (p : Path) (r : Resource) → at_path m p ≡ Some r → ¬ (r.number ≡ n)
    gone_number n none p r here number = none_some (with_number m n) (p, r) none (number_is p r here n number)
