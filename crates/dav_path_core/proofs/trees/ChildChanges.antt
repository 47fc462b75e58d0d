-- Who is a child after each change of a keyed tree.
use Rattle.std.proofs.Common.{◌≡◌, ◌≢◌, ℕ, Some, None, Option, refl, ap, sym, ◌∙◌, subst, inl, inr, ◌⊎◌}
use Rattle.dav_path_core.specs.Keyed.{Entry, Keyed, entry, add_as, without_node, with_new_place, placed_at, with_item, with_item_at, parent_and_key_of, IsChild}
use Rattle.dav_path_core.proofs.trees.Trees.{none≢some, same_some, child_before, Sets, Sets-insert, known_from_child}
use Rattle.dav_path_core.proofs.trees.KeyedCuts.{parent_and_key-without, apart}

module _ {K D : Type 0} where
  -- where one entry is changed
  one_child : (t u : Keyed K D) (n p : ℕ) (k : K) (e : Entry K D) → e.parent_and_key ≡ Some (p, k) → Sets (entry t) (entry u) n (Some e) → (q m : ℕ) (l : K) → IsChild u q l m → ((q ≡ p) × (l ≡ k) × (m ≡ n)) ⊎ ((m ≢ n) × IsChild t q l m)
  one_child t u n p k e at s q m l h = elim (child_before t u n e s q l m h) [
    | inl new ↦ let w = same_some (q, l) (p, k) (sym new.1 ∙ at) in inl (ap (λ (v : ℕ × K). v.0) w, ap (λ (v : ℕ × K). v.1) w, new.0)
    | inr old ↦ inr old
  ]

module _ {K D : Type 0} (t : Keyed K D) where
  pub child-without : (n q m : ℕ) (l : K) → IsChild (without_node t n) q l m → IsChild t q l m × m ≢ n
  child-without n q m l h = (parent_and_key-without t n m (q, l) h, apart t n m (known_from_child (without_node t n) q l m h))

  pub child-add_as : (n next p : ℕ) (k : K) (d : D) (q m : ℕ) (l : K) → IsChild (add_as t n next p k d) q l m → ((q ≡ p) × (l ≡ k) × (m ≡ n)) ⊎ ((m ≢ n) × IsChild t q l m)
  child-add_as n next p k d q m l h =
      let e : Entry K D = record { parent_and_key = Some (p, k); item = d } in
      one_child t (add_as t n next p k d) n p k e refl (Sets-insert t.nodes n e) q m l h

  module _ (n p : ℕ) (k : K) where
    placed-entry : (o : Option (Entry K D)) → entry t n ≡ o → (q m : ℕ) (l : K) → IsChild (placed_at t n p k o) q l m → ((q ≡ p) × (l ≡ k) × (m ≡ n)) ⊎ ((m ≢ n) × IsChild t q l m)
    placed-entry None at q m l h = inr ((λ is. none≢some (q, l) (ap parent_and_key_of (sym at) ∙ subst (λ v. IsChild t q l v) is h)), h)
    placed-entry (Some x) at q m l h =
        let e : Entry K D = record x { parent_and_key = Some (p, k) } in
        one_child t (placed_at t n p k (Some x)) n p k e refl (Sets-insert t.nodes n e) q m l h

    pub child-placed : (q m : ℕ) (l : K) → IsChild (with_new_place t n p k) q l m → ((q ≡ p) × (l ≡ k) × (m ≡ n)) ⊎ ((m ≢ n) × IsChild t q l m)
    child-placed = placed-entry (entry t n) refl

  module _ (n : ℕ) (d : D) where
    pub child-with_item-at : (o : Option (Entry K D)) → entry t n ≡ o → (q m : ℕ) (l : K) → IsChild (with_item_at t n o d) q l m → IsChild t q l m
    child-with_item-at None at q m l h = h
    child-with_item-at (Some x) at q m l h =
        let e : Entry K D = record x { item = d } in
        elim (child_before t (with_item_at t n (Some x) d) n e (Sets-insert t.nodes n e) q l m h) [
          | inl here ↦ subst (λ v. IsChild t q l v) (sym here.0) (ap parent_and_key_of at ∙ here.1)
          | inr other ↦ other.1
        ]
