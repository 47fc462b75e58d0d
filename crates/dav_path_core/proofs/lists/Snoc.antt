-- Lists taken from their end.
use Rattle.std.proofs.Common.{◌≡◌, ◌⊎◌, inl, inr, List, [], ◌∷◌, ◌++◌, refl, ap}

module _ {A : Type 0} where
  pub snoc_not_empty : (p : List A) (s : A) → ¬ (p ++ (s ∷ []) ≡ [])
  snoc_not_empty [] s e = cc
  snoc_not_empty (t ∷ p) s e = cc

  pub snoc_front : (p q : List A) (s t : A) → p ++ (s ∷ []) ≡ q ++ (t ∷ []) → p ≡ q
  snoc_front [] [] s t e = refl
  snoc_front [] (y ∷ []) s t e = absurd (cc)
  snoc_front [] (y ∷ z ∷ q) s t e = absurd (cc)
  snoc_front (x ∷ []) [] s t e = absurd (cc)
  snoc_front (x ∷ z ∷ p) [] s t e = absurd (cc)
  snoc_front (x ∷ p) (y ∷ q) s t e =
      let heads : x ≡ y = cc in
      let rest : p ++ (s ∷ []) ≡ q ++ (t ∷ []) = cc in
      let fronts = snoc_front p q s t rest in cc

  pub snoc_last : (p q : List A) (s t : A) → p ++ (s ∷ []) ≡ q ++ (t ∷ []) → s ≡ t
  snoc_last [] [] s t e = cc
  snoc_last [] (y ∷ []) s t e = absurd (cc)
  snoc_last [] (y ∷ z ∷ q) s t e = absurd (cc)
  snoc_last (x ∷ []) [] s t e = absurd (cc)
  snoc_last (x ∷ z ∷ p) [] s t e = absurd (cc)
  snoc_last (x ∷ p) (y ∷ q) s t e =
      let rest : p ++ (s ∷ []) ≡ q ++ (t ∷ []) = cc in snoc_last p q s t rest

  -- a list is empty, or a list and a last element
  pub by_last : (p : List A) → (p ≡ []) ⊎ ((q : List A) × (s : A) × (p ≡ q ++ (s ∷ [])))
  by_last [] = inl refl
  by_last (x ∷ p) = inr (elim (by_last p) [
    | inl e ↦ ([], x, ap (λ t. x ∷ t) e)
    | inr h ↦ (x ∷ h.0, h.1, ap (λ t. x ∷ t) h.2)
  ])
