-- Lists with the same members, each once, are in another order at most.
use Rattle.std.proofs.Common.{◌≡◌, ◌⊎◌, inl, inr, List, [], ◌∷◌, ◌++◌, map, refl, sym, ap, ◌∙◌, subst}
use Rattle.std.specs.List.Sorted.{IsPermutation}
use Rattle.std.proofs.lemmas.List.Sorted.{IsPermutation-refl, IsPermutation-trans, IsPermutation-middle, IsPermutation-cons}
use Rattle.dav_path_core.proofs.lists.MemberLemmas.{In}

module _ {A : Type 0} where
  abbrev pub NoneTwice : List A → Type 0
  NoneTwice [] = Unit {0}
  NoneTwice (x ∷ xs) = (In x xs → ⊥) × NoneTwice xs

  -- a member stands between a front and a rest
  pub In-split : (xs : List A) (x : A) → In x xs → (front : List A) × (rest : List A) × (xs ≡ front ++ x ∷ rest)
  In-split [] x i = absurd i
  In-split (y ∷ xs) x i = elim i [
    | inl e ↦ ([], xs, ap (λ z. z ∷ xs) e)
    | inr j ↦ let s = In-split xs x j in (y ∷ s.0, s.1, ap (λ l. y ∷ l) s.2)
  ]

  pub In-middle : (front : List A) (x : A) (rest : List A) (q : A) → In q (front ++ x ∷ rest) → (x ≡ q) ⊎ In q (front ++ rest)
  In-middle [] x rest q i = i
  In-middle (y ∷ front) x rest q i = elim i [
    | inl e ↦ inr (inl e)
    | inr j ↦ elim (In-middle front x rest q j) [ inl e ↦ inl e | inr k ↦ inr (inr k) ]
  ]

  pub In-wider : (front : List A) (x : A) (rest : List A) (q : A) → In q (front ++ rest) → In q (front ++ x ∷ rest)
  In-wider [] x rest q i = inr i
  In-wider (y ∷ front) x rest q i = elim i [ inl e ↦ inl e | inr j ↦ inr (In-wider front x rest q j) ]

  pub In-there : (front : List A) (x : A) (rest : List A) → In x (front ++ x ∷ rest)
  In-there [] x rest = inl refl
  In-there (y ∷ front) x rest = inr (In-there front x rest)

  once_between : (front : List A) (x : A) (rest : List A) → NoneTwice (front ++ x ∷ rest) → (In x (front ++ rest) → ⊥) × NoneTwice (front ++ rest)
  once_between [] x rest once = once
  once_between (y ∷ front) x rest once =
      let r = once_between front x rest once.1 in (
        λ i. elim i [ inl e ↦ once.0 (subst (λ z. In z (front ++ x ∷ rest)) (sym e) (In-there front x rest)) | inr j ↦ r.0 j ],
        (λ i. once.0 (In-wider front x rest y i), r.1),
      )

  empty : (xs : List A) → ((q : A) → In q xs → ⊥) → xs ≡ []
  empty [] none = refl
  empty (x ∷ xs) none = absurd (none x (inl refl))

  pub permutes : (ys xs : List A) → NoneTwice xs → NoneTwice ys → ((q : A) → In q xs → In q ys) → ((q : A) → In q ys → In q xs) → IsPermutation xs ys
  permutes [] xs a b to from = subst (λ l. IsPermutation l []) (sym (empty xs to)) (IsPermutation-refl [])
  permutes (y ∷ ys) xs a b to from =
      let s = In-split xs y (from y (inl refl)) in
      let once = once_between s.0 y s.1 (subst NoneTwice s.2 a) in
      let others : List A = s.0 ++ s.1 in
      let less : IsPermutation others ys =
      permutes ys others once.1 b.1
      (λ q i. elim (to q (subst (In q) (sym s.2) (In-wider s.0 y s.1 q i))) [
        | inl e ↦ absurd (once.0 (subst (λ z. In z others) (sym e) i))
        | inr j ↦ j
      ])
      (λ q i. elim (In-middle s.0 y s.1 q (subst (In q) s.2 (from q (inr i)))) [
        | inl e ↦ absurd (b.0 (subst (λ z. In z ys) (sym e) i))
        | inr j ↦ j
      ]) in
      subst (λ l. IsPermutation l (y ∷ ys)) (sym s.2)
      (IsPermutation-trans (s.0 ++ y ∷ s.1) (y ∷ others) (y ∷ ys) (IsPermutation-middle s.0 y s.1) (IsPermutation-cons y others ys less))

-- ---- lists that are mapped

module _ {A B : Type 0} (f : A → B) where
  pub In-map : (xs : List A) (x : A) → In x xs → In (f x) (map f xs)
  In-map [] x i = absurd i
  In-map (y ∷ xs) x i = elim i [ inl e ↦ inl (ap f e) | inr j ↦ inr (In-map xs x j) ]

  pub map-In : (xs : List A) (q : B) → In q (map f xs) → (x : A) × In x xs × (f x ≡ q)
  map-In [] q i = absurd i
  map-In (y ∷ xs) q i = elim i [ inl e ↦ (y, inl refl, e) | inr j ↦ let r = map-In xs q j in (r.0, inr r.1, r.2) ]

  pub NoneTwice-map : ((x y : A) → f x ≡ f y → x ≡ y) → (xs : List A) → NoneTwice xs → NoneTwice (map f xs)
  NoneTwice-map apart [] once = tt
  NoneTwice-map apart (x ∷ xs) once = (
    λ i. let r = map-In xs (f x) i in once.0 (subst (λ z. In z xs) (apart r.0 x r.2) r.1),
    NoneTwice-map apart xs once.1,
  )

  -- a front of a mapped list is a mapped front
  pub map_front : (xs : List A) (front : List B) (y : B) (rest : List B) → map f xs ≡ front ++ y ∷ rest
      → (a : List A) × (x : A) × (b : List A) × (xs ≡ a ++ x ∷ b) × (front ≡ map f a) × (y ≡ f x)
  map_front [] [] y rest e = absurd (cc)
  map_front [] (z ∷ front) y rest e = absurd (cc)
  map_front (x ∷ xs) [] y rest e = ([], x, xs, refl, refl, cc)
  map_front (x ∷ xs) (z ∷ front) y rest e =
      let heads : f x ≡ z = cc in
      let tails : map f xs ≡ front ++ y ∷ rest = cc in
      let r = map_front xs front y rest tails in
      (x ∷ r.0, r.1, r.2, ap (λ l. x ∷ l) r.3, ap (λ w. w ∷ front) (sym heads) ∙ ap (λ l. f x ∷ l) r.4, r.5)
