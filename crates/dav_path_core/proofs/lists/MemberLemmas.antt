-- The members of a list, by recursion.
use Rattle.std.proofs.Common.{◌≡◌, ◌⊎◌, inl, inr, ℕ, ◌<◌, zero, suc, Bool, true, false, cond, ◌||◌, List, [], ◌∷◌, ◌++◌, length, refl, sym, ap, ◌∙◌, subst, arith}
use Rattle.std.specs.Prelude.{Contains, filter, slice_index_or}
use Rattle.std.specs.List.{AllByRecursion, list_any}
use Rattle.std.proofs.lemmas.Bool.{cases_Bool, false≢true}

abbrev pub In : {A : Type 0} → A → List A → Type 0
In x [] = ⊥
In x (y ∷ xs) = (y ≡ x) ⊎ In x xs

pub In-Contains : {A : Type 0} (xs : List A) (x : A) → Contains xs x → In x xs
In-Contains {A = A} xs x c = at xs c.0 c.1 c.2
  where
    at : (xs : List A) (k : ℕ) → k < length xs → slice_index_or xs k x ≡ x → In x xs
    at [] k lt e = absurd (omega (arith, lt))
    at (y ∷ xs) zero lt e = inl e
    at (y ∷ xs) (suc k) lt e = inr (at xs k (omega (arith, lt)) e)

pub Contains-In : {A : Type 0} (xs : List A) (x : A) → In x xs → Contains xs x
Contains-In [] x i = absurd i
Contains-In (y ∷ xs) x i = elim i [
  | inl e ↦ (0, omega arith, e)
  | inr j ↦ let c = Contains-In xs x j in (suc c.0, omega (arith, c.1), c.2)
]

pub all_in : {A : Type 0} (P : A → Type 0) (xs : List A) (x : A) → AllByRecursion P xs → In x xs → P x
all_in P [] x h i = absurd i
all_in P (y ∷ xs) x h i = elim i [ inl e ↦ subst P e h.0 | inr j ↦ all_in P xs x h.1 j ]

pub find_any : {A : Type 0} (test : A → Bool) (xs : List A) → list_any test xs ≡ true → (x : A) × In x xs × (test x ≡ true)
find_any test [] h = absurd (false≢true h)
find_any test (x ∷ xs) h = elim (cases_Bool (test x)) [
  | inl t ↦ (x, inl refl, t)
  | inr f ↦ let r = find_any test xs (subst (λ b. (b || list_any test xs) ≡ true) f h) in (r.0, inr r.1, r.2)
]

pub append_none : {A : Type 0} (xs ys : List A) → xs ++ ys ≡ [] → (xs ≡ []) × (ys ≡ [])
append_none [] ys h = (refl, h)
append_none (x ∷ xs) ys h = cc

pub In-filter : {A : Type 0} (test : A → Bool) (xs : List A) (x : A) → In x xs → test x ≡ true → In x (filter test xs)
In-filter test [] x i h = absurd i
In-filter test (y ∷ xs) x i h = elim (test y) as (λ b. test y ≡ b → In x (cond b (y ∷ filter test xs) (filter test xs))) [
  | true ↦ λ e. elim i [ inl is ↦ inl is | inr j ↦ inr (In-filter test xs x j h) ]
  | false ↦ λ e. elim i [ inl is ↦ absurd (false≢true (sym e ∙ ap test is ∙ h)) | inr j ↦ In-filter test xs x j h ]
] refl

pub In-last : {A : Type 0} (front : List A) (x : A) (q : A) → In q (front ++ x ∷ []) → In q front ⊎ (x ≡ q)
In-last [] x q i = elim i [ inl e ↦ inr e | inr j ↦ absurd j ]
In-last (y ∷ front) x q i = elim i [
  | inl e ↦ inl (inl e)
  | inr j ↦ elim (In-last front x q j) [ inl k ↦ inl (inr k) | inr e ↦ inr e ]
]

pub In-front : {A : Type 0} (front rest : List A) (q : A) → In q front → In q (front ++ rest)
In-front [] rest q i = absurd i
In-front (y ∷ front) rest q i = elim i [ inl e ↦ inl e | inr j ↦ inr (In-front front rest q j) ]

pub In-behind : {A : Type 0} (front rest : List A) (q : A) → In q rest → In q (front ++ rest)
In-behind [] rest q i = i
In-behind (y ∷ front) rest q i = inr (In-behind front rest q i)
