-- Places in a list: the first that passes a test, what a filter by it keeps, and whether any passes.
use Rattle.std.proofs.Common.{◌≡◌, ℕ, zero, suc, ◌+◌, ◌<◌, ◌≤◌, List, [], ◌∷◌, Bool, true, false, cond, length, get_or, map, Some, None, refl, sym, ◌∙◌, inl, inr, subst, ap, arith}
use Rattle.std.specs.Prelude.{filter, remove, set, Contains, position, not, nat_lt, ◌||◌, ◌&&◌}
use Rattle.std.specs.List.{AllByRecursion, position_or_len, prefix_len, list_any}
use Rattle.std.proofs.lemmas.Bool.{cases_Bool, ltb-false}
use Rattle.std.proofs.lemmas.List.Quantifiers.{position-Some}

-- none passes of those before the first that passes
none_before : {X : Type 0} (p : X → Bool) (xs : List X) → length xs ≤ prefix_len (λ x. not (p x)) xs → (k : ℕ) (d : X) → k < length xs → p (get_or xs k d) ≡ false
none_before p [] h k d lt = absurd (omega arith)
none_before p (x ∷ xs) h k d lt = elim (cases_Bool (p x)) [
  | inl t ↦ (let e : length (x ∷ xs) ≤ 0 = subst (λ b. length (x ∷ xs) ≤ cond (not b) (1 + prefix_len (λ x. not (p x)) xs) 0) t h in absurd (omega arith))
  | inr f ↦ (let e : length (x ∷ xs) ≤ 1 + prefix_len (λ x. not (p x)) xs = subst (λ b. length (x ∷ xs) ≤ cond (not b) (1 + prefix_len (λ x. not (p x)) xs) 0) f h in
      at k lt (λ j l. none_before p xs (omega arith) j d l) f)
]
  where
    at : (k : ℕ) → k < length (x ∷ xs) → ((j : ℕ) → j < length xs → p (get_or xs j d) ≡ false) → p x ≡ false → p (get_or (x ∷ xs) k d) ≡ false
    at zero lt rest f = f
    at (suc k) lt rest f = rest k (omega arith)

pub position-none : {X : Type 0} (p : X → Bool) (xs : List X) → position p xs ≡ None → (k : ℕ) (d : X) → k < length xs → p (get_or xs k d) ≡ false
position-none p xs h = elim (cases_Bool (nat_lt (position_or_len p xs) (length xs))) [
  | inl t ↦ absurd (some_none (position_or_len p xs) (subst (λ b. cond b (Some (position_or_len p xs)) None ≡ None) t h))
  | inr f ↦ none_before p xs (ltb-false (position_or_len p xs) (length xs) f)
]
  where
    some_none : {X : Type 0} (x : X) → Some x ≡ None → ⊥
    some_none x h = cc

-- the first that passes: it does, and none before it
pub position-first : {X : Type 0} (p : X → Bool) (xs : List X) (k : ℕ) → position p xs ≡ Some k → (k < length xs) × ((d : X) → p (get_or xs k d) ≡ true) × ((j : ℕ) (d : X) → j < k → p (get_or xs j d) ≡ false)
position-first p [] k h = absurd (some_none k (sym h))
  where
    some_none : (x : ℕ) → Some x ≡ None → ⊥
    some_none x h = cc
position-first p (x ∷ xs) k h =
    let w = position-Some p (x ∷ xs) k x h in
    (w.0, λ d. (position-Some p (x ∷ xs) k d h).1, λ j d lt. (position-Some p (x ∷ xs) k d h).2 j lt)

-- ---- a filter

pub filter-all : {X : Type 0} (p : X → Bool) (xs : List X) → AllByRecursion (λ x. p x ≡ true) xs → filter p xs ≡ xs
filter-all p [] h = refl
filter-all p (x ∷ xs) h = ap (λ b. cond b (x ∷ filter p xs) (filter p xs)) h.0 ∙ ap (λ ys. x ∷ ys) (filter-all p xs h.1)

pub filter_all_at : {X : Type 0} (p : X → Bool) (xs : List X) → ((k : ℕ) (d : X) → k < length xs → p (get_or xs k d) ≡ true) → filter p xs ≡ xs
filter_all_at p [] h = refl
filter_all_at p (x ∷ xs) h = ap (λ b. cond b (x ∷ filter p xs) (filter p xs)) (h 0 x (omega arith)) ∙ ap (λ ys. x ∷ ys) (filter_all_at p xs (λ k d lt. h (suc k) d (omega (arith, lt))))

-- what doesn't pass may go before
pub filter-remove : {X : Type 0} (p : X → Bool) (xs : List X) (k : ℕ) → ((d : X) → k < length xs → p (get_or xs k d) ≡ false) → filter p (remove xs k) ≡ filter p xs
filter-remove p [] zero h = refl
filter-remove p [] (suc k) h = refl
filter-remove p (x ∷ xs) zero h = sym (ap (λ b. cond b (x ∷ filter p xs) (filter p xs)) (h x (omega arith)))
filter-remove p (x ∷ xs) (suc k) h = ap (λ ys. cond (p x) (x ∷ ys) ys) (filter-remove p xs k (λ d lt. h d (omega (arith, lt))))

pub filter_none_at : {X : Type 0} (p : X → Bool) (xs : List X) → ((k : ℕ) (d : X) → k < length xs → p (get_or xs k d) ≡ false) → filter p xs ≡ []
filter_none_at p [] h = refl
filter_none_at p (x ∷ xs) h =
    subst (λ b. cond b (x ∷ filter p xs) (filter p xs) ≡ []) (sym (h 0 x (omega arith))) (filter_none_at p xs (λ k d lt. h (suc k) d (omega arith)))

pub filter-contains : {X : Type 0} (p : X → Bool) (xs : List X) (k : ℕ) (d x : X) → k < length xs → get_or xs k d ≡ x → p x ≡ true → Contains (filter p xs) x
filter-contains p [] k d x h e t = absurd (omega arith)
filter-contains p (y ∷ xs) zero d x h e t = subst (λ b. Contains (cond b (y ∷ filter p xs) (filter p xs)) x) (sym (ap p e ∙ t)) (0, (omega arith), e)
filter-contains p (y ∷ xs) (suc k) d x h e t = elim (p y) as (λ b. Contains (cond b (y ∷ filter p xs) (filter p xs)) x) [
  | true ↦ (let r = filter-contains p xs k d x (omega arith) e t in (suc r.0, (omega arith), r.2))
  | false ↦ filter-contains p xs k d x (omega arith) e t
]

-- what doesn't pass may be replaced by what doesn't
pub filter-set : {X : Type 0} (p : X → Bool) (xs : List X) (k : ℕ) (y : X) → ((d : X) → k < length xs → p (get_or xs k d) ≡ false) → p y ≡ false → filter p (set xs k y) ≡ filter p xs
filter-set p [] zero y h f = refl
filter-set p [] (suc k) y h f = refl
filter-set p (x ∷ xs) zero y h f = ap (λ b. cond b (y ∷ filter p xs) (filter p xs)) f ∙ sym (ap (λ b. cond b (x ∷ filter p xs) (filter p xs)) (h x (omega arith)))
filter-set p (x ∷ xs) (suc k) y h f = ap (λ ys. cond (p x) (x ∷ ys) ys) (filter-set p xs k y (λ d lt. h d (omega (arith, lt))) f)

-- one filter behind another
pub filter-filter : {X : Type 0} (p q : X → Bool) (xs : List X) → filter p (filter q xs) ≡ filter (λ x. q x && p x) xs
filter-filter p q [] = refl
filter-filter p q (x ∷ xs) = elim (q x) as (λ b. filter p (cond b (x ∷ filter q xs) (filter q xs)) ≡ cond (b && p x) (x ∷ filter (λ x. q x && p x) xs) (filter (λ x. q x && p x) xs)) [
  | true ↦ ap (λ ys. cond (p x) (x ∷ ys) ys) (filter-filter p q xs)
  | false ↦ filter-filter p q xs
]

-- what a filter keeps, another kept before
pub filter-again : {X : Type 0} (p q : X → Bool) (xs : List X) → filter p (filter q (filter p xs)) ≡ filter q (filter p xs)
filter-again p q [] = refl
filter-again p q (x ∷ xs) = elim (p x) as (λ b. p x ≡ b → filter p (filter q (cond b (x ∷ filter p xs) (filter p xs))) ≡ filter q (cond b (x ∷ filter p xs) (filter p xs))) [
  | true ↦ λ e. elim (q x) as (λ b. filter p (cond b (x ∷ filter q (filter p xs)) (filter q (filter p xs))) ≡ cond b (x ∷ filter q (filter p xs)) (filter q (filter p xs))) [
    | true ↦ ap (λ b. cond b (x ∷ filter p (filter q (filter p xs))) (filter p (filter q (filter p xs)))) e ∙ ap (λ ys. x ∷ ys) (filter-again p q xs)
    | false ↦ filter-again p q xs
  ]
  | false ↦ λ e. filter-again p q xs
] refl

-- a filter of what is made of each element
pub map-filter : {A B : Type 0} (f : A → B) (test : B → Bool) (xs : List A) → map f (filter (λ x. test (f x)) xs) ≡ filter test (map f xs)
map-filter f test [] = refl
map-filter f test (x ∷ xs) = elim (test (f x)) as (λ b. map f (cond b (x ∷ filter (λ x. test (f x)) xs) (filter (λ x. test (f x)) xs)) ≡ cond b (f x ∷ filter test (map f xs)) (filter test (map f xs))) [
  | true ↦ ap (λ r. f x ∷ r) (map-filter f test xs)
  | false ↦ map-filter f test xs
]

-- ---- whether any passes

pub any-none : {X : Type 0} (p : X → Bool) (xs : List X) → ((k : ℕ) (d : X) → k < length xs → p (get_or xs k d) ≡ false) → list_any p xs ≡ false
any-none p [] h = refl
any-none p (x ∷ xs) h = subst (λ b. (b || list_any p xs) ≡ false) (sym (h 0 x (omega arith))) (any-none p xs (λ k d lt. h (suc k) d (omega arith)))
