-- Facts on each element of a list, and filters that keep nothing.
use Rattle.std.proofs.Common.{◌≡◌, inl, inr, ℕ, zero, suc, Bool, true, false, cond, ◌||◌, List, [], ◌∷◌, ◌++◌, get_or, map, subst, refl, ap, ◌∙◌}
use Rattle.std.specs.Prelude.{filter, remove, set}
use Rattle.std.specs.List.{AllByRecursion, list_any}
use Rattle.std.proofs.lemmas.Bool.{cases_Bool}

-- what a filter that keeps nothing says
pub none_passes : {A : Type 0} (test : A → Bool) (xs : List A) → filter test xs ≡ [] → AllByRecursion (λ x. test x ≡ false) xs
none_passes test [] h = tt
none_passes test (x ∷ xs) h = elim (cases_Bool (test x)) [
  | inl t ↦ absurd (let e : (x ∷ filter test xs) ≡ [] = subst (λ b. cond b (x ∷ filter test xs) (filter test xs) ≡ []) t h in cc)
  | inr f ↦ (f, none_passes test xs (subst (λ b. cond b (x ∷ filter test xs) (filter test xs) ≡ []) f h))
]

pub filter_none : {A : Type 0} (test : A → Bool) (xs : List A) → AllByRecursion (λ x. test x ≡ false) xs → filter test xs ≡ []
filter_none test [] h = refl
filter_none test (x ∷ xs) h = ap (λ b. cond b (x ∷ filter test xs) (filter test xs)) h.0 ∙ filter_none test xs h.1

pub weaker : {A : Type 0} (P Q : A → Type 0) → ((x : A) → P x → Q x) → (xs : List A) → AllByRecursion P xs → AllByRecursion Q xs
weaker P Q f [] h = tt
weaker P Q f (x ∷ xs) h = (f x h.0, weaker P Q f xs h.1)

pub all_filter : {A : Type 0} (P : A → Type 0) (test : A → Bool) (xs : List A) → AllByRecursion P xs → AllByRecursion P (filter test xs)
all_filter P test [] h = tt
all_filter P test (x ∷ xs) h = elim (test x) as (λ b. AllByRecursion P (cond b (x ∷ filter test xs) (filter test xs))) [
  | true ↦ (h.0, all_filter P test xs h.1)
  | false ↦ all_filter P test xs h.1
]

pub all_push : {A : Type 0} (P : A → Type 0) (xs : List A) (x : A) → AllByRecursion P xs → P x → AllByRecursion P (xs ++ x ∷ [])
all_push P [] x h k = (k, tt)
all_push P (y ∷ xs) x h k = (h.0, all_push P xs x h.1 k)

pub all_remove : {A : Type 0} (P : A → Type 0) (xs : List A) (k : ℕ) → AllByRecursion P xs → AllByRecursion P (remove xs k)
all_remove P [] zero h = tt
all_remove P [] (suc k) h = tt
all_remove P (x ∷ xs) zero h = h.1
all_remove P (x ∷ xs) (suc k) h = (h.0, all_remove P xs k h.1)

-- another value in the place of one
pub all_set : {A : Type 0} (P : A → Type 0) (xs : List A) (k : ℕ) (y d : A) → (P (get_or xs k d) → P y) → AllByRecursion P xs → AllByRecursion P (set xs k y)
all_set P [] zero y d f h = tt
all_set P [] (suc k) y d f h = tt
all_set P (x ∷ xs) zero y d f h = (f h.0, h.1)
all_set P (x ∷ xs) (suc k) y d f h = (h.0, all_set P xs k y d f h.1)

pub any_map : {A B : Type 0} (f : A → B) (p : B → Bool) (xs : List A) → list_any p (map f xs) ≡ list_any (λ x. p (f x)) xs
any_map f p [] = refl
any_map f p (x ∷ xs) = ap (λ b. p (f x) || b) (any_map f p xs)
