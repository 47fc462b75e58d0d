-- What holds of each, and of one more.
use Rattle.std.proofs.Common.{◌≡◌, ℕ, suc, ◌+◌, ◌<◌, List, [], ◌∷◌, ◌++◌, length, take, map, get_or, refl, sym, subst, ap, ◌∙◌, add-one}
use Rattle.std.specs.List.{AllByRecursion}
use Rattle.std.proofs.lemmas.List.{take_more, map_push}

pub all_push : {A : Type 0} (P : A → Type 0) (xs : List A) (x : A) → AllByRecursion P xs → P x → AllByRecursion P (xs ++ x ∷ [])
all_push P [] x h one = (one, tt)
all_push P (y ∷ xs) x h one = (h.0, all_push P xs x h.1 one)

-- of the first so many and of the next
pub all_more : {A B : Type 0} (f : A → B) (P : B → Type 0) (xs : List A) (i : ℕ) (x : A) → i < length xs → get_or xs i x ≡ x
    → AllByRecursion P (map f (take i xs)) → P (f x) → AllByRecursion P (map f (take (i + 1) xs))
all_more f P xs i x lt at h one =
    subst (AllByRecursion P) (sym (ap (map f) (take_more xs i x lt ∙ ap (λ y. take i xs ++ y ∷ []) at) ∙ map_push f (take i xs) x)) (all_push P (map f (take i xs)) (f x) h one)
