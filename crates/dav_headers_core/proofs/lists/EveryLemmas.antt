-- What each element of a list gives, as a loop goes over the list.
use Rattle.std.proofs.Common.{◌≡◌, refl, sym, ap, ◌∙◌, ℕ, zero, suc, ◌+◌, ◌<◌, arith, Bool, List, [], ◌∷◌, ◌++◌, length, get_or, take, map, Option, None, Some}
use Rattle.std.specs.Cmp.Lexicographic.{pointwise}
use Rattle.std.specs.List.{AllZip}
use Rattle.std.proofs.lemmas.List.{map_push, take_more, get_or-map, length-map}
use Rattle.dav_headers_core.specs.Optional.{◌>>=◌, every}

-- one more element at the end
pub every_push : {A B : Type 0} (f : A → Option B) (xs : List A) (x : A) → every f (xs ++ x ∷ []) ≡ (every f xs >>= λ ys. f x >>= λ y. Some (ys ++ y ∷ []))
every_push f [] x = refl
every_push {A = A} {B = B} f (z ∷ xs) x = rw (every_push f xs x) (regroup (f z) (every f xs) (f x))
  where
    regroup : (first : Option B) (front : Option (List B)) (last : Option B) → (first >>= λ y. (front >>= λ ys. last >>= λ w. Some (ys ++ w ∷ [])) >>= λ ys. Some (y ∷ ys)) ≡ ((first >>= λ y. front >>= λ ys. Some (y ∷ ys)) >>= λ ys. last >>= λ w. Some (ys ++ w ∷ []))
    regroup None front last = refl
    regroup (Some y) None last = refl
    regroup (Some y) (Some ys) None = refl
    regroup (Some y) (Some ys) (Some w) = refl

pub none_within : {A B : Type 0} (f : A → Option B) (xs : List A) (i : ℕ) (d : A) → i < length xs → f (get_or xs i d) ≡ None → every f xs ≡ None
none_within f [] i d lt e = absurd (omega arith)
none_within f (x ∷ xs) zero d lt e = rw e refl
none_within f (x ∷ xs) (suc i) d lt e = nothing (f x) (every f xs) (none_within f xs i d (omega arith) e)
  where
    nothing : {B : Type 0} (first : Option B) (rest : Option (List B)) → rest ≡ None → (first >>= λ y. rest >>= λ ys. Some (y ∷ ys)) ≡ None
    nothing None rest e = refl
    nothing (Some y) rest e = rw e refl

-- ---- a loop over a list, which `shown` reads

pub every_more : {X A B : Type 0} (f : A → Option B) (shown : X → A) (xs : List X) (i : ℕ) (d : X) (ys zs : List B) (y : B) → i < length xs → every f (map shown (take i xs)) ≡ Some ys → Some y ≡ f (shown (get_or xs i d)) → zs ≡ ys ++ y ∷ [] → every f (map shown (take (i + 1) xs)) ≡ Some zs
every_more f shown xs i d ys zs y lt e one more =
    rw (take_more xs i d lt, map_push shown (take i xs) (get_or xs i d), every_push f (map shown (take i xs)) (shown (get_or xs i d)), e, ← one, more) refl

pub every_refused : {X A B : Type 0} (f : A → Option B) (shown : X → A) (xs : List X) (i : ℕ) (d : X) → i < length xs → None ≡ f (shown (get_or xs i d)) → every f (map shown xs) ≡ None
every_refused f shown xs i d lt e =
    none_within f (map shown xs) i (shown d) (omega (arith, length-map xs shown)) (ap f (get_or-map shown xs i d (shown d) lt) ∙ sym e)

-- the same of two lists that are shown alike
pub shown_more : {X Y A : Type 0} (f : X → A) (g : Y → A) (xs : List X) (i : ℕ) (d : X) (ys zs : List Y) (y : Y) → i < length xs → map g ys ≡ map f (take i xs) → g y ≡ f (get_or xs i d) → zs ≡ ys ++ y ∷ [] → map g zs ≡ map f (take (i + 1) xs)
shown_more f g xs i d ys zs y lt e one more =
    rw (more, map_push g ys y, take_more xs i d lt, map_push f (take i xs) (get_or xs i d), e, one) refl

-- copies are shown alike
pub copies_shown : {X A : Type 0} (shown : X → A) (xs ys : List X) → AllZip (λ x y. shown y ≡ shown x) xs ys → map shown ys ≡ map shown xs
copies_shown shown [] [] h = refl
copies_shown shown [] (y ∷ ys) h = absurd h
copies_shown shown (x ∷ xs) [] h = absurd h
copies_shown shown (x ∷ xs) (y ∷ ys) h = rw (h.0, copies_shown shown xs ys h.1) refl

-- lists that are compared as they are shown
pub pointwise_shown : {X A : Type 0} (same : A → A → Bool) (shown : X → A) (xs ys : List X) → pointwise (λ x y. same (shown x) (shown y)) xs ys ≡ pointwise same (map shown xs) (map shown ys)
pointwise_shown same shown [] [] = refl
pointwise_shown same shown [] (y ∷ ys) = refl
pointwise_shown same shown (x ∷ xs) [] = refl
pointwise_shown same shown (x ∷ xs) (y ∷ ys) = rw (pointwise_shown same shown xs ys) refl
