-- A property of each of a list.
use Rattle.std.proofs.Common.{ℕ, zero, suc, List, [], ◌∷◌, ◌++◌, take}

abbrev pub Each : {A : Type 0} → (A → Type 0) → List A → Type 0
Each R [] = Unit {0}
Each R (x ∷ xs) = R x × Each R xs

pub each_append : {A : Type 0} (R : A → Type 0) (xs ys : List A) → Each R xs → Each R ys → Each R (xs ++ ys)
each_append R [] ys h i = i
each_append R (x ∷ xs) ys h i = (h.0, each_append R xs ys h.1 i)

pub each_split : {A : Type 0} (R : A → Type 0) (xs ys : List A) → Each R (xs ++ ys) → Each R xs × Each R ys
each_split R [] ys h = (tt, h)
each_split R (x ∷ xs) ys h = let r = each_split R xs ys h.1 in ((h.0, r.0), r.1)

pub each_take : {A : Type 0} (R : A → Type 0) (k : ℕ) (xs : List A) → Each R xs → Each R (take k xs)
each_take R zero xs h = tt
each_take R (suc k) [] h = tt
each_take R (suc k) (x ∷ xs) h = (h.0, each_take R k xs h.1)
