-- Values that may be missing.
use Rattle.std.specs.Prelude.{Bool, true, false, List, [], ◌∷◌, Option, None, Some}

-- the second reading, of what the first gives
infixl 10 ◌>>=◌
abbrev pub ◌>>=◌ : {A B : Type 0} → Option A → (A → Option B) → Option B
(Some x) >>= f = f x
None >>= f = None

-- the value, where the test holds
abbrev pub when : {A : Type 0} → Bool → A → Option A
when true x = Some x
when false x = None

-- by the value in an option, or without
abbrev pub choose : {A B : Type 0} → Option A → (A → B) → B → B
choose (Some x) f otherwise = f x
choose None f otherwise = otherwise

-- what each of the list gives, where each gives something
abbrev pub every : {A B : Type 0} → (A → Option B) → List A → Option (List B)
every f [] = Some []
every f (x ∷ xs) = f x >>= λ y. every f xs >>= λ ys. Some (y ∷ ys)
