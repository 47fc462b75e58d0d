-- The last of a list.
use Rattle.std.proofs.Common.{◌≡◌, List, [], ◌∷◌, ◌++◌, Option, Some, refl}
use Rattle.std.specs.List.{last_or}

pub last_behind : {X : Type 0} (o : Option X) (xs : List X) (x : X) → last_or o (xs ++ x ∷ []) ≡ Some x
last_behind o [] x = refl
last_behind o (y ∷ xs) x = last_behind (Some y) xs x
