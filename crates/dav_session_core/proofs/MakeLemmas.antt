-- The map that a change of files leaves, and lists without elements.
use Rattle.std.proofs.Common.{◌≡◌, List, [], ◌∷◌, length, Ok, refl, sym, ap, arith}
use Rattle.dav_files_core.specs.Outcomes.{Outcome}
use Rattle.dav_files_core.specs.Resources.{ResourceMap}

pub nothing_in : {A : Type 0} (xs : List A) → length xs ≡ 0 → xs ≡ []
nothing_in [] h = refl
nothing_in (x ∷ xs) h = absurd (omega (arith, h))

abbrev pub done : ResourceMap → Outcome (Unit {0})
done n = Ok (tt, n)

pub left_by : (n m' : ResourceMap) → done n ≡ done m' → m' ≡ n
left_by n m' h =
    let pairs : (tt {0}, n) ≡ (tt {0}, m') = cc in ap (λ (x : Unit {0} × ResourceMap). x.1) (sym pairs)
