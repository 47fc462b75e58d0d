-- A path is no longer than itself.
use Rattle.std.proofs.Common.{◌≡◌, [], ◌∷◌, ◌++◌, length, ap, arith, length-append}
use Rattle.dav_path_core.specs.Fronts.{Segment, Path}

pub longer : (q : Path) (s : Segment) → ¬ (q ≡ q ++ (s ∷ []))
longer q s e = let long = ap (λ (p : Path). length p) e in let sum = length-append q (s ∷ []) in absurd (omega arith)

pub no_longer : (q : Path) (s : Segment) (rest : Path) → ¬ (q ≡ (q ++ (s ∷ [])) ++ rest)
no_longer q s rest e =
    let long = ap (λ (p : Path). length p) e in
    let sum = length-append (q ++ (s ∷ [])) rest in
    let sum' = length-append q (s ∷ []) in
    absurd (omega arith)
