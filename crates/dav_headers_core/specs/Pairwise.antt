-- Two lists, place by place.
use Rattle.std.specs.Prelude.{Bool, ◌==◌, ◌&&◌, List, length}
use Rattle.std.specs.List.{list_all, zip}

-- as many elements, each passing the test with the one at its place
abbrev pub pairwise : {A : Type 0} → (A → A → Bool) → List A → List A → Bool
pairwise test xs ys = length xs == length ys && list_all (λ p. test p.0 p.1) (zip xs ys)
