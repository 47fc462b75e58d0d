-- Sums that stop at the greatest number, of which nothing is left.
use Rattle.std.proofs.Common.{◌≡◌, ◌+◌, ◌<◌, ◌^◌, ◌∙◌, ℕ, List, [], length, sym, ap, arith}
use Rattle.std.specs.List.{sum_by}
use Rattle.dav_notes_core.specs.Costs.{in_eight_bytes}

small : (n : ℕ) → n < 2 ^ 64 → in_eight_bytes (n + 0) ≡ n
small n lt = grind arith

pub summed : (n w : ℕ) (rest : List (List ℕ)) → n < 2 ^ 64 → rest ≡ [] → in_eight_bytes (n + sum_by (λ s. length s + 1) rest) ≡ w → n ≡ w
summed n w rest lt none is = sym (small n lt) ∙ ap (λ (xs : List (List ℕ)). in_eight_bytes (n + sum_by (λ s. length s + 1) xs)) (sym none) ∙ is
