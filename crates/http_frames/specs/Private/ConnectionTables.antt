-- What stands by numbers.
use Rattle.std.specs.Prelude.{ℕ, List, Option, ◌==◌}
use Rattle.std.specs.Map.{lookup}

-- what stands under a number, among the entries of a table
abbrev pub stands_at : {V : Type 0} → List (ℕ × V) → ℕ → Option V
stands_at entries number = lookup (λ k. number == k) entries
