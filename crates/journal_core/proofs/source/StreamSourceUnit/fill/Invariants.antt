use Rattle.std.proofs.Common.{◌≡◌, ◌+◌, ◌-◌, ◌≤◌, ℕ, List, length, take, drop}
use Rattle.journal_core.specs.Sources.{GivesFrom}
use Rattle.journal_core.proofs.source.StreamSourceUnit.fill.Given as goal

-- what is there are the bytes of the file from where it began
abbrev pub invariant-filling : goal.invariant-filling
invariant-filling g l =
    (l.count ≤ length l.buf) × ((file : List ℕ) (at : ℕ) → GivesFrom g.R.Read.remaining l.fn.self file at
    → GivesFrom g.R.Read.remaining l.self file (at + l.count) × (take l.count l.buf ≡ take l.count (drop at file)))

abbrev pub decreases-filling : goal.decreases-filling
decreases-filling g l = length l.buf - l.count
