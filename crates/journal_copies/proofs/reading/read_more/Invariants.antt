use Rattle.std.proofs.Common.{◌≡◌, ◌++◌, List, ℕ}
use Rattle.std.specs.Io.KnownBytes.{Consumes}
use Rattle.journal_copies.proofs.reading.read_more.Given as goal

-- what was read so far
abbrev pub invariant-reading : goal.invariant-reading
invariant-reading g l = (more : List ℕ) × (l.bytes.items ≡ l.initial.bytes.items ++ more) × Consumes (g.R.Read.remaining l.initial.input) (g.R.Read.remaining l.input) more

abbrev pub decreases-reading : goal.decreases-reading
decreases-reading g l = l.left
