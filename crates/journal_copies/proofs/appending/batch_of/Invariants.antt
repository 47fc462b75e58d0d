use Rattle.std.proofs.Common.{◌∷◌, ℕ, List, take}
use Rattle.journal_core.specs.Batches.{FitsBehind, Gathers}
use Rattle.journal_copies.specs.ReadRounds.{HoldRecords, bytes_of_each, records_of_all}
use Rattle.journal_copies.proofs.appending.batch_of.Given as goal

-- the rounds so far are gathered
abbrev pub invariant-adding : goal.invariant-adding
invariant-adding g l =
    FitsBehind l.batch l.fn.journal
    × ((new : List (List (List ℕ))) → HoldRecords (l.first ∷ bytes_of_each (take l.round-index l.more)) new → Gathers l.batch (records_of_all new))
