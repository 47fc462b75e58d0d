use Rattle.std.proofs.Common.{ℕ, List}
use Rattle.std.specs.Io.Buffered.{reader_remaining}
use Rattle.std.specs.Io.KnownBytes.{Consumes}
use Rattle.journal_copies.specs.ReadRounds.{bytes_of_each}
use Rattle.store_copies.specs.TakenRounds.{Came}
use Rattle.store_copies.proofs.coming.come_by_now.Given as goal

-- the rounds so far came
abbrev pub invariant-coming : goal.invariant-coming
invariant-coming g l =
    (bytes : List ℕ) × Came (bytes_of_each l.rounds.items) bytes × Consumes (reader_remaining g.I.Read.remaining l.fn.input) (reader_remaining g.I.Read.remaining l.input) bytes
