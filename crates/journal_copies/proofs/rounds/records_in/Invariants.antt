use Rattle.std.proofs.Common.{length}
use Rattle.journal_copies.proofs.rounds.records_in.Given as goal

abbrev pub decreases-counting : goal.decreases-counting
decreases-counting l = length l.rest
