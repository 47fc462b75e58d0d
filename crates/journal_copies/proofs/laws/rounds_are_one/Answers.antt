use Rattle.journal_copies.proofs.Wholes.{one}
use Rattle.journal_copies.proofs.laws.rounds_are_one.Goals as goal

pub returns : goal.returns
returns c = record { one = one }
