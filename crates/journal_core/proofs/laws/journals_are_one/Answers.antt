use Rattle.journal_core.proofs.Rounds.{stands_for_one}
use Rattle.journal_core.proofs.laws.journals_are_one.Goals as goal

pub returns : goal.returns
returns c = record { one = stands_for_one }
