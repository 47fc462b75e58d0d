use Rattle.journal_core.proofs.Copying.{copies_are_whole}
use Rattle.journal_core.proofs.laws.copies_are_whole.Goals as goal

pub returns : goal.returns
returns c = record { whole = copies_are_whole }
