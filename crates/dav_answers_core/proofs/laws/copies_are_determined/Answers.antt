use Rattle.dav_answers_core.proofs.CopyAlikeLaws.{copies_once}
use Rattle.dav_answers_core.proofs.laws.copies_are_determined.Goals as goal

pub returns : goal.returns
returns c = copies_once
