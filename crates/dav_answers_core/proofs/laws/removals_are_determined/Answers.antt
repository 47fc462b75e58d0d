use Rattle.dav_answers_core.proofs.DeleteAlikeLaws.{removes_once}
use Rattle.dav_answers_core.proofs.laws.removals_are_determined.Goals as goal

pub returns : goal.returns
returns c = removes_once
