use Rattle.dav_answers_core.proofs.MoveAlikeLaws.{moves_once}
use Rattle.dav_answers_core.proofs.laws.moves_are_determined.Goals as goal

pub returns : goal.returns
returns c = moves_once
