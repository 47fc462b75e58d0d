use Rattle.dav_answers_core.proofs.MkcolAlikeLaws.{makes_once}
use Rattle.dav_answers_core.proofs.laws.makings_are_determined.Goals as goal

pub returns : goal.returns
returns c = makes_once
