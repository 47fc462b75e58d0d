use Rattle.dav_answers_core.proofs.UnlockAlikeLaws.{unlocks_once}
use Rattle.dav_answers_core.proofs.laws.unlocks_are_determined.Goals as goal

pub returns : goal.returns
returns c = unlocks_once
