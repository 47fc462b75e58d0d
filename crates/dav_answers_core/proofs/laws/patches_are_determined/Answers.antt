use Rattle.dav_answers_core.proofs.PatchAlikeLaws.{patches_once}
use Rattle.dav_answers_core.proofs.laws.patches_are_determined.Goals as goal

pub returns : goal.returns
returns c = patches_once
