use Rattle.dav_notes_core.proofs.AheadLemmas.{asked_step}
use Rattle.dav_notes_core.proofs.laws.asked_is_a_step.Goals as goal

pub returns : goal.returns
returns c = asked_step
