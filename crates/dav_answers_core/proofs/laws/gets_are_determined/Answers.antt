use Rattle.dav_answers_core.proofs.GetAlikeLaws.{get_refusals_alike, gets_once, gets_or_not}
use Rattle.dav_answers_core.proofs.laws.gets_are_determined.Goals as goal

pub returns : goal.returns
returns c = record { told = gets_once; either = λ m map path headers status sent e g h. gets_or_not m map path headers status sent g e h; refused = get_refusals_alike }
