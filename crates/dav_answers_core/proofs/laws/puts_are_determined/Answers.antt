use Rattle.dav_answers_core.proofs.PutAlikeLaws.{puts_once}
use Rattle.dav_answers_core.proofs.laws.puts_are_determined.Goals as goal

pub returns : goal.returns
returns c = λ headers s who p bytes. puts_once headers s who p bytes
