use Rattle.dav_answers_core.proofs.OneAnswerLaws.{one_answer}
use Rattle.dav_answers_core.proofs.laws.answers_are_determined.Goals as goal

pub returns : goal.returns
returns c = one_answer
