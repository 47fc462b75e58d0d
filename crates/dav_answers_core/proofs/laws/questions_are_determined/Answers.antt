use Rattle.dav_answers_core.proofs.FindAlikeLaws.{find_refusals_alike, finds_once, finds_or_not}
use Rattle.dav_answers_core.proofs.laws.questions_are_determined.Goals as goal

pub returns-clause-told : goal.returns-clause-told
returns-clause-told c = finds_once

pub returns-clause-either : goal.returns-clause-either
returns-clause-either c = finds_or_not

pub returns-clause-refused : goal.returns-clause-refused
returns-clause-refused c = λ finite headers body m p e f is_map. find_refusals_alike finite headers body m p is_map e f
