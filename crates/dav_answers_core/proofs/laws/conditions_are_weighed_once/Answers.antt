use Rattle.dav_answers_core.proofs.AdmitAlikeLaws.{admitted_or_not, held_off_alike}
use Rattle.dav_answers_core.proofs.laws.conditions_are_weighed_once.Goals as goal

pub returns-clause-either : goal.returns-clause-either
returns-clause-either c = λ site s headers here e. admitted_or_not site s headers here e

pub returns-clause-refused : goal.returns-clause-refused
returns-clause-refused c = λ site s headers here. held_off_alike site s headers here
