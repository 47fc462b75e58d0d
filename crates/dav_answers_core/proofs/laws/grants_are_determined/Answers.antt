use Rattle.dav_answers_core.proofs.LockAlikeLaws.{grants_once, grants_or_not, lock_refusals_alike}
use Rattle.dav_answers_core.proofs.laws.grants_are_determined.Goals as goal

pub returns-clause-told : goal.returns-clause-told
returns-clause-told c = λ most prefix headers body s who path.
    grants_once most prefix headers body s who path

pub returns-clause-either : goal.returns-clause-either
returns-clause-either c = λ most prefix headers body s who path status sent s' e g.
    grants_or_not most headers body s who path prefix status sent s' g e

pub returns-clause-refused : goal.returns-clause-refused
returns-clause-refused c = λ most headers body s who path.
    lock_refusals_alike most headers body s who path
