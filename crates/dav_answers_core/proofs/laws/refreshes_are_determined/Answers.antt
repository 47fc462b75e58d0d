use Rattle.dav_answers_core.proofs.RefreshAlikeLaws.{refreshes_once, refreshed_or_not, refresh_refusals_alike}
use Rattle.dav_answers_core.proofs.laws.refreshes_are_determined.Goals as goal

pub returns-clause-told : goal.returns-clause-told
returns-clause-told c = λ most prefix headers s who p. refreshes_once most prefix headers s who p

pub returns-clause-either : goal.returns-clause-either
returns-clause-either c = λ most prefix headers s who p. refreshed_or_not most prefix headers s who p

pub returns-clause-refused : goal.returns-clause-refused
returns-clause-refused c = λ headers s who p. refresh_refusals_alike headers s who p
