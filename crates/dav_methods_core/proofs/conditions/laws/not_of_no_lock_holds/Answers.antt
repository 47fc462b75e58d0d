use Rattle.dav_methods_core.proofs.ConditionLaws.{not_holds}
use Rattle.dav_methods_core.proofs.conditions.laws.not_of_no_lock_holds.Goals as goal

pub returns : goal.returns
returns c = not_holds
