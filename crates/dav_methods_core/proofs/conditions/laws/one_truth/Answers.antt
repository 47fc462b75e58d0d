use Rattle.dav_session_core.proofs.OneConditionLaws.{one_truth}
use Rattle.dav_methods_core.proofs.conditions.laws.one_truth.Goals as goal

pub returns : goal.returns
returns c = one_truth
