use Rattle.dav_methods_core.proofs.ConditionLaws.{untagged_are}
use Rattle.dav_methods_core.proofs.conditions.laws.untagged_lists_are_of_the_request.Goals as goal

pub returns : goal.returns
returns c = λ s base here lists. untagged_are s base here lists
