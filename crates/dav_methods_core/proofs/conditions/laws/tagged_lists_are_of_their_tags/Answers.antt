use Rattle.dav_methods_core.proofs.ConditionLaws.{productions_are}
use Rattle.dav_methods_core.proofs.conditions.laws.tagged_lists_are_of_their_tags.Goals as goal

pub returns : goal.returns
returns c = λ s base here productions holds. productions_are s base here productions holds
