use Rattle.dav_methods_core.proofs.ConditionLaws.{shows_lock}
use Rattle.dav_methods_core.proofs.conditions.laws.held_token_shows_a_lock.Goals as goal

pub returns : goal.returns
returns c = shows_lock
