use Rattle.dav_fields_core.proofs.DistinctTokens.{once}
use Rattle.dav_methods_core.proofs.conditions.laws.tokens_stand_once.Goals as goal

pub returns : goal.returns
returns c = once
