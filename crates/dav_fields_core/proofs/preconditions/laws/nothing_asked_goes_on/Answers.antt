use Rattle.dav_fields_core.proofs.PreconditionLaws.{goes_on}
use Rattle.dav_fields_core.proofs.preconditions.laws.nothing_asked_goes_on.Goals as goal

pub returns : goal.returns
returns c = goes_on
