use Rattle.dav_fields_core.proofs.PreconditionLaws.{parts_alone}
use Rattle.dav_fields_core.proofs.preconditions.laws.parts_alone_become_whole.Goals as goal

pub returns : goal.returns
returns c = parts_alone
