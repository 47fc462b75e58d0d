use Rattle.dav_fields_core.proofs.PreconditionLaws.{reads_alone}
use Rattle.dav_fields_core.proofs.preconditions.laws.reads_alone_are_not_modified.Goals as goal

pub returns : goal.returns
returns c = reads_alone
