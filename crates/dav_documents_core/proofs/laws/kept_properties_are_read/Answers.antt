use Rattle.dav_documents_core.proofs.SentUpdateLaws.{updates_are_sent}
use Rattle.dav_documents_core.proofs.laws.kept_properties_are_read.Goals as goal

pub returns : goal.returns
returns c = updates_are_sent
