use Rattle.dav_documents_core.proofs.SentOwnerLaws.{owners_are_sent}
use Rattle.dav_documents_core.proofs.laws.kept_owners_are_read.Goals as goal

pub returns : goal.returns
returns c = owners_are_sent
