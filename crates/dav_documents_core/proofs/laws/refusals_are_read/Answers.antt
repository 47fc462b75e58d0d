use Rattle.dav_documents_core.proofs.RefusalReadingLaws as laws
use Rattle.dav_documents_core.proofs.laws.refusals_are_read.Goals as goal

pub returns : goal.returns
returns c = laws.refusals_are_read
