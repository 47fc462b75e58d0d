use Rattle.dav_headers_core.proofs.tags.TagLemmas.{told}
use Rattle.dav_headers_core.proofs.davheaders.etags.spellings_are_told.Goals as goal

pub returns : goal.returns
returns c text = told text
