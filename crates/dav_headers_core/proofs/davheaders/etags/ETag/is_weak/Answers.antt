use Rattle.dav_headers_core.proofs.tags.TagLemmas.{told}
use Rattle.dav_headers_core.proofs.davheaders.etags.ETag.is_weak.Goals as goal

pub returns-clause-spelling : goal.returns-clause-spelling
returns-clause-spelling c = (told c.args.self.now).0 (rw c.self.view_is at c.self.invariant.0)
