use Rattle.dav_headers_core.proofs.davheaders.etags.spelled.Goals as goal

pub returns-else-weak : goal.returns-else-weak
returns-else-weak c = rw c.if-weak.false c.format-else-weak.ensures.ok
