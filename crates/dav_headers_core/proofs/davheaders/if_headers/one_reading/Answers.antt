use Rattle.dav_headers_core.proofs.ifs.GroupLemmas as groups
use Rattle.dav_headers_core.proofs.davheaders.if_headers.one_reading.Goals as goal

pub returns : goal.returns
returns c = groups.one_reading
