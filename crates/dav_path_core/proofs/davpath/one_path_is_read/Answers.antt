use Rattle.dav_path_core.proofs.paths.Laws.{one_path}
use Rattle.dav_path_core.proofs.davpath.one_path_is_read.Goals as goal

pub returns : goal.returns
returns c = one_path
