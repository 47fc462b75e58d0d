use Rattle.dav_path_core.proofs.paths.Laws.{one_fault}
use Rattle.dav_path_core.proofs.davpath.one_fault_is_first.Goals as goal

pub returns : goal.returns
returns c = one_fault
