use Rattle.dav_path_core.proofs.paths.ReadLaws.{read_is_normal}
use Rattle.dav_path_core.proofs.davpath.read_paths_are_normal.Goals as goal

pub returns : goal.returns
returns c = read_is_normal
