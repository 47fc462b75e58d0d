use Rattle.dav_locks_core.proofs.laws.RestoredLaws.{free_behind}
use Rattle.dav_locks_core.proofs.memls.restoring.walked_locks_are_restored.Goals as goal

pub returns : goal.returns
returns c = free_behind
