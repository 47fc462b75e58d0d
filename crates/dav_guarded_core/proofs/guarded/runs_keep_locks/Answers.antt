use Rattle.dav_guarded_core.proofs.RunLaws.{keeps_locks}
use Rattle.dav_guarded_core.proofs.guarded.runs_keep_locks.Goals as goal

pub returns : goal.returns
returns c start requests answers end exclusive ran = keeps_locks start end requests answers exclusive ran
