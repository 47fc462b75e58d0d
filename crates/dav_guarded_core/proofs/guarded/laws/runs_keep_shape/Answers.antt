use Rattle.dav_guarded_core.proofs.RunLaws.{each_shape, run_shape}
use Rattle.dav_guarded_core.proofs.guarded.laws.runs_keep_shape.Goals as goal

pub returns-clause-each : goal.returns-clause-each
returns-clause-each c = λ s requests answers end is_map ran. each_shape s end requests answers is_map

pub returns-clause-end : goal.returns-clause-end
returns-clause-end c = λ s requests answers end is_map ran. run_shape s end requests answers is_map ran
