use Rattle.dav_guarded_core.proofs.RunLaws.{run_join, run_one}
use Rattle.dav_guarded_core.proofs.guarded.laws.runs_join.Goals as goal

pub returns-clause-join : goal.returns-clause-join
returns-clause-join c = λ s mid end first second early late before after. run_join s mid end first second early late before after

pub returns-clause-step : goal.returns-clause-step
returns-clause-step c = run_one
