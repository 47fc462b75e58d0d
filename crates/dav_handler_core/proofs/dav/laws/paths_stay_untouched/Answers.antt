use Rattle.dav_handler_core.proofs.PathFrameLaws.{put_is_gotten, runs_stay, stays}
use Rattle.dav_handler_core.proofs.dav.laws.paths_stay_untouched.Goals as goal

pub returns-clause-stays : goal.returns-clause-stays
returns-clause-stays c = λ before after request response h shape p. stays before after request shape p h.method h.result h.own h.done h.refused

pub returns-clause-runs : goal.returns-clause-runs
returns-clause-runs c = runs_stay

pub returns-clause-gets : goal.returns-clause-gets
returns-clause-gets c = put_is_gotten
