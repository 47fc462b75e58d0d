use Rattle.dav_session_core.proofs.CallerLaws.{keeps_apart}
use Rattle.dav_session_core.proofs.session.runs_by_one_caller.Goals as goal

pub returns : goal.returns
returns c = keeps_apart
