use Rattle.std.proofs.Common.{◌∙◌}
use Rattle.dav_session_core.proofs.session.Session.members.Goals as goal

pub returns-clause-ok : goal.returns-clause-ok
returns-clause-ok g c = c.in_ok-paths_at.ensures ∙ c.in_ok-places.ensures.ok
