use Rattle.dav_session_core.proofs.Looking.{looks_none}
use Rattle.dav_methods_core.proofs.methods.preconditions.check_conditions.Goals as goal

pub returns-then-asks_nothing-clause-looks : goal.returns-then-asks_nothing-clause-looks
returns-then-asks_nothing-clause-looks g c = looks_none g.R.Rng.stream c.args.session.now
