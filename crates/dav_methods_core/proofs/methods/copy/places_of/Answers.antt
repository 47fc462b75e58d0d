use Rattle.dav_session_core.proofs.Looking.{looks_none}
use Rattle.dav_methods_core.proofs.methods.copy.places_of.Goals as goal

pub returns-in_err-copy_of-clause-looks : goal.returns-in_err-copy_of-clause-looks
returns-in_err-copy_of-clause-looks g c = looks_none g.R.Rng.stream c.args.session.now

pub returns-in_err-copy_of-2-clause-looks : goal.returns-in_err-copy_of-2-clause-looks
returns-in_err-copy_of-2-clause-looks g c = looks_none g.R.Rng.stream c.args.session.now

pub returns-in_err-push-clause-looks : goal.returns-in_err-push-clause-looks
returns-in_err-push-clause-looks g c = looks_none g.R.Rng.stream c.args.session.now

pub returns-clause-looks : goal.returns-clause-looks
returns-clause-looks g c = looks_none g.R.Rng.stream c.args.session.now
