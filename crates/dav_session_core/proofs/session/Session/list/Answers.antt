use Rattle.std.proofs.Common.{sym, subst}
use Rattle.dav_path_core.specs.Segments.{segments}
use Rattle.dav_guarded_core.specs.Served.{refusal_of}
use Rattle.dav_session_core.specs.Sessions as spec
use Rattle.dav_session_core.proofs.Asking.{Unlisted, unlisted}
use Rattle.dav_session_core.proofs.session.Session.list.Goals as goal

pub returns-clause-err : goal.returns-clause-err
returns-clause-err g c =
    subst (Unlisted c.args.self.now.stores.stores.map (segments c.args.path.bytes)) (sym c.unlisted.ensures)
    (unlisted (spec.caller c.args.self.now) (segments c.args.path.bytes) (spec.state g.R.Rng.stream c.args.self.now) (spec.state g.R.Rng.stream c.look.new.self)
    (refusal_of c.in-Err.refusal) c.in-Err.ensures.step)
