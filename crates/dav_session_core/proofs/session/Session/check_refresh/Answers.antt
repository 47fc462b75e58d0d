use Rattle.std.proofs.lemmas.Result.{on_ok_weaker}
use Rattle.dav_path_core.specs.Segments.{segments}
use Rattle.dav_session_core.specs.Sessions as spec
use Rattle.dav_session_core.proofs.OwnLemmas.{none_anothers}
use Rattle.dav_session_core.proofs.session.Session.check_refresh.Goals as goal

pub returns-clause-own : goal.returns-clause-own
returns-clause-own g c =
    on_ok_weaker c.check_own.result
    (none_anothers (spec.live_of g.R.Rng.stream c.args.self.now) (spec.caller c.args.self.now) (segments c.args.path.now.bytes) c.args.token.now)
    c.check_own.ensures.ok
