use Rattle.std.specs.Prelude.{string_bytes}
use Rattle.dav_path_core.specs.Segments.{segments}
use Rattle.dav_session_core.specs.Sessions as spec
use Rattle.dav_session_core.proofs.GrantLemmas.{taken_by}
use Rattle.dav_session_core.proofs.session.Session.take_back.Goals as goal

pub returns-clause-taken : goal.returns-clause-taken
returns-clause-taken g c = λ s l is path named none.
    taken_by (spec.caller c.args.self.now) (spec.state g.R.Rng.stream c.args.self.now) (spec.state g.R.Rng.stream c.ask.new.self) s l
    (segments c.args.path.bytes) (string_bytes c.args.token) is path named none c.ask.result (c.ask.ensures.step c.requires.room)
