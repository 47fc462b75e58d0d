use Rattle.std.proofs.Common.{◌∙◌}
use Rattle.dav_path_core.specs.Segments.{segments}
use Rattle.dav_guarded_core.specs.Served.{refusal_of}
use Rattle.dav_session_core.specs.Callers.{live}
use Rattle.dav_session_core.specs.Sessions as spec
use Rattle.dav_session_core.proofs.AskedLemmas.{not_moved}
use Rattle.dav_session_core.proofs.MoveLemmas.{is_moved}
use Rattle.dav_session_core.proofs.session.Session.relocate.Goals as goal

pub returns-in-Ok-clause-moved : goal.returns-in-Ok-clause-moved
returns-in-Ok-clause-moved g c = λ can.
    let who = spec.caller c.args.self.now in
    let s = spec.state g.R.Rng.stream c.args.self.now in
    is_moved (live who.now s) who (segments c.args.from.bytes) (segments c.args.to.bytes) can (spec.state g.R.Rng.stream c.ask.new.self) _ c.in-Ok.ensures.asked

pub returns-clause-err : goal.returns-clause-err
returns-clause-err g c = λ can.
    let who = spec.caller c.args.self.now in
    let s = spec.state g.R.Rng.stream c.args.self.now in
    c.refused.ensures ∙ not_moved who s (spec.state g.R.Rng.stream c.ask.new.self) (segments c.args.from.bytes) (segments c.args.to.bytes) can (refusal_of c.in-Err.refusal)
    c.in-Err.ensures.asked
