use Rattle.std.proofs.Common.{subst}
use Rattle.dav_path_core.specs.Segments.{segments}
use Rattle.dav_guarded_core.specs.Step.{State}
use Rattle.dav_session_core.specs.Callers.{Caller, live}
use Rattle.dav_session_core.specs.Private.Owning.{AllOwn}
use Rattle.dav_session_core.specs.Sessions as spec
use Rattle.dav_session_core.proofs.OwnLemmas.{none_anothers}
use Rattle.dav_session_core.proofs.PutLemmas.{same_look}
use Rattle.dav_session_core.proofs.session.Session.check_unlock.Goals as goal

pub returns-clause-own : goal.returns-clause-own
returns-clause-own g c =
    let who = spec.caller c.args.self.now in
    let s = spec.state g.R.Rng.stream c.args.self.now in
    let mid = spec.caller c.has_token.new.session in
    let m = spec.state g.R.Rng.stream c.has_token.new.session in
    let p = segments c.args.path.now.bytes in
    let token = c.args.token.now in
    none_anothers (live who.now s) who p token
    (subst (λ (w : Caller). AllOwn (live who.now s) w p token) c.has_token.ensures.looks.who
    (subst (λ (t : State). AllOwn t mid p token)
    (same_look who mid s m c.has_token.ensures.looks.who c.has_token.ensures.looks.live)
    c.in_ok-check_own.ensures.ok))
