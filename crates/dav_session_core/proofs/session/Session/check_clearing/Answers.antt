use Rattle.std.proofs.Common.{◌∙◌, sym}
use Rattle.std.proofs.lemmas.Result.{err_from_is_err_and}
use Rattle.dav_path_core.specs.Segments.{segments}
use Rattle.dav_session_core.specs.Callers.{live}
use Rattle.dav_session_core.specs.Sessions as spec
use Rattle.dav_session_core.proofs.Looking.{looks_on}
use Rattle.dav_session_core.proofs.ClearingLemmas.{anew_fails, clears, removal_refuses}
use Rattle.dav_session_core.proofs.session.Session.check_clearing.Goals as goal

pub returns-in_err-check_removal-clause-err : goal.returns-in_err-check_removal-clause-err
returns-in_err-check_removal-clause-err g c =
    let q = err_from_is_err_and c.from_residual.result c.from_residual.ensures.1 in
    let who = spec.caller c.args.self.now in
    rw (q.1, q.2) (removal_refuses (λ p. segments p.bytes) c.args.places.now (segments c.args.path.now.bytes) (live who.now (spec.state g.R.Rng.stream c.args.self.now)) who
    c.in_err-check_removal.field-0.0 (sym c.is_empty.ensures ∙ c.if-is_empty.false) c.in_err-check_removal.ensures.err)

pub returns-clause-err : goal.returns-clause-err
returns-clause-err g c =
    anew_fails (λ p. segments p.bytes) c.args.places.now (segments c.args.path.now.bytes) c.check_anew.result (spec.caller c.args.self.now) (spec.caller c.check_removal.new.self)
    (spec.state g.R.Rng.stream c.args.self.now) (spec.state g.R.Rng.stream c.check_removal.new.self) c.check_removal.ensures.looks.who c.check_removal.ensures.looks.live
    (sym c.is_empty.ensures ∙ c.if-is_empty.false) c.check_anew.ensures.err

pub returns-clause-ok : goal.returns-clause-ok
returns-clause-ok g c =
    clears (λ p. segments p.bytes) c.args.places.now (segments c.args.path.now.bytes) c.check_anew.result (spec.caller c.args.self.now) (spec.caller c.check_removal.new.self)
    (spec.state g.R.Rng.stream c.args.self.now) (spec.state g.R.Rng.stream c.check_removal.new.self) c.check_removal.ensures.looks.who c.check_removal.ensures.looks.live
    (sym c.is_empty.ensures ∙ c.if-is_empty.false) c.in_ok-check_removal.ensures.ok c.check_anew.ensures.ok

pub returns-clause-looks : goal.returns-clause-looks
returns-clause-looks g c = looks_on c.check_removal.ensures.looks c.check_anew.ensures.looks
