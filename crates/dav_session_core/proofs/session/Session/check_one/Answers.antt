use Rattle.std.proofs.Common.{◌≡◌, [], subst, ap, ◌∙◌}
use Rattle.std.proofs.lemmas.Result.{err_from_is_err_and}
use Rattle.dav_path_core.specs.Segments.{segments}
use Rattle.dav_faults_core.specs.Faults.{fault_of_path}
use Rattle.dav_faults_core.specs.declared.faults.Fault.TheVariants as fault
use Rattle.dav_session_core.specs.Callers.{live}
use Rattle.dav_session_core.specs.LocksInTheWay.{IsRefusedBy}
use Rattle.dav_session_core.specs.Sessions as spec
use Rattle.dav_session_core.proofs.Looking.{looks_none, looks_on}
use Rattle.dav_session_core.proofs.RemovalCheckLemmas.{below, both_pass, first_fails, second_fails}
use Rattle.dav_session_core.proofs.session.Session.check_one.Goals as goal

pub returns-in_err-check_reached-clause-err : goal.returns-in_err-check_reached-clause-err
returns-in_err-check_reached-clause-err g c =
    let q = err_from_is_err_and c.from_residual-in_err-check_reached.result c.from_residual-in_err-check_reached.ensures.1 in
    let who = spec.caller c.args.self.now in
    let s = spec.state g.R.Rng.stream c.args.self.now in
    let e = c.in_err-check_reached.field-0.0 in
    rw (q.1, q.2) (first_fails who (live who.now s) (segments c.args.place.now.bytes) e
    (subst (λ p. IsRefusedBy (below (live who.now s) who (segments p.bytes)) e) c.in_ok-copy_of.ensures c.in_err-check_reached.ensures.err))

pub returns-clause-err : goal.returns-clause-err
returns-clause-err g c =
    second_fails (spec.caller c.args.self.now) (spec.caller c.check_reached.new.self) (spec.state g.R.Rng.stream c.args.self.now) (spec.state g.R.Rng.stream c.check_reached.new.self)
    (segments c.args.place.now.bytes) (segments c.in_ok-parent.field-0.bytes) c.check.result c.check_reached.ensures.looks.who c.check_reached.ensures.looks.live c.in_ok-parent.ensures.above
    c.check.ensures.err

pub returns-clause-ok : goal.returns-clause-ok
returns-clause-ok g c =
    let who = spec.caller c.args.self.now in
    let s = spec.state g.R.Rng.stream c.args.self.now in
    both_pass who (spec.caller c.check_reached.new.self) s (spec.state g.R.Rng.stream c.check_reached.new.self) (segments c.args.place.now.bytes) (segments c.in_ok-parent.field-0.bytes) c.check.result
    (subst (λ p. below (live who.now s) who (segments p.bytes) ≡ []) c.in_ok-copy_of.ensures c.in_ok-check_reached.ensures.ok) c.check_reached.ensures.looks.who c.check_reached.ensures.looks.live
    c.in_ok-parent.ensures.above c.check.ensures.ok

pub returns-clause-looks : goal.returns-clause-looks
returns-clause-looks g c = looks_on c.check_reached.ensures.looks c.check.ensures.looks

pub returns-in_err-copy_of-clause-ok : goal.returns-in_err-copy_of-clause-ok
returns-in_err-copy_of-clause-ok g c = let q = err_from_is_err_and c.from_residual.result c.from_residual.ensures.1 in rw q.1 tt

pub returns-in_err-copy_of-clause-err : goal.returns-in_err-copy_of-clause-err
returns-in_err-copy_of-clause-err g c = let q = err_from_is_err_and c.from_residual.result c.from_residual.ensures.1 in rw (q.1, q.2) tt

pub returns-in_err-copy_of-clause-looks : goal.returns-in_err-copy_of-clause-looks
returns-in_err-copy_of-clause-looks g c = looks_none g.R.Rng.stream c.args.self.now

pub returns-in_err-copy_of-clause-shape : goal.returns-in_err-copy_of-clause-shape
returns-in_err-copy_of-clause-shape g c = let q = err_from_is_err_and c.from_residual.result c.from_residual.ensures.1 in rw q.1 tt

pub returns-in_err-check_reached-clause-ok : goal.returns-in_err-check_reached-clause-ok
returns-in_err-check_reached-clause-ok g c = let q = err_from_is_err_and c.from_residual-in_err-check_reached.result c.from_residual-in_err-check_reached.ensures.1 in rw q.1 tt

pub returns-in_err-check_reached-clause-looks : goal.returns-in_err-check_reached-clause-looks
returns-in_err-check_reached-clause-looks g c = c.check_reached.ensures.looks

pub returns-in_err-check_reached-clause-shape : goal.returns-in_err-check_reached-clause-shape
returns-in_err-check_reached-clause-shape g c = let q = err_from_is_err_and c.from_residual-in_err-check_reached.result c.from_residual-in_err-check_reached.ensures.1 in rw q.1 tt

pub returns-in_err-parent-clause-ok : goal.returns-in_err-parent-clause-ok
returns-in_err-parent-clause-ok g c = let q = err_from_is_err_and c.from_residual-in_err-parent.result c.from_residual-in_err-parent.ensures.1 in rw q.1 tt

pub returns-in_err-parent-clause-err : goal.returns-in_err-parent-clause-err
returns-in_err-parent-clause-err g c =
    let q = err_from_is_err_and c.from_residual-in_err-parent.result c.from_residual-in_err-parent.ensures.1 in
    let lacks : q.0 ≡ fault.InsufficientStorage = q.2 ∙ ap fault_of_path c.in_err-parent.ensures.err in
    rw (q.1, lacks) tt

pub returns-in_err-parent-clause-looks : goal.returns-in_err-parent-clause-looks
returns-in_err-parent-clause-looks g c = c.check_reached.ensures.looks

pub returns-in_err-parent-clause-shape : goal.returns-in_err-parent-clause-shape
returns-in_err-parent-clause-shape g c = let q = err_from_is_err_and c.from_residual-in_err-parent.result c.from_residual-in_err-parent.ensures.1 in rw q.1 tt

pub returns-clause-shape : goal.returns-clause-shape
returns-clause-shape g c = c.check.ensures.shape
