use Rattle.std.proofs.Common.{inl}
use Rattle.std.specs.Prelude.{IfErr, IfOk}
use Rattle.std.proofs.lemmas.Result.{err_from_is_err_and}
use Rattle.dav_path_core.specs.Segments.{segments}
use Rattle.dav_methods_core.specs.MoveMethod.{FailsToMove, Moves}
use Rattle.dav_session_core.specs.Sessions as spec
use Rattle.dav_safe_methods_core.proofs.Acting.{held_before, looks_act}
use Rattle.dav_methods_core.proofs.MoveCheckLemmas.{leaves_before, move_halted, move_left}
use Rattle.dav_session_core.proofs.Looking.{acts_on}
use Rattle.dav_methods_core.proofs.methods.moving.relocate.Goals as goal

pub returns-in_err-check_reach-clause-err : goal.returns-in_err-check_reach-clause-err
returns-in_err-check_reach-clause-err g c =
    let q = err_from_is_err_and c.from_residual.result c.from_residual.ensures.1 in
    rw (q.1, q.2) (inl (move_halted c.args.site.now c.args.prefix.now c.args.headers.now (spec.caller c.args.session.now) (spec.state g.R.Rng.stream c.args.session.now)
    (segments c.args.path.bytes) c.in_err-check_reach.field-0.0 c.in_err-check_reach.ensures.err))

pub returns-in_err-check_reach-clause-left : goal.returns-in_err-check_reach-clause-left
returns-in_err-check_reach-clause-left g c =
    let q = err_from_is_err_and c.from_residual.result c.from_residual.ensures.1 in
    rw (q.1, q.2) (move_left c.args.site.now c.args.prefix.now c.args.headers.now (spec.caller c.args.session.now) (spec.state g.R.Rng.stream c.args.session.now)
    (segments c.args.path.bytes) c.in_err-check_reach.field-0.0 (spec.state g.R.Rng.stream c.check_reach.new.session) c.check_reach.ensures.looks.live)

pub returns-clause-done : goal.returns-clause-done
returns-clause-done g c =
    held_before (λ w t. IfOk c.relocate_all.result (λ code. Moves c.args.site.now c.args.prefix.now c.args.headers.now t w (segments c.args.path.bytes) code
    (spec.state g.R.Rng.stream c.relocate_all.new.session))) c.check_reach.ensures.looks c.relocate_all.ensures.done

pub returns-clause-err : goal.returns-clause-err
returns-clause-err g c =
    held_before (λ w t. IfErr c.relocate_all.result (λ e. FailsToMove c.args.site.now c.args.prefix.now c.args.headers.now t w (segments c.args.path.bytes) e))
    c.check_reach.ensures.looks c.relocate_all.ensures.err

pub returns-clause-left : goal.returns-clause-left
returns-clause-left g c =
    leaves_before c.args.site.now c.args.prefix.now c.args.headers.now (spec.caller c.args.session.now) (spec.state g.R.Rng.stream c.args.session.now)
    (segments c.args.path.bytes) (spec.caller c.check_reach.new.session) (spec.state g.R.Rng.stream c.check_reach.new.session)
    (spec.state g.R.Rng.stream c.relocate_all.new.session) c.check_reach.ensures.looks.who c.check_reach.ensures.looks.live c.relocate_all.result c.relocate_all.ensures.left

pub returns-in_err-check_reach-clause-acts : goal.returns-in_err-check_reach-clause-acts
returns-in_err-check_reach-clause-acts g c = looks_act c.check_reach.ensures.looks

pub returns-clause-acts : goal.returns-clause-acts
returns-clause-acts g c = acts_on (looks_act c.check_reach.ensures.looks) c.relocate_all.ensures.acts
