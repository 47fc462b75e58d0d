use Rattle.std.proofs.Common.{inl, map}
use Rattle.std.specs.Prelude.{option_map}
use Rattle.std.proofs.lemmas.Result.{err_from_is_err_and}
use Rattle.dav_path_core.specs.declared.util.DavMethod.TheVariants as method
use Rattle.dav_path_core.specs.Fronts.{Path}
use Rattle.dav_path_core.specs.Segments.{segments}
use Rattle.dav_files_core.specs.Meta.{meta_of}
use Rattle.dav_session_core.specs.Callers.{live}
use Rattle.dav_session_core.specs.Sessions as spec
use Rattle.dav_session_core.specs.declared.session.copying.Transfer.{Transfer}
use Rattle.dav_methods_core.specs.CopyMethod.{CanCopy, CantCopy, IsPlanned}
use Rattle.dav_session_core.proofs.Looking.{looks_on}
use Rattle.dav_safe_methods_core.proofs.Acting.{held_before}
use Rattle.dav_methods_core.proofs.CopyMethodLemmas.{copy_halted}
use Rattle.dav_methods_core.proofs.CourseLemmas.{course_stays, stopped_after}
use Rattle.dav_methods_core.proofs.methods.copy.admitted_plan.Goals as goal

abbrev ends : Transfer → Path × Path
ends t = (segments t.from.bytes, segments t.to.bytes)

pub returns-in_err-deep-clause-err : goal.returns-in_err-deep-clause-err
returns-in_err-deep-clause-err g c =
    let q = err_from_is_err_and c.from_residual.result c.from_residual.ensures.1 in
    rw (q.1, q.2) (inl (copy_halted c.args.site.now c.args.prefix.now c.args.headers.now (spec.caller c.args.session.now) (spec.state g.R.Rng.stream c.args.session.now)
    (segments c.args.path.now.bytes) c.in_err-deep.field-0.0 c.in_err-deep.ensures.err))

pub returns-in_err-plan-clause-err : goal.returns-in_err-plan-clause-err
returns-in_err-plan-clause-err g c =
    let q = err_from_is_err_and c.from_residual-in_err-plan.result c.from_residual-in_err-plan.ensures.1 in
    rw (q.1, q.2) (inl (held_before (λ w t. CantCopy c.args.site.now c.args.prefix.now c.args.headers.now t w (segments c.args.path.now.bytes) c.in_err-plan.field-0.0)
    c.reach_from.ensures.looks c.in_err-plan.ensures.err))

pub returns-in_err-check_conditions-clause-err : goal.returns-in_err-check_conditions-clause-err
returns-in_err-check_conditions-clause-err g c =
    let q = err_from_is_err_and c.from_residual-in_err-check_conditions.result c.from_residual-in_err-check_conditions.ensures.1 in
    let who = spec.caller c.args.session.now in
    let s = spec.state g.R.Rng.stream c.args.session.now in
    let from = segments c.args.path.now.bytes in
    let site = c.args.site.now in
    let prefix = c.args.prefix.now in
    let headers = c.args.headers.now in
    let plan = c.in_ok-plan.plan in
    let known = option_map meta_of plan.known in
    let gone = map (λ q. segments q.bytes) plan.gone.items in
    let pairs = map ends plan.transfers.items in
    let can = held_before (λ w t. IsPlanned site prefix headers t w from known gone pairs) c.reach_from.ensures.looks c.in_ok-plan.ensures.ok in
    let looks = looks_on c.reach_from.ensures.looks c.planned.ensures.looks in
    rw (q.1, q.2) (stopped_after method.Copy from headers who.now s (spec.state g.R.Rng.stream c.planned.new.session) looks.live
    (CantCopy site prefix headers (live who.now s) who from) (CanCopy site prefix headers (live who.now s) who from) c.in_err-check_conditions.field-0.0 CantCopy.memory
    (known, gone, pairs, can) c.in_err-check_conditions.ensures.err)

pub returns-clause-ok : goal.returns-clause-ok
returns-clause-ok g c =
    let plan = c.in_ok-plan.plan in
    held_before (λ w t. IsPlanned c.args.site.now c.args.prefix.now c.args.headers.now t w (segments c.args.path.now.bytes) (option_map meta_of plan.known)
    (map (λ q. segments q.bytes) plan.gone.items) (map ends plan.transfers.items)) c.reach_from.ensures.looks c.in_ok-plan.ensures.ok

pub returns-clause-course : goal.returns-clause-course
returns-clause-course g c =
    let who = spec.caller c.args.session.now in
    let looks = looks_on c.reach_from.ensures.looks c.planned.ensures.looks in
    course_stays method.Copy (segments c.args.path.now.bytes) c.args.headers.now who.now (spec.state g.R.Rng.stream c.args.session.now)
    (spec.state g.R.Rng.stream c.planned.new.session) _ looks.live c.in_ok-check_conditions.ensures.ok

pub returns-in_err-check_conditions-clause-looks : goal.returns-in_err-check_conditions-clause-looks
returns-in_err-check_conditions-clause-looks g c =
    looks_on c.reach_from.ensures.looks (looks_on c.planned.ensures.looks c.check_conditions.ensures.looks)

pub returns-clause-looks : goal.returns-clause-looks
returns-clause-looks g c = looks_on c.reach_from.ensures.looks (looks_on c.planned.ensures.looks c.check_conditions.ensures.looks)

pub returns-in_err-plan-clause-looks : goal.returns-in_err-plan-clause-looks
returns-in_err-plan-clause-looks g c = looks_on c.reach_from.ensures.looks c.planned.ensures.looks
