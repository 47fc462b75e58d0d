use Rattle.std.proofs.lemmas.Result.{err_from_is_err_and, IfErr-weaker}
use Rattle.std.proofs.Common.{[], ◌∷◌, IfErr, subst}
use Rattle.dav_path_core.specs.Segments.{segments}
use Rattle.dav_path_core.specs.Fronts.{Path, parent}
use Rattle.dav_guarded_core.specs.Checks.{caller_of, reach_check, shallow}
use Rattle.dav_guarded_core.specs.Served.{request_of}
use Rattle.dav_guarded_core.specs.Stores.{Stores}
use Rattle.dav_guarded_core.specs.Private.RequestServing.{RefusedBy}
use Rattle.dav_guarded_core.proofs.Serving.{refused_more, refused_later}
use Rattle.dav_guarded_core.proofs.guarded.Guarded.check_member.Goals as goal

pub returns-in_err-check_path-clause-err : goal.returns-in_err-check_path-clause-err
returns-in_err-check_path-clause-err c =
    let p = err_from_is_err_and c.from_residual.result c.from_residual.ensures.1 in
    rw (p.1, p.2) (refused_more c.args.self.now.locks (caller_of (request_of c.args.request.now)) (reach_check (segments c.args.path.now.bytes) c.args.deep ∷ []) (shallow (parent (segments c.args.path.now.bytes)) ∷ [])
    c.in_err-check_path.field-0.0 c.in_err-check_path.ensures.err)

pub returns-clause-err : goal.returns-clause-err
returns-clause-err c =
    let path = segments c.args.path.now.bytes in
    let who = caller_of (request_of c.args.request.now) in
    IfErr-weaker c.check_path_ref.result _ _
    (λ e h. refused_later c.args.self.now.locks who (reach_check path c.args.deep ∷ []) (shallow (parent path) ∷ []) e c.in_ok-check_path.ensures.ok h)
    (subst (λ (above : Path). IfErr c.check_path_ref.result (RefusedBy c.args.self.now.locks who (shallow above ∷ []))) c.parent_ref.ensures
    (subst (λ (g : Stores). IfErr c.check_path_ref.result (RefusedBy g.locks who (shallow (segments c.parent_ref.result) ∷ []))) c.check_path.ensures.same c.check_path_ref.ensures.err))
