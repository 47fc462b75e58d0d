use Rattle.std.proofs.Common.{true, IfErr, subst}
use Rattle.std.proofs.lemmas.Result.{err_from_is_err_and, IfErr-weaker}
use Rattle.dav_path_core.specs.Segments.{segments}
use Rattle.dav_guarded_core.specs.Checks.{caller_of, member}
use Rattle.dav_guarded_core.specs.Served.{request_of}
use Rattle.dav_guarded_core.specs.Stores.{Stores}
use Rattle.dav_guarded_core.specs.Private.RequestServing.{RefusedBy}
use Rattle.dav_guarded_core.proofs.Serving.{refused_more, refused_later}
use Rattle.dav_guarded_core.proofs.guarded.Guarded.check_ends.Goals as goal

pub returns-in_err-check_member-clause-err : goal.returns-in_err-check_member-clause-err
returns-in_err-check_member-clause-err c =
    let p = err_from_is_err_and c.from_residual.result c.from_residual.ensures.1 in
    rw (p.1, p.2) (refused_more c.args.self.now.locks (caller_of (request_of c.args.request.now)) (member (segments c.args.from.now.bytes) true) (member (segments c.args.to.now.bytes) true)
    c.in_err-check_member.field-0.0 c.in_err-check_member.ensures.err)

pub returns-clause-err : goal.returns-clause-err
returns-clause-err c =
    let from = segments c.args.from.now.bytes in
    IfErr-weaker c.check_member-2.result _ _
    (λ e h. refused_later c.args.self.now.locks (caller_of (request_of c.args.request.now)) (member from true) (member (segments c.args.to.now.bytes) true) e
    c.in_ok-check_member.ensures.ok h)
    (subst (λ (g : Stores). IfErr c.check_member-2.result (RefusedBy g.locks (caller_of (request_of c.args.request.now)) (member (segments c.args.to.now.bytes) true))) c.check_member.ensures.same c.check_member-2.ensures.err)
