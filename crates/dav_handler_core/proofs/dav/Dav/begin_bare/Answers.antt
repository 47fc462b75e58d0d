use Rattle.std.proofs.Common.{◌≡◌, inl, inr, eqb-true, refl, sym, ◌∙◌, subst}
use Rattle.std.specs.Prelude.{◌==◌, length}
use Rattle.std.proofs.lemmas.Result.{err_from_is_err_and}
use Rattle.http.specs.Request.{body_of}
use Rattle.dav_session_core.specs.Sessions.{caller}
use Rattle.dav_session_core.proofs.MakeLemmas.{nothing_in}
use Rattle.dav_handler_core.proofs.LockAnswerLemmas.{some_body}
use Rattle.dav_handler_core.specs.RequestMoments.ComesAt.{begun}
use Rattle.dav_handler_core.proofs.dav.Dav.begin_bare.Goals as goal

pub returns-in_err-path-clause-err : goal.returns-in_err-path-clause-err
returns-in_err-path-clause-err g c =
    let q = err_from_is_err_and c.from_residual.result c.from_residual.ensures.1 in
    rw (q.1, q.2) (elim c.in_err-path.ensures.err [ inl unread ↦ inl unread | inr held ↦ inr (inl held) ])

pub returns-then-not-is_empty-clause-err : goal.returns-then-not-is_empty-clause-err
returns-then-not-is_empty-clause-err g c =
    let begun = c.in_ok-path.ensures.ok in
    let some = some_body (body_of c.args.request.now)
    (subst (λ body. (length body == 0) ≡ _) c.body.ensures (sym c.is_empty.ensures ∙ c.if-not-is_empty.true)) in
    inr (inr (c.in_ok-path.path, (caller c.begin_admitted.new.self.session, begun.0.0, begun.1, some.1, refl)))

pub returns-clause-ok : goal.returns-clause-ok
returns-clause-ok g c =
    let begun = c.in_ok-path.ensures.ok in
    let none = nothing_in (body_of c.args.request.now)
    (eqb-true _ 0 (subst (λ body. (length body == 0) ≡ _) c.body.ensures (sym c.is_empty.ensures ∙ c.if-not-is_empty.false))) in
    (begun.0, begun.1, none)

pub returns-in_err-path-clause-comes : goal.returns-in_err-path-clause-comes
returns-in_err-path-clause-comes g c =
    let q = err_from_is_err_and c.from_residual.result c.from_residual.ensures.1 in
    rw (q.1, q.2) c.in_err-path.ensures.comes

pub returns-then-not-is_empty-clause-comes : goal.returns-then-not-is_empty-clause-comes
returns-then-not-is_empty-clause-comes g c =
    begun c.in_ok-path.path (caller c.begin_admitted.new.self.session) c.in_ok-path.ensures.ok.0.0 c.in_ok-path.ensures.moment

pub returns-clause-dated : goal.returns-clause-dated
returns-clause-dated g c = c.in_ok-path.ensures.dated
