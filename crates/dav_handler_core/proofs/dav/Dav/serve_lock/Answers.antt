use Rattle.std.proofs.Common.{◌≡◌, Err, Some, true, eqb-true, refl, ap, ◌∙◌, sym, subst}
use Rattle.std.specs.Prelude.{◌==◌, length, IfOk, IfErr}
use Rattle.std.proofs.lemmas.Result.{err_from_is_err_and}
use Rattle.http.specs.Request.{body_of, head_of}
use Rattle.dav_path_core.specs.declared.util.DavMethod.TheVariants as method
use Rattle.dav_path_core.specs.Segments.{segments}
use Rattle.dav_handler_core.specs.Server.{Options}
use Rattle.dav_session_core.specs.Callers.{Caller, live}
use Rattle.dav_fields_core.specs.Fields.{nothing_sent}
use Rattle.dav_safe_methods_core.proofs.SentLemmas.{sent_done}
use Rattle.dav_handler_core.proofs.SentAnswerLemmas.{sent_dated}
use Rattle.dav_methods_core.specs.LockMethod.{FailsToLock, IsAskedBy, IsGranted}
use Rattle.dav_methods_core.specs.Rooms.{LeavesLock}
use Rattle.dav_handler_core.specs.ServerViews.{server}
use Rattle.dav_session_core.specs.Sessions.{caller, state}
use Rattle.dav_handler_core.proofs.LockAnswerLemmas.{lock_answered, lock_leaves_by, lock_unread, moves_granted, some_body}
use Rattle.dav_handler_core.proofs.TransferAnswerLemmas.{leaves_same}
use Rattle.dav_handler_core.proofs.MomentLemmas.{comes_on}
use Rattle.dav_handler_core.specs.RequestMoments.{ComesAt}
use Rattle.dav_session_core.proofs.MakeLemmas.{nothing_in}
use Rattle.dav_files_core.specs.Finding.{has_any}
use Rattle.dav_handler_core.proofs.dav.Dav.serve_lock.Goals as goal

pub returns-in_err-path-clause-answers : goal.returns-in_err-path-clause-answers
returns-in_err-path-clause-answers g c =
    let p = err_from_is_err_and c.from_residual.result c.from_residual.ensures.1 in
    let some = some_body (body_of c.args.request.now) (subst (λ body. (length body == 0) ≡ _) c.body.ensures (sym c.is_empty.ensures ∙ c.if-is_empty.false)) in
    rw (p.1, p.2) (
      nothing_sent,
      tt,
      lock_unread (server g.R.Rng.stream c.args.self.now) (server g.R.Rng.stream c.begin_admitted.new.self) c.args.request.now c.in_err-path.field-0.0
          nothing_sent true some.0 c.in_err-path.ensures.err,
      tt,
    )

pub returns-in_err-path-clause-refused : goal.returns-in_err-path-clause-refused
returns-in_err-path-clause-refused g c =
    let p = err_from_is_err_and c.from_residual.result c.from_residual.ensures.1 in
    rw (p.1, p.2) (leaves_same (Some method.Lock) (server g.R.Rng.stream c.args.self.now) (server g.R.Rng.stream c.begin_admitted.new.self) c.args.request.now c.in_err-path.field-0.0
    c.begin_admitted.ensures.live)

pub returns-clause-answers : goal.returns-clause-answers
returns-clause-answers g c =
    let before = server g.R.Rng.stream c.args.self.now in
    let mid = server g.R.Rng.stream c.begin_admitted.new.self in
    let after = server g.R.Rng.stream (record c.begin_admitted.new.self { session = c.lock.new.session }) in
    let who = caller c.begin_admitted.new.self.session in
    let s = state g.R.Rng.stream c.begin_admitted.new.self.session in
    let begun = c.in_ok-path.ensures.ok in
    let path = c.in_ok-path.path in
    let told = sent_done c.begin_admitted.new.response c.lock.new.response c.lock.result _ c.lock.ensures.done in
    let sent = told.0 in
    let options = c.begin_admitted.ensures.moves.options in
    let headers = (head_of c.args.request.now).headers in
    let body = body_of c.args.request.now in
    let some = some_body body (subst (λ body. (length body == 0) ≡ _) c.body.ensures (sym c.is_empty.ensures ∙ c.if-is_empty.false)) in (
      sent,
      sent_dated c.args.date.now c.begin_admitted.new.response c.lock.new.response c.lock.result sent c.in_ok-path.ensures.dated told.1,
      lock_answered before mid after c.args.request.now path who (ap (λ (w : Caller). w.now) c.lock.ensures.ran.who) begun.0.0 begun.1 s c.begin_admitted.ensures.live c.lock.result sent
          (begun.0.1 refl) some.1
          (subst (λ (o : Options). IfOk c.lock.result (λ status. IsGranted o.longest o.prefix headers body (live who.now s) who path status sent after.state)) options
          (subst (λ b. IfOk c.lock.result (λ status. IsGranted mid.options.longest mid.options.prefix headers b (live who.now s) who path status sent after.state)) (c.deref-2.ensures ∙ c.body-2.ensures)
          (subst (λ h. IfOk c.lock.result (λ status. IsGranted mid.options.longest mid.options.prefix h c.deref-2.result.now (live who.now s) who path status sent after.state)) c.headers.ensures
          (subst (λ prefix. IfOk c.lock.result (λ status. IsGranted mid.options.longest prefix c.headers.result.now c.deref-2.result.now (live who.now s) who path status sent after.state)) c.deref.ensures
          told.2))))
          (subst (λ (o : Options). IfErr c.lock.result (λ e. FailsToLock o.longest headers body (live who.now s) who path e)) options
          (subst (λ b. IfErr c.lock.result (λ e. FailsToLock mid.options.longest headers b (live who.now s) who path e)) (c.deref-2.ensures ∙ c.body-2.ensures)
          (subst (λ h. IfErr c.lock.result (λ e. FailsToLock mid.options.longest h c.deref-2.result.now (live who.now s) who path e)) c.headers.ensures c.lock.ensures.err))),
      tt,
    )

pub returns-clause-refused : goal.returns-clause-refused
returns-clause-refused g c =
    let before = server g.R.Rng.stream c.args.self.now in
    let mid = server g.R.Rng.stream c.begin_admitted.new.self in
    let after = server g.R.Rng.stream (record c.begin_admitted.new.self { session = c.lock.new.session }) in
    let who = caller c.begin_admitted.new.self.session in
    let s = state g.R.Rng.stream c.begin_admitted.new.self.session in
    let begun = c.in_ok-path.ensures.ok in
    lock_leaves_by before mid after c.args.request.now c.in_ok-path.path who (ap (λ (w : Caller). w.now) c.lock.ensures.ran.who) begun.0.0 begun.1 s c.begin_admitted.ensures.live
    c.lock.result
    (subst (λ b. IfErr c.lock.result (λ e. LeavesLock (IsAskedBy b (live who.now s) who c.in_ok-path.path) who (segments c.in_ok-path.path.bytes) e s after.state))
    (c.deref-2.ensures ∙ c.body-2.ensures) c.lock.ensures.left)

pub returns-clause-moves : goal.returns-clause-moves
returns-clause-moves g c =
    let before = server g.R.Rng.stream c.args.self.now in
    let mid = server g.R.Rng.stream c.begin_admitted.new.self in
    let after = server g.R.Rng.stream (record c.begin_admitted.new.self { session = c.lock.new.session }) in
    let who = caller c.begin_admitted.new.self.session in
    let s = state g.R.Rng.stream c.begin_admitted.new.self.session in
    let begun = c.in_ok-path.ensures.ok in
    let path = c.in_ok-path.path in
    let told = sent_done c.begin_admitted.new.response c.lock.new.response c.lock.result _ c.lock.ensures.done in
    let sent = told.0 in
    let headers = (head_of c.args.request.now).headers in
    let body = body_of c.args.request.now in
    moves_granted before mid after c.args.request.now path who (ap (λ (w : Caller). w.now) c.lock.ensures.ran.who) begun.0.0 begun.1 s c.begin_admitted.ensures.live c.lock.result sent
    refl c.begin_admitted.ensures.moves c.begin_admitted.ensures.run c.lock.ensures.ran.run
    (subst (λ (o : Options). IfOk c.lock.result (λ status. IsGranted o.longest o.prefix headers body (live who.now s) who path status sent after.state)) c.begin_admitted.ensures.moves.options
    (subst (λ b. IfOk c.lock.result (λ status. IsGranted mid.options.longest mid.options.prefix headers b (live who.now s) who path status sent after.state)) (c.deref-2.ensures ∙ c.body-2.ensures)
    (subst (λ h. IfOk c.lock.result (λ status. IsGranted mid.options.longest mid.options.prefix h c.deref-2.result.now (live who.now s) who path status sent after.state)) c.headers.ensures
    (subst (λ prefix. IfOk c.lock.result (λ status. IsGranted mid.options.longest prefix c.headers.result.now c.deref-2.result.now (live who.now s) who path status sent after.state)) c.deref.ensures
    told.2))))
    (subst (λ b. IfErr c.lock.result (λ e. LeavesLock (IsAskedBy b (live who.now s) who path) who (segments path.bytes) e s after.state))
    (c.deref-2.ensures ∙ c.body-2.ensures) c.lock.ensures.left) refl refl c.lock.ensures.ran.noting

pub returns-then-is_empty-clause-comes : goal.returns-then-is_empty-clause-comes
returns-then-is_empty-clause-comes g c =
    let none = nothing_in (body_of c.args.request.now)
    (eqb-true _ 0 (subst (λ body. (length body == 0) ≡ _) c.body.ensures (sym c.is_empty.ensures ∙ c.if-is_empty.true))) in
    subst (λ b. ComesAt b (server g.R.Rng.stream c.args.self.now) c.args.request.now c.serve_refresh.result (server g.R.Rng.stream c.serve_refresh.new.self)) (sym (ap has_any none))
    c.serve_refresh.ensures.comes

pub returns-in_err-path-clause-comes : goal.returns-in_err-path-clause-comes
returns-in_err-path-clause-comes g c =
    let q = err_from_is_err_and c.from_residual.result c.from_residual.ensures.1 in
    let some = some_body (body_of c.args.request.now) (subst (λ body. (length body == 0) ≡ _) c.body.ensures (sym c.is_empty.ensures ∙ c.if-is_empty.false)) in
    rw (q.1, q.2) (subst (λ b. ComesAt b (server g.R.Rng.stream c.args.self.now) c.args.request.now (Err c.in_err-path.field-0.0) (server g.R.Rng.stream c.begin_admitted.new.self)) some.0 c.in_err-path.ensures.comes)

pub returns-clause-comes : goal.returns-clause-comes
returns-clause-comes g c =
    let some = some_body (body_of c.args.request.now) (subst (λ body. (length body == 0) ≡ _) c.body.ensures (sym c.is_empty.ensures ∙ c.if-is_empty.false)) in
    subst (λ b. ComesAt b (server g.R.Rng.stream c.args.self.now) c.args.request.now c.lock.result (server g.R.Rng.stream (record c.begin_admitted.new.self { session = c.lock.new.session })))
    some.0
    (comes_on true (server g.R.Rng.stream c.args.self.now) (server g.R.Rng.stream c.begin_admitted.new.self) _ c.args.request.now _ c.in_ok-path.path (caller c.begin_admitted.new.self.session)
    (ap (λ (w : Caller). w.now) c.lock.ensures.ran.who) c.in_ok-path.ensures.ok.0.0 c.in_ok-path.ensures.moment)
