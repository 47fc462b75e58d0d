use Rattle.std.proofs.Common.{ℕ, List, refl, ap, ◌∙◌, subst, false}
use Rattle.std.specs.Prelude.{IfOk, IfErr}
use Rattle.std.proofs.lemmas.Result.{err_from_is_err_and}
use Rattle.http.specs.Request.{body_of, head_of}
use Rattle.dav_path_core.specs.Segments.{segments}
use Rattle.dav_handler_core.specs.Server.{Options}
use Rattle.dav_session_core.specs.Callers.{Caller, live}
use Rattle.dav_fields_core.specs.Fields.{nothing_sent}
use Rattle.dav_safe_methods_core.proofs.SentLemmas.{sent_done}
use Rattle.dav_handler_core.proofs.SentAnswerLemmas.{sent_dated}
use Rattle.dav_methods_core.specs.ProppatchMethod.{FailsToPatch, Patches}
use Rattle.dav_handler_core.specs.ServerViews.{server}
use Rattle.dav_session_core.specs.Sessions.{caller, state}
use Rattle.dav_handler_core.proofs.AnswerLemmas.{moves_on}
use Rattle.dav_handler_core.proofs.PatchAnswerLemmas.{patch_answered, patch_unread}
use Rattle.dav_handler_core.proofs.MomentLemmas.{comes_on}
use Rattle.dav_handler_core.proofs.dav.Dav.serve_proppatch.Goals as goal

pub returns-in_err-path-clause-answers : goal.returns-in_err-path-clause-answers
returns-in_err-path-clause-answers g c =
    let p = err_from_is_err_and c.from_residual.result c.from_residual.ensures.1 in
    rw (p.1, p.2) (
      nothing_sent,
      tt,
      patch_unread (server g.R.Rng.stream c.args.self.now) (server g.R.Rng.stream c.begin_admitted.new.self) c.args.request.now c.in_err-path.field-0.0
          nothing_sent c.in_err-path.ensures.err,
      tt,
    )

pub returns-clause-answers : goal.returns-clause-answers
returns-clause-answers g c =
    let before = server g.R.Rng.stream c.args.self.now in
    let mid = server g.R.Rng.stream c.begin_admitted.new.self in
    let after = server g.R.Rng.stream (record c.begin_admitted.new.self { session = c.proppatch.new.session }) in
    let who = caller c.begin_admitted.new.self.session in
    let s = state g.R.Rng.stream c.begin_admitted.new.self.session in
    let begun = c.in_ok-path.ensures.ok in
    let body = c.deref-2.ensures ∙ c.body.ensures in
    let told = sent_done c.begin_admitted.new.response c.proppatch.new.response c.proppatch.result _ c.proppatch.ensures.done in
    let sent = told.0 in
    let headers = (head_of c.args.request.now).headers in
    let does : List ℕ → List ℕ → Type 0 = λ prefix body. IfOk c.proppatch.result (λ status. Patches prefix headers body (live who.now s) who c.in_ok-path.path status sent after.state) in
    let done = subst (λ h. IfOk c.proppatch.result (λ status. Patches c.deref.result.now h c.deref-2.result.now (live who.now s) who c.in_ok-path.path status sent after.state))
    c.headers.ensures told.2 in
    let fails = subst (λ h. IfErr c.proppatch.result (λ e. FailsToPatch h c.deref-2.result.now (live who.now s) who (segments c.in_ok-path.path.bytes) e)) c.headers.ensures
    c.proppatch.ensures.err in (
      sent,
      sent_dated c.args.date.now c.begin_admitted.new.response c.proppatch.new.response c.proppatch.result sent c.in_ok-path.ensures.dated told.1,
      patch_answered before mid after c.args.request.now c.in_ok-path.path who (ap (λ (w : Caller). w.now) c.proppatch.ensures.acts.who) begun.0.0 begun.1 s
          c.begin_admitted.ensures.live c.proppatch.result sent
          (subst (λ (o : Options). does o.prefix (body_of c.args.request.now)) c.begin_admitted.ensures.moves.options
          (subst (does mid.options.prefix) body (subst (λ prefix. does prefix c.deref-2.result.now) c.deref.ensures done)))
          (subst (λ body. IfErr c.proppatch.result (λ e. FailsToPatch headers body (live who.now s) who (segments c.in_ok-path.path.bytes) e)) body fails),
      tt,
    )

pub returns-clause-moves : goal.returns-clause-moves
returns-clause-moves g c =
    moves_on (server g.R.Rng.stream c.args.self.now) (server g.R.Rng.stream c.begin_admitted.new.self) _ c.args.request.now c.in_ok-path.path (caller c.begin_admitted.new.self.session)
    c.in_ok-path.ensures.ok.0.0 c.begin_admitted.ensures.moves c.begin_admitted.ensures.run c.proppatch.ensures.acts.run (ap (λ (w : Caller). w.now) c.proppatch.ensures.acts.who) refl refl c.proppatch.ensures.acts.noting

pub returns-in_err-path-clause-comes : goal.returns-in_err-path-clause-comes
returns-in_err-path-clause-comes g c =
    let q = err_from_is_err_and c.from_residual.result c.from_residual.ensures.1 in
    rw (q.1, q.2) c.in_err-path.ensures.comes

pub returns-clause-comes : goal.returns-clause-comes
returns-clause-comes g c =
    comes_on false (server g.R.Rng.stream c.args.self.now) (server g.R.Rng.stream c.begin_admitted.new.self) _ c.args.request.now _ c.in_ok-path.path (caller c.begin_admitted.new.self.session)
    (ap (λ (w : Caller). w.now) c.proppatch.ensures.acts.who) c.in_ok-path.ensures.ok.0.0 c.in_ok-path.ensures.moment
