use Rattle.std.proofs.Common.{refl, ap, subst, false}
use Rattle.std.specs.Prelude.{IfOk, IfErr}
use Rattle.dav_path_core.specs.Segments.{segments}
use Rattle.dav_guarded_core.specs.Step.{State}
use Rattle.dav_session_core.specs.Callers.{Caller}
use Rattle.dav_fields_core.specs.Fields.{SendsMore, nothing_sent}
use Rattle.http.specs.Request.{head_of}
use Rattle.dav_safe_methods_core.proofs.SentLemmas.{sent_done}
use Rattle.dav_handler_core.proofs.SentAnswerLemmas.{sent_dated}
use Rattle.dav_safe_methods_core.specs.GetMethod.{FailsToGet, Gets}
use Rattle.dav_handler_core.specs.ServerViews.{server}
use Rattle.dav_session_core.specs.Sessions.{caller, state}
use Rattle.dav_handler_core.proofs.AnswerLemmas.{get_answered, moves_on, unread_or_held}
use Rattle.dav_handler_core.proofs.MomentLemmas.{comes_on}
use Rattle.std.proofs.lemmas.Result.{err_from_is_err_and}
use Rattle.dav_handler_core.proofs.dav.Dav.serve_get.Goals as goal

pub returns-in_err-path-clause-answers : goal.returns-in_err-path-clause-answers
returns-in_err-path-clause-answers g c =
    let q = err_from_is_err_and c.from_residual.result c.from_residual.ensures.1 in
    let before = server g.R.Rng.stream c.args.self.now in
    let after = server g.R.Rng.stream c.begin_admitted.new.self in
    rw (q.1, q.2) (
      nothing_sent,
      tt,
      unread_or_held false before after c.args.request.now c.in_err-path.field-0.0
          (λ p who. FailsToGet c.args.method before.state.map p (head_of c.args.request.now).headers c.in_err-path.field-0.0) c.in_err-path.ensures.err,
    )

pub returns-clause-answers : goal.returns-clause-answers
returns-clause-answers g c =
    let map = (state g.R.Rng.stream c.begin_admitted.new.self.session).map in
    let begun = c.in_ok-path.ensures.ok in
    let old = c.begin_admitted.new.response in
    let new = c.get.new.response in
    let sent = sent_done old new c.get.result _
    (subst (λ h. IfOk c.get.result (λ status. SendsMore old new (Gets c.args.method map c.in_ok-path.path h status))) c.headers.ensures c.get.ensures.ok) in (
      sent.0,
      sent_dated c.args.date.now old new c.get.result sent.0 c.in_ok-path.ensures.dated sent.1,
      get_answered (server g.R.Rng.stream c.args.self.now) (server g.R.Rng.stream c.begin_admitted.new.self) _ c.args.request.now c.in_ok-path.path (caller c.begin_admitted.new.self.session)
          (ap (λ (w : Caller). w.now) c.get.ensures.looks.who) begun.0.0 begun.1 c.args.method map c.get.result sent.0
          (ap (λ (s : State). s.map) c.begin_admitted.ensures.live) sent.2
          (subst (λ h. IfErr c.get.result (λ e. FailsToGet c.args.method map (segments c.in_ok-path.path.bytes) h e)) c.headers.ensures c.get.ensures.err),
    )

pub returns-clause-moves : goal.returns-clause-moves
returns-clause-moves g c =
    moves_on (server g.R.Rng.stream c.args.self.now) (server g.R.Rng.stream c.begin_admitted.new.self) _ c.args.request.now c.in_ok-path.path (caller c.begin_admitted.new.self.session)
    c.in_ok-path.ensures.ok.0.0 c.begin_admitted.ensures.moves c.begin_admitted.ensures.run c.get.ensures.looks.run (ap (λ (w : Caller). w.now) c.get.ensures.looks.who) refl refl c.get.ensures.looks.noting

pub returns-in_err-path-clause-comes : goal.returns-in_err-path-clause-comes
returns-in_err-path-clause-comes g c =
    let q = err_from_is_err_and c.from_residual.result c.from_residual.ensures.1 in
    rw (q.1, q.2) c.in_err-path.ensures.comes

pub returns-clause-comes : goal.returns-clause-comes
returns-clause-comes g c =
    comes_on false (server g.R.Rng.stream c.args.self.now) (server g.R.Rng.stream c.begin_admitted.new.self) _ c.args.request.now _ c.in_ok-path.path (caller c.begin_admitted.new.self.session)
    (ap (λ (w : Caller). w.now) c.get.ensures.looks.who) c.in_ok-path.ensures.ok.0.0 c.in_ok-path.ensures.moment
