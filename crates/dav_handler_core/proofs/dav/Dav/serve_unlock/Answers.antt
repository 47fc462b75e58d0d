use Rattle.std.proofs.Common.{false, refl, sym, ap, subst}
use Rattle.std.specs.Prelude.{IfOk, IfErr}
use Rattle.std.proofs.lemmas.Bool.{true≢false}
use Rattle.std.proofs.lemmas.Result.{on_err_weaker}
use Rattle.std.proofs.lemmas.Result.{err_from_is_err_and}
use Rattle.http.specs.Request.{head_of}
use Rattle.dav_path_core.specs.Segments.{segments}
use Rattle.dav_session_core.specs.Callers.{Caller, live}
use Rattle.dav_handler_core.specs.ServerViews.{server}
use Rattle.dav_session_core.specs.Sessions.{Looks, caller, state}
use Rattle.dav_methods_core.specs.UnlockMethod.{FailsToUnlock, Unlocks}
use Rattle.dav_handler_core.proofs.AnswerLemmas.{bare_answered, bare_unread, moves_ended}
use Rattle.dav_fields_core.specs.Fields.{nothing_sent}
use Rattle.dav_handler_core.proofs.SentAnswerLemmas.{always, date_alone}
use Rattle.dav_handler_core.proofs.MomentLemmas.{comes_on}
use Rattle.dav_handler_core.proofs.dav.Dav.serve_unlock.Goals as goal

pub returns-in_err-path-clause-answers : goal.returns-in_err-path-clause-answers
returns-in_err-path-clause-answers g c =
    let q = err_from_is_err_and c.from_residual.result c.from_residual.ensures.1 in
    let before = server g.R.Rng.stream c.args.self.now in
    rw (q.1, q.2) (
      nothing_sent,
      tt,
      bare_unread false (FailsToUnlock (head_of c.args.request.now).headers) before (server g.R.Rng.stream c.begin_bare.new.self) c.args.request.now c.in_err-path.field-0.0
          c.in_err-path.ensures.err,
      tt,
    )

pub returns-clause-answers : goal.returns-clause-answers
returns-clause-answers g c =
    let before = server g.R.Rng.stream c.args.self.now in
    let mid = server g.R.Rng.stream c.begin_bare.new.self in
    let after = server g.R.Rng.stream (record c.begin_bare.new.self { session = c.unlock.new.session }) in
    let who = caller c.begin_bare.new.self.session in
    let s = state g.R.Rng.stream c.begin_bare.new.self.session in
    let begun = c.in_ok-path.ensures.ok in (
      nothing_sent,
      always c.unlock.result _ (date_alone c.args.date.now c.begin_bare.new.response c.in_ok-path.ensures.dated),
      bare_answered false (Unlocks (head_of c.args.request.now).headers) (FailsToUnlock (head_of c.args.request.now).headers) before mid after c.args.request.now c.in_ok-path.path who
          (ap (λ (w : Caller). w.now) c.unlock.ensures.asks.who) begun.0.0 begun.1 (λ h. absurd (true≢false (sym h))) s c.begin_bare.ensures.live begun.2 c.unlock.result
          (subst (λ headers. IfOk c.unlock.result (λ status. Unlocks headers (live who.now s) who (segments c.in_ok-path.path.bytes) status after.state)) c.headers.ensures c.unlock.ensures.done)
          (subst (λ headers. IfErr c.unlock.result (λ e. FailsToUnlock headers (live who.now s) who (segments c.in_ok-path.path.bytes) e)) c.headers.ensures c.unlock.ensures.err),
      always c.unlock.result _ refl,
    )

pub returns-clause-moves : goal.returns-clause-moves
returns-clause-moves g c =
    let before = server g.R.Rng.stream c.args.self.now in
    let mid = server g.R.Rng.stream c.begin_bare.new.self in
    let after = server g.R.Rng.stream (record c.begin_bare.new.self { session = c.unlock.new.session }) in
    let who = caller c.begin_bare.new.self.session in
    moves_ended before mid after c.args.request.now c.in_ok-path.path who c.unlock.result c.in_ok-path.ensures.ok.0.0 c.begin_bare.ensures.moves
    c.begin_bare.ensures.run c.unlock.ensures.asks.run c.begin_bare.ensures.live
    (subst (λ headers. IfOk c.unlock.result (λ status. Unlocks headers (live who.now mid.state) who (segments c.in_ok-path.path.bytes) status after.state)) c.headers.ensures
    c.unlock.ensures.done)
    (on_err_weaker c.unlock.result (λ (h : Looks g.R.Rng.stream c.begin_bare.new.self.session c.unlock.new.session). h.run) c.unlock.ensures.looks) (ap (λ (w : Caller). w.now) c.unlock.ensures.asks.who) refl refl c.unlock.ensures.asks.noting

pub returns-in_err-path-clause-comes : goal.returns-in_err-path-clause-comes
returns-in_err-path-clause-comes g c =
    let q = err_from_is_err_and c.from_residual.result c.from_residual.ensures.1 in
    rw (q.1, q.2) c.in_err-path.ensures.comes

pub returns-clause-comes : goal.returns-clause-comes
returns-clause-comes g c =
    comes_on false (server g.R.Rng.stream c.args.self.now) (server g.R.Rng.stream c.begin_bare.new.self) _ c.args.request.now _ c.in_ok-path.path (caller c.begin_bare.new.self.session)
    (ap (λ (w : Caller). w.now) c.unlock.ensures.asks.who) c.in_ok-path.ensures.ok.0.0 c.in_ok-path.ensures.moment
