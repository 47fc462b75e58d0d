use Rattle.std.proofs.Common.{refl, ap, sym, subst, false}
use Rattle.std.specs.Prelude.{IfOk, IfErr}
use Rattle.std.proofs.lemmas.Result.{err_from_is_err_and}
use Rattle.std.proofs.lemmas.Result.{on_err_weaker}
use Rattle.http.specs.Request.{head_of}
use Rattle.dav_path_core.specs.Segments.{segments}
use Rattle.dav_files_core.specs.Finding.{has_any}
use Rattle.dav_handler_core.specs.Server.{Options}
use Rattle.dav_session_core.specs.Callers.{Caller, live}
use Rattle.dav_fields_core.specs.Fields.{nothing_sent}
use Rattle.dav_safe_methods_core.proofs.SentLemmas.{sent_done}
use Rattle.dav_handler_core.proofs.SentAnswerLemmas.{sent_dated}
use Rattle.dav_methods_core.specs.RefreshMethod.{FailsToRefresh, Refreshes}
use Rattle.dav_handler_core.specs.ServerViews.{server}
use Rattle.dav_session_core.specs.Sessions.{Looks, caller, state}
use Rattle.dav_handler_core.proofs.LockAnswerLemmas.{lock_unread, moves_refreshed, refresh_answered}
use Rattle.dav_handler_core.proofs.MomentLemmas.{comes_on}
use Rattle.dav_handler_core.proofs.dav.Dav.serve_refresh.Goals as goal

pub returns-in_err-path-clause-answers : goal.returns-in_err-path-clause-answers
returns-in_err-path-clause-answers g c =
    let p = err_from_is_err_and c.from_residual.result c.from_residual.ensures.1 in
    rw (p.1, p.2) (
      nothing_sent,
      tt,
      lock_unread (server g.R.Rng.stream c.args.self.now) (server g.R.Rng.stream c.begin_admitted.new.self) c.args.request.now c.in_err-path.field-0.0
          nothing_sent _ (sym (ap has_any c.requires.no_body)) c.in_err-path.ensures.err,
      tt,
    )

pub returns-clause-answers : goal.returns-clause-answers
returns-clause-answers g c =
    let before = server g.R.Rng.stream c.args.self.now in
    let mid = server g.R.Rng.stream c.begin_admitted.new.self in
    let after = server g.R.Rng.stream (record c.begin_admitted.new.self { session = c.refresh.new.session }) in
    let who = caller c.begin_admitted.new.self.session in
    let s = state g.R.Rng.stream c.begin_admitted.new.self.session in
    let begun = c.in_ok-path.ensures.ok in
    let p = segments c.in_ok-path.path.bytes in
    let told = sent_done c.begin_admitted.new.response c.refresh.new.response c.refresh.result _ c.refresh.ensures.done in
    let sent = told.0 in (
      sent,
      sent_dated c.args.date.now c.begin_admitted.new.response c.refresh.new.response c.refresh.result sent c.in_ok-path.ensures.dated told.1,
      refresh_answered before mid after c.args.request.now c.in_ok-path.path who (ap (λ (w : Caller). w.now) c.refresh.ensures.asks.who) begun.0.0 begun.1 s
          c.begin_admitted.ensures.live c.refresh.result sent c.requires.no_body
          (subst (λ (o : Options). IfOk c.refresh.result (λ status. Refreshes o.longest o.prefix (head_of c.args.request.now).headers (live who.now s) who p status sent after.state))
          c.begin_admitted.ensures.moves.options
          (subst (λ headers. IfOk c.refresh.result (λ status. Refreshes mid.options.longest mid.options.prefix headers (live who.now s) who p status sent after.state)) c.headers.ensures
          (subst (λ prefix. IfOk c.refresh.result (λ status. Refreshes mid.options.longest prefix c.headers.result.now (live who.now s) who p status sent after.state)) c.deref.ensures
          told.2)))
          (subst (λ headers. IfErr c.refresh.result (λ e. FailsToRefresh headers (live who.now s) who p e)) c.headers.ensures c.refresh.ensures.err),
      tt,
    )

pub returns-clause-moves : goal.returns-clause-moves
returns-clause-moves g c =
    let before = server g.R.Rng.stream c.args.self.now in
    let mid = server g.R.Rng.stream c.begin_admitted.new.self in
    let after = server g.R.Rng.stream (record c.begin_admitted.new.self { session = c.refresh.new.session }) in
    let who = caller c.begin_admitted.new.self.session in
    let s = state g.R.Rng.stream c.begin_admitted.new.self.session in
    let begun = c.in_ok-path.ensures.ok in
    let p = segments c.in_ok-path.path.bytes in
    let told = sent_done c.begin_admitted.new.response c.refresh.new.response c.refresh.result _ c.refresh.ensures.done in
    let sent = told.0 in
    moves_refreshed before mid after c.args.request.now c.in_ok-path.path who (ap (λ (w : Caller). w.now) c.refresh.ensures.asks.who) begun.0.0 begun.1 s
    c.begin_admitted.ensures.live c.refresh.result sent refl c.begin_admitted.ensures.moves c.begin_admitted.ensures.run c.refresh.ensures.asks.run
    (subst (λ (o : Options). IfOk c.refresh.result (λ status. Refreshes o.longest o.prefix (head_of c.args.request.now).headers (live who.now s) who p status sent after.state))
    c.begin_admitted.ensures.moves.options
    (subst (λ headers. IfOk c.refresh.result (λ status. Refreshes mid.options.longest mid.options.prefix headers (live who.now s) who p status sent after.state)) c.headers.ensures
    (subst (λ prefix. IfOk c.refresh.result (λ status. Refreshes mid.options.longest prefix c.headers.result.now (live who.now s) who p status sent after.state)) c.deref.ensures
    told.2)))
    (on_err_weaker c.refresh.result (λ (h : Looks g.R.Rng.stream c.begin_admitted.new.self.session c.refresh.new.session). h.run) c.refresh.ensures.looks) refl refl c.refresh.ensures.asks.noting

pub returns-in_err-path-clause-comes : goal.returns-in_err-path-clause-comes
returns-in_err-path-clause-comes g c =
    let q = err_from_is_err_and c.from_residual.result c.from_residual.ensures.1 in
    rw (q.1, q.2) c.in_err-path.ensures.comes

pub returns-clause-comes : goal.returns-clause-comes
returns-clause-comes g c =
    comes_on false (server g.R.Rng.stream c.args.self.now) (server g.R.Rng.stream c.begin_admitted.new.self) _ c.args.request.now _ c.in_ok-path.path (caller c.begin_admitted.new.self.session)
    (ap (λ (w : Caller). w.now) c.refresh.ensures.asks.who) c.in_ok-path.ensures.ok.0.0 c.in_ok-path.ensures.moment
