use Rattle.std.proofs.Common.{true, refl, ap, subst}
use Rattle.std.specs.Prelude.{IfOk, IfErr}
use Rattle.std.proofs.lemmas.Result.{err_from_is_err_and}
use Rattle.http.specs.Request.{head_of}
use Rattle.dav_path_core.specs.Segments.{segments}
use Rattle.dav_session_core.specs.Callers.{Caller, live}
use Rattle.dav_methods_core.specs.MkcolMethod.{FailsToMake, Makes}
use Rattle.dav_handler_core.specs.ServerViews.{server}
use Rattle.dav_session_core.specs.Sessions.{caller, state}
use Rattle.dav_handler_core.proofs.AnswerLemmas.{bare_answered, bare_unread, moves_on}
use Rattle.dav_fields_core.specs.Fields.{nothing_sent}
use Rattle.dav_handler_core.proofs.SentAnswerLemmas.{always, date_alone}
use Rattle.dav_handler_core.proofs.MomentLemmas.{comes_on}
use Rattle.dav_handler_core.proofs.dav.Dav.serve_mkcol.Goals as goal

pub returns-in_err-path-clause-answers : goal.returns-in_err-path-clause-answers
returns-in_err-path-clause-answers g c =
    let q = err_from_is_err_and c.from_residual.result c.from_residual.ensures.1 in
    let before = server g.R.Rng.stream c.args.self.now in
    rw (q.1, q.2) (
      nothing_sent,
      tt,
      bare_unread true (FailsToMake (head_of c.args.request.now).headers) before (server g.R.Rng.stream c.begin_bare.new.self) c.args.request.now c.in_err-path.field-0.0
          c.in_err-path.ensures.err,
      tt,
    )

pub returns-clause-answers : goal.returns-clause-answers
returns-clause-answers g c =
    let before = server g.R.Rng.stream c.args.self.now in
    let mid = server g.R.Rng.stream c.begin_bare.new.self in
    let after = server g.R.Rng.stream (record c.begin_bare.new.self { session = c.mkcol.new.session }) in
    let who = caller c.begin_bare.new.self.session in
    let s = state g.R.Rng.stream c.begin_bare.new.self.session in
    let begun = c.in_ok-path.ensures.ok in (
      nothing_sent,
      always c.mkcol.result _ (date_alone c.args.date.now c.begin_bare.new.response c.in_ok-path.ensures.dated),
      bare_answered true (Makes (head_of c.args.request.now).headers) (FailsToMake (head_of c.args.request.now).headers) before mid after c.args.request.now c.in_ok-path.path who
          (ap (λ (w : Caller). w.now) c.mkcol.ensures.acts.who) begun.0.0 begun.1 (λ h. begun.0.1 refl) s c.begin_bare.ensures.live begun.2 c.mkcol.result
          (subst (λ headers. IfOk c.mkcol.result (λ status. Makes headers (live who.now s) who (segments c.in_ok-path.path.bytes) status after.state)) c.headers.ensures c.mkcol.ensures.done)
          (subst (λ headers. IfErr c.mkcol.result (λ e. FailsToMake headers (live who.now s) who (segments c.in_ok-path.path.bytes) e)) c.headers.ensures c.mkcol.ensures.err),
      always c.mkcol.result _ refl,
    )

pub returns-clause-moves : goal.returns-clause-moves
returns-clause-moves g c =
    moves_on (server g.R.Rng.stream c.args.self.now) (server g.R.Rng.stream c.begin_bare.new.self) _ c.args.request.now c.in_ok-path.path (caller c.begin_bare.new.self.session)
    c.in_ok-path.ensures.ok.0.0 c.begin_bare.ensures.moves c.begin_bare.ensures.run c.mkcol.ensures.acts.run (ap (λ (w : Caller). w.now) c.mkcol.ensures.acts.who) refl refl c.mkcol.ensures.acts.noting

pub returns-in_err-path-clause-comes : goal.returns-in_err-path-clause-comes
returns-in_err-path-clause-comes g c =
    let q = err_from_is_err_and c.from_residual.result c.from_residual.ensures.1 in
    rw (q.1, q.2) c.in_err-path.ensures.comes

pub returns-clause-comes : goal.returns-clause-comes
returns-clause-comes g c =
    comes_on true (server g.R.Rng.stream c.args.self.now) (server g.R.Rng.stream c.begin_bare.new.self) _ c.args.request.now _ c.in_ok-path.path (caller c.begin_bare.new.self.session)
    (ap (λ (w : Caller). w.now) c.mkcol.ensures.acts.who) c.in_ok-path.ensures.ok.0.0 c.in_ok-path.ensures.moment
