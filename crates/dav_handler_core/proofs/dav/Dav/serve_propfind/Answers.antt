use Rattle.std.proofs.Common.{◌≡◌, ℕ, List, false, refl, sym, ap, ◌∙◌, subst}
use Rattle.std.specs.Prelude.{IfOk, IfErr}
use Rattle.std.proofs.lemmas.Bool.{true≢false}
use Rattle.http.specs.Request.{body_of, head_of}
use Rattle.http_header.specs.FieldValue.{FieldValue}
use Rattle.http_header.specs.HeaderMap.{Entries}
use Rattle.dav_path_core.specs.Segments.{segments}
use Rattle.dav_handler_core.specs.Server.{Options}
use Rattle.dav_session_core.specs.Callers.{Caller, live}
use Rattle.std.proofs.lemmas.Result.{IfOk-weaker}
use Rattle.dav_safe_methods_core.specs.SentDocuments.{document_sent}
use Rattle.dav_handler_core.proofs.SentAnswerLemmas.{sent_dated}
use Rattle.dav_safe_methods_core.specs.PropfindMethod.{FailsToTell, TellsFound}
use Rattle.dav_handler_core.specs.ServerViews.{server}
use Rattle.dav_session_core.specs.Sessions.{caller, state}
use Rattle.dav_handler_core.proofs.AnswerLemmas.{change_answered, moves_on, unread_or_held}
use Rattle.dav_handler_core.specs.MethodAnswers.{as_found}
use Rattle.dav_fields_core.specs.Fields.{nothing_sent}
use Rattle.dav_handler_core.proofs.MomentLemmas.{comes_on}
use Rattle.std.proofs.lemmas.Result.{err_from_is_err_and}
use Rattle.dav_handler_core.proofs.dav.Dav.serve_propfind.Goals as goal

pub returns-in_err-path-clause-answers : goal.returns-in_err-path-clause-answers
returns-in_err-path-clause-answers g c =
    let q = err_from_is_err_and c.from_residual.result c.from_residual.ensures.1 in
    let before = server g.R.Rng.stream c.args.self.now in
    let after = server g.R.Rng.stream c.begin_admitted.new.self in
    rw (q.1, q.2) (
      nothing_sent,
      tt,
      (
        unread_or_held false before after c.args.request.now c.in_err-path.field-0.0
            (λ p who. FailsToTell before.options.finite (head_of c.args.request.now).headers (body_of c.args.request.now) (as_found before after) who p c.in_err-path.field-0.0)
            c.in_err-path.ensures.err,
        c.begin_admitted.ensures.live,
      ),
      tt,
    )

pub returns-clause-answers : goal.returns-clause-answers
returns-clause-answers g c =
    let before = server g.R.Rng.stream c.args.self.now in
    let mid = server g.R.Rng.stream c.begin_admitted.new.self in
    let after = server g.R.Rng.stream (record c.begin_admitted.new.self { session = c.propfind.new.session }) in
    let who = caller c.begin_admitted.new.self.session in
    let s = state g.R.Rng.stream c.begin_admitted.new.self.session in
    let begun = c.in_ok-path.ensures.ok in
    let told = document_sent c.propfind.new.response.body.items in
    let p = segments c.in_ok-path.path.bytes in
    let result = c.propfind.result in
    let headers = (head_of c.args.request.now).headers in
    let body = body_of c.args.request.now in
    let prefix_is = c.deref.ensures ∙ ap (λ (o : Options). o.prefix) c.begin_admitted.ensures.moves.options in
    let finite_is = ap (λ (o : Options). o.finite) c.begin_admitted.ensures.moves.options in
    let body_is = c.deref-2.ensures ∙ c.body.ensures in
    let does : List ℕ → Entries FieldValue → List ℕ → Type 0 = λ prefix h b. IfOk result (λ status. TellsFound before.options.finite prefix h b told (live who.now s) who p status after.state) in
    let fails : Entries FieldValue → List ℕ → Type 0 = λ h b. IfErr result (λ e. FailsToTell before.options.finite h b (live who.now s) who p e) in
    let done = IfOk-weaker c.propfind.result _ _ (λ status found. (found.0, refl, found.1)) c.propfind.ensures.done in (
      told,
      sent_dated c.args.date.now c.begin_admitted.new.response c.propfind.new.response c.propfind.result told c.in_ok-path.ensures.dated c.propfind.ensures.sent,
      (
        change_answered false (TellsFound before.options.finite before.options.prefix headers body told) (FailsToTell before.options.finite headers body) before mid after c.args.request.now c.in_ok-path.path who
            (ap (λ (w : Caller). w.now) c.propfind.ensures.looks.who) begun.0.0 begun.1 (λ h. absurd (true≢false (sym h))) s c.begin_admitted.ensures.live result
            (subst (λ b. does before.options.prefix headers b) body_is (subst (λ h. does before.options.prefix h c.deref-2.result.now) c.headers.ensures
            (subst (λ prefix. does prefix c.headers.result.now c.deref-2.result.now) prefix_is
            (subst (λ f. IfOk result (λ status. TellsFound f c.deref.result.now c.headers.result.now c.deref-2.result.now told (live who.now s) who p status after.state)) finite_is done))))
            (subst (λ b. fails headers b) body_is (subst (λ h. fails h c.deref-2.result.now) c.headers.ensures
            (subst (λ f. IfErr result (λ e. FailsToTell f c.headers.result.now c.deref-2.result.now (live who.now s) who p e)) finite_is c.propfind.ensures.err))),
        subst (λ n. live n after.state ≡ live n before.state) (sym (ap (λ (w : Caller). w.now) c.propfind.ensures.looks.who)) (c.propfind.ensures.looks.live ∙ c.begin_admitted.ensures.live),
      ),
      tt,
    )

pub returns-clause-moves : goal.returns-clause-moves
returns-clause-moves g c =
    moves_on (server g.R.Rng.stream c.args.self.now) (server g.R.Rng.stream c.begin_admitted.new.self) _ c.args.request.now c.in_ok-path.path (caller c.begin_admitted.new.self.session)
    c.in_ok-path.ensures.ok.0.0 c.begin_admitted.ensures.moves c.begin_admitted.ensures.run c.propfind.ensures.looks.run (ap (λ (w : Caller). w.now) c.propfind.ensures.looks.who) refl refl c.propfind.ensures.looks.noting

pub returns-in_err-path-clause-comes : goal.returns-in_err-path-clause-comes
returns-in_err-path-clause-comes g c =
    let q = err_from_is_err_and c.from_residual.result c.from_residual.ensures.1 in
    rw (q.1, q.2) c.in_err-path.ensures.comes

pub returns-clause-comes : goal.returns-clause-comes
returns-clause-comes g c =
    comes_on false (server g.R.Rng.stream c.args.self.now) (server g.R.Rng.stream c.begin_admitted.new.self) _ c.args.request.now _ c.in_ok-path.path (caller c.begin_admitted.new.self.session)
    (ap (λ (w : Caller). w.now) c.propfind.ensures.looks.who) c.in_ok-path.ensures.ok.0.0 c.in_ok-path.ensures.moment
