use Rattle.std.proofs.Common.{true, refl, ap, ◌∙◌, subst}
use Rattle.std.specs.Prelude.{IfOk, IfErr}
use Rattle.std.proofs.lemmas.Result.{err_from_is_err_and}
use Rattle.http.specs.Request.{head_of}
use Rattle.http_header.specs.FieldValue.{FieldValue}
use Rattle.http_header.specs.HeaderMap.{Entries}
use Rattle.dav_path_core.specs.Segments.{segments}
use Rattle.dav_handler_core.specs.Server.{Options, site_for}
use Rattle.dav_fields_core.specs.Bases.{site_of}
use Rattle.dav_session_core.specs.Callers.{Caller, live}
use Rattle.dav_methods_core.specs.CopyMethod.{Copies, CopyLeaves, FailsToCopy}
use Rattle.dav_handler_core.specs.ServerViews.{server}
use Rattle.dav_session_core.specs.Sessions.{caller, state}
use Rattle.dav_handler_core.proofs.AnswerLemmas.{bare_answered, bare_unread, moves_on}
use Rattle.dav_handler_core.proofs.TransferAnswerLemmas.{copy_leaves}
use Rattle.dav_fields_core.specs.Fields.{nothing_sent}
use Rattle.dav_methods_core.specs.CreatedPlaces.{TellsPlace}
use Rattle.dav_safe_methods_core.proofs.SentLemmas.{sent_done}
use Rattle.dav_handler_core.proofs.SentAnswerLemmas.{sent_dated}
use Rattle.dav_handler_core.proofs.MomentLemmas.{comes_on}
use Rattle.dav_handler_core.proofs.dav.Dav.serve_copy.Goals as goal

pub returns-in_err-path-clause-answers : goal.returns-in_err-path-clause-answers
returns-in_err-path-clause-answers g c =
    let q = err_from_is_err_and c.from_residual.result c.from_residual.ensures.1 in
    let before = server g.R.Rng.stream c.args.self.now in
    rw (q.1, q.2) (
      nothing_sent,
      tt,
      bare_unread true (FailsToCopy (site_for before.options c.args.request.now) before.options.prefix (head_of c.args.request.now).headers) before (server g.R.Rng.stream c.begin_bare.new.self) c.args.request.now c.in_err-path.field-0.0
          c.in_err-path.ensures.err,
      tt,
    )

pub returns-clause-answers : goal.returns-clause-answers
returns-clause-answers g c =
    let before = server g.R.Rng.stream c.args.self.now in
    let mid = server g.R.Rng.stream c.begin_bare.new.self in
    let after = server g.R.Rng.stream (record c.begin_bare.new.self { session = c.copy.new.session }) in
    let who = caller c.begin_bare.new.self.session in
    let s = state g.R.Rng.stream c.begin_bare.new.self.session in
    let begun = c.in_ok-path.ensures.ok in
    let options = c.begin_bare.ensures.moves.options in
    let headers = (head_of c.args.request.now).headers in
    let does : Options → Entries FieldValue → Type 0 = λ o h. IfOk c.copy.result (λ status. Copies (site_for o c.args.request.now) o.prefix h (live who.now s) who (segments c.in_ok-path.path.bytes) status after.state) in
    let fails : Options → Entries FieldValue → Type 0 = λ o h. IfErr c.copy.result (λ e. FailsToCopy (site_for o c.args.request.now) o.prefix h (live who.now s) who (segments c.in_ok-path.path.bytes) e) in
    let site = c.of-site.ensures ∙ ap (site_of mid.options.scheme) c.uri.ensures in
    let done = subst (λ site. IfOk c.copy.result (λ status. Copies site c.deref.result.now c.headers.result.now (live who.now s) who (segments c.in_ok-path.path.bytes) status after.state)) site c.copy.ensures.done in
    let fails_there = subst (λ site. IfErr c.copy.result (λ e. FailsToCopy site c.deref.result.now c.headers.result.now (live who.now s) who (segments c.in_ok-path.path.bytes) e)) site c.copy.ensures.err in
    let sent = sent_done c.begin_bare.new.response c.copy.new.response c.copy.result _ c.copy.ensures.sent in
    let tells : Options → Entries FieldValue → Type 0 = λ o h. IfOk c.copy.result (λ status. TellsPlace (site_for o c.args.request.now) o.prefix h status sent.0) in
    let tells_there = subst (λ site. IfOk c.copy.result (λ status. TellsPlace site c.deref.result.now c.headers.result.now status sent.0)) site sent.2 in (
      sent.0,
      sent_dated c.args.date.now c.begin_bare.new.response c.copy.new.response c.copy.result sent.0 c.in_ok-path.ensures.dated sent.1,
      bare_answered true (Copies (site_for before.options c.args.request.now) before.options.prefix headers) (FailsToCopy (site_for before.options c.args.request.now) before.options.prefix headers) before mid after c.args.request.now
          c.in_ok-path.path who (ap (λ (w : Caller). w.now) c.copy.ensures.acts.who) begun.0.0 begun.1 (λ h. begun.0.1 refl) s c.begin_bare.ensures.live begun.2 c.copy.result
          (subst (λ o. does o headers) options (subst (does mid.options) c.headers.ensures
          (subst (λ prefix. IfOk c.copy.result (λ status. Copies (site_for mid.options c.args.request.now) prefix c.headers.result.now (live who.now s) who (segments c.in_ok-path.path.bytes) status after.state))
          c.deref.ensures done)))
          (subst (λ o. fails o headers) options (subst (fails mid.options) c.headers.ensures
          (subst (λ prefix. IfErr c.copy.result (λ e. FailsToCopy (site_for mid.options c.args.request.now) prefix c.headers.result.now (live who.now s) who (segments c.in_ok-path.path.bytes) e))
          c.deref.ensures fails_there))),
      subst (λ o. tells o headers) options (subst (tells mid.options) c.headers.ensures
          (subst (λ prefix. IfOk c.copy.result (λ status. TellsPlace (site_for mid.options c.args.request.now) prefix c.headers.result.now status sent.0)) c.deref.ensures tells_there)),
    )

pub returns-clause-refused : goal.returns-clause-refused
returns-clause-refused g c =
    let before = server g.R.Rng.stream c.args.self.now in
    let mid = server g.R.Rng.stream c.begin_bare.new.self in
    let after = server g.R.Rng.stream (record c.begin_bare.new.self { session = c.copy.new.session }) in
    let who = caller c.begin_bare.new.self.session in
    let s = state g.R.Rng.stream c.begin_bare.new.self.session in
    let begun = c.in_ok-path.ensures.ok in
    let headers = (head_of c.args.request.now).headers in
    let leaves : Options → Entries FieldValue → Type 0 = λ o h. IfErr c.copy.result (λ e. CopyLeaves (site_for o c.args.request.now) o.prefix h s who (segments c.in_ok-path.path.bytes) e after.state) in
    let site = c.of-site.ensures ∙ ap (site_of mid.options.scheme) c.uri.ensures in
    let left_there = subst (λ site. IfErr c.copy.result (λ e. CopyLeaves site c.deref.result.now c.headers.result.now s who (segments c.in_ok-path.path.bytes) e after.state)) site c.copy.ensures.left in
    copy_leaves before mid after c.args.request.now c.in_ok-path.path who (ap (λ (w : Caller). w.now) c.copy.ensures.acts.who) begun.0.0 (begun.0.1 refl) s
    c.begin_bare.ensures.live c.copy.result
    (subst (λ o. leaves o headers) c.begin_bare.ensures.moves.options (subst (leaves mid.options) c.headers.ensures
    (subst (λ prefix. IfErr c.copy.result (λ e. CopyLeaves (site_for mid.options c.args.request.now) prefix c.headers.result.now s who (segments c.in_ok-path.path.bytes) e after.state)) c.deref.ensures left_there)))

pub returns-clause-moves : goal.returns-clause-moves
returns-clause-moves g c =
    moves_on (server g.R.Rng.stream c.args.self.now) (server g.R.Rng.stream c.begin_bare.new.self) _ c.args.request.now c.in_ok-path.path (caller c.begin_bare.new.self.session)
    c.in_ok-path.ensures.ok.0.0 c.begin_bare.ensures.moves c.begin_bare.ensures.run c.copy.ensures.acts.run (ap (λ (w : Caller). w.now) c.copy.ensures.acts.who) refl refl c.copy.ensures.acts.noting

pub returns-in_err-path-clause-comes : goal.returns-in_err-path-clause-comes
returns-in_err-path-clause-comes g c =
    let q = err_from_is_err_and c.from_residual.result c.from_residual.ensures.1 in
    rw (q.1, q.2) c.in_err-path.ensures.comes

pub returns-clause-comes : goal.returns-clause-comes
returns-clause-comes g c =
    comes_on true (server g.R.Rng.stream c.args.self.now) (server g.R.Rng.stream c.begin_bare.new.self) _ c.args.request.now _ c.in_ok-path.path (caller c.begin_bare.new.self.session)
    (ap (λ (w : Caller). w.now) c.copy.ensures.acts.who) c.in_ok-path.ensures.ok.0.0 c.in_ok-path.ensures.moment
