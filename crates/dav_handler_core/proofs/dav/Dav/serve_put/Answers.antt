use Rattle.std.proofs.Common.{inl, inr, true, refl, ◌∙◌, ap, subst}
use Rattle.std.proofs.lemmas.Result.{err_from_is_err_and}
use Rattle.dav_guarded_core.specs.Step.{State}
use Rattle.dav_session_core.specs.Callers.{Caller}
use Rattle.dav_fields_core.specs.Fields.{nothing_sent}
use Rattle.dav_handler_core.proofs.SentAnswerLemmas.{always, sent_dated}
use Rattle.dav_fields_core.specs.RequestRefusals.{HasPart}
use Rattle.dav_handler_core.specs.ServerViews.{server}
use Rattle.dav_session_core.specs.Sessions.{caller, state}
use Rattle.dav_handler_core.proofs.AnswerLemmas.{moves_on, put_answered, put_short, put_unread, tag_sent, whole_request}
use Rattle.dav_handler_core.proofs.MomentLemmas.{comes_on}
use Rattle.dav_handler_core.proofs.dav.Dav.serve_put.Goals as goal

pub returns-then-contains_key-clause-answers : goal.returns-then-contains_key-clause-answers
returns-then-contains_key-clause-answers g c = (nothing_sent, tt, inl (subst HasPart c.headers.ensures (c.contains_key.ensures.0 c.if-contains_key.true), refl), tt)

pub returns-in_err-path-clause-answers : goal.returns-in_err-path-clause-answers
returns-in_err-path-clause-answers g c =
    let p = err_from_is_err_and c.from_residual.result c.from_residual.ensures.1 in
    rw (p.1, p.2) (
      nothing_sent,
      tt,
      put_unread (server g.R.Rng.stream c.args.self.now) (server g.R.Rng.stream c.begin_admitted.new.self) c.args.request.now c.in_err-path.field-0.0
          nothing_sent
          (whole_request c.args.request.now c.headers.result.now c.contains_key.result c.headers.ensures c.contains_key.ensures c.if-contains_key.false)
          c.in_err-path.ensures.err,
      tt,
    )

pub returns-in_err-clone-clause-answers : goal.returns-in_err-clone-clause-answers
returns-in_err-clone-clause-answers g c =
    let p = err_from_is_err_and c.from_residual-in_err-clone.result c.from_residual-in_err-clone.ensures.1 in
    rw p.1 (
      nothing_sent,
      tt,
      put_short (server g.R.Rng.stream c.args.self.now) (server g.R.Rng.stream c.begin_admitted.new.self) c.args.request.now p.0 nothing_sent
          (whole_request c.args.request.now c.headers.result.now c.contains_key.result c.headers.ensures c.contains_key.ensures c.if-contains_key.false)
          p.2,
      tt,
    )

pub returns-clause-answers : goal.returns-clause-answers
returns-clause-answers g c =
    let begun = c.in_ok-path.ensures.ok in
    let sent = tag_sent (caller c.begin_admitted.new.self.session).now c.in_ok-clone.field-0 in (
      sent,
      sent_dated c.args.date.now c.begin_admitted.new.response c.put.new.response c.put.result sent c.in_ok-path.ensures.dated c.put.ensures.sent,
      put_answered (server g.R.Rng.stream c.args.self.now) (server g.R.Rng.stream c.begin_admitted.new.self) _ c.args.request.now c.in_ok-path.path (caller c.begin_admitted.new.self.session)
          (ap (λ (w : Caller). w.now) c.put.ensures.acts.who) begun.0.0 begun.1 (begun.0.1 refl) (state g.R.Rng.stream c.begin_admitted.new.self.session)
          (whole_request c.args.request.now c.headers.result.now c.contains_key.result c.headers.ensures c.contains_key.ensures c.if-contains_key.false)
          c.put.result sent c.in_ok-clone.field-0 c.headers-2.result.now (c.in_ok-clone.ensures.cases ∙ c.body.ensures) c.headers-2.ensures
          (ap (λ (s : State). s.map) c.begin_admitted.ensures.live) c.begin_admitted.ensures.live c.put.ensures.done (always c.put.result _ refl) c.put.ensures.err,
      tt,
    )

pub returns-clause-moves : goal.returns-clause-moves
returns-clause-moves g c =
    moves_on (server g.R.Rng.stream c.args.self.now) (server g.R.Rng.stream c.begin_admitted.new.self) _ c.args.request.now c.in_ok-path.path (caller c.begin_admitted.new.self.session)
    c.in_ok-path.ensures.ok.0.0 c.begin_admitted.ensures.moves c.begin_admitted.ensures.run c.put.ensures.acts.run (ap (λ (w : Caller). w.now) c.put.ensures.acts.who) refl refl c.put.ensures.acts.noting

pub returns-then-contains_key-clause-comes : goal.returns-then-contains_key-clause-comes
returns-then-contains_key-clause-comes g c = inl (subst HasPart c.headers.ensures (c.contains_key.ensures.0 c.if-contains_key.true), refl)

pub returns-in_err-path-clause-comes : goal.returns-in_err-path-clause-comes
returns-in_err-path-clause-comes g c =
    let q = err_from_is_err_and c.from_residual.result c.from_residual.ensures.1 in
    rw (q.1, q.2) (inr (
      (whole_request c.args.request.now c.headers.result.now c.contains_key.result c.headers.ensures c.contains_key.ensures c.if-contains_key.false),
      c.in_err-path.ensures.comes,
    ))

pub returns-in_err-clone-clause-comes : goal.returns-in_err-clone-clause-comes
returns-in_err-clone-clause-comes g c =
    let mid = server g.R.Rng.stream c.begin_admitted.new.self in
    inr (
      (whole_request c.args.request.now c.headers.result.now c.contains_key.result c.headers.ensures c.contains_key.ensures c.if-contains_key.false),
      comes_on true (server g.R.Rng.stream c.args.self.now) mid mid c.args.request.now _ c.in_ok-path.path (caller c.begin_admitted.new.self.session)
          refl c.in_ok-path.ensures.ok.0.0 c.in_ok-path.ensures.moment,
    )

pub returns-clause-comes : goal.returns-clause-comes
returns-clause-comes g c =
    inr (
      (whole_request c.args.request.now c.headers.result.now c.contains_key.result c.headers.ensures c.contains_key.ensures c.if-contains_key.false),
      comes_on true (server g.R.Rng.stream c.args.self.now) (server g.R.Rng.stream c.begin_admitted.new.self) _ c.args.request.now _ c.in_ok-path.path (caller c.begin_admitted.new.self.session)
          (ap (λ (w : Caller). w.now) c.put.ensures.acts.who) c.in_ok-path.ensures.ok.0.0 c.in_ok-path.ensures.moment,
    )
