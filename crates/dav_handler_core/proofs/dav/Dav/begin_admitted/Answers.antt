use Rattle.std.proofs.Common.{inr, refl, sym, ap, ◌∙◌, subst}
use Rattle.std.proofs.lemmas.Result.{err_from_is_err_and}
use Rattle.dav_guarded_core.specs.Step.{State}
use Rattle.dav_handler_core.specs.Server.{IsFrom, Options, site_for}
use Rattle.dav_fields_core.specs.Bases.{site_of}
use Rattle.dav_session_core.specs.Callers.{Caller, RunBy}
use Rattle.dav_handler_core.specs.ServerViews.{server}
use Rattle.dav_session_core.specs.Sessions.{caller}
use Rattle.dav_handler_core.proofs.AnswerLemmas.{held_there}
use Rattle.dav_session_core.proofs.CallerLaws.{by_none}
use Rattle.dav_handler_core.specs.RequestMoments.ComesAt.{begun, unread}
use Rattle.dav_handler_core.proofs.dav.Dav.begin_admitted.Goals as goal

pub returns-in_err-path-clause-run : goal.returns-in_err-path-clause-run
returns-in_err-path-clause-run g c =
    subst (λ (s : State). RunBy (caller c.begin.new.self.session) s (server g.R.Rng.stream c.begin.new.self).state) c.begin.ensures.state
    (by_none (caller c.begin.new.self.session) (server g.R.Rng.stream c.begin.new.self).state)

pub returns-in_err-admit-clause-err : goal.returns-in_err-admit-clause-err
returns-in_err-admit-clause-err g c =
    let p = err_from_is_err_and c.from_residual-in_err-admit.result c.from_residual-in_err-admit.ensures.1 in
    let e = c.in_err-admit.field-0.0 in
    let who = caller c.admit.new.session in
    let begun = c.in_ok-path.ensures.ok in
    let before = server g.R.Rng.stream c.args.self.now in
    rw (p.1, p.2) (inr (
      c.in_ok-path.path,
      (
        who,
        record {
          names = begun.0;
          from = subst (IsFrom before.options c.args.request.now) (sym c.admit.ensures.looks.who) begun.1;
          now = refl;
        },
        held_there before c.args.request.now c.headers.result.now c.in_ok-path.path e c.of-site.result (caller c.begin.new.self.session).now who.now (server g.R.Rng.stream c.begin.new.self).state
            (c.of-site.ensures ∙ ap (site_of c.begin.new.self.settings.scheme) c.uri.ensures ∙ ap (λ (o : Options). site_for o c.args.request.now) c.begin.ensures.options) (sym (ap (λ (w : Caller). w.now) c.admit.ensures.looks.who)) c.begin.ensures.state c.headers.ensures c.in_err-admit.ensures.err,
      ),
    ))

pub returns-in_err-path-clause-comes : goal.returns-in_err-path-clause-comes
returns-in_err-path-clause-comes g c =
    let q = err_from_is_err_and c.from_residual.result c.from_residual.ensures.1 in
    rw (q.1, q.2) (unread c.in_err-path.field-0.0 refl c.in_err-path.ensures.err c.in_err-path.ensures.left)

pub returns-in_err-admit-clause-comes : goal.returns-in_err-admit-clause-comes
returns-in_err-admit-clause-comes g c =
    let q = err_from_is_err_and c.from_residual-in_err-admit.result c.from_residual-in_err-admit.ensures.1 in
    let before = server g.R.Rng.stream c.args.self.now in
    let start = c.in_ok-path.ensures.ok in
    rw (q.1, q.2) (begun c.in_ok-path.path (caller c.admit.new.session)
    (record {
      names = start.0;
      from = subst (IsFrom before.options c.args.request.now) (sym c.admit.ensures.looks.who) start.1;
      now = refl;
    }) (
      ap (λ (w : Caller). w.now) c.admit.ensures.looks.who ∙ c.in_ok-path.ensures.moment.0,
      c.in_ok-path.ensures.moment.1,
    ))

pub returns-clause-moment : goal.returns-clause-moment
returns-clause-moment g c = (
  ap (λ (w : Caller). w.now) c.admit.ensures.looks.who ∙ c.in_ok-path.ensures.moment.0,
  c.in_ok-path.ensures.moment.1,
)

pub returns-clause-dated : goal.returns-clause-dated
returns-clause-dated g c = c.in_ok-path.ensures.dated
