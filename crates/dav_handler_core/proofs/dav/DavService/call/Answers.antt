use Rattle.std.proofs.Common.{inl, inr, ◌<◌, ◌/◌, ◌^◌, [], length, Ok, Err, refl, ap, ◌∙◌, subst}
use Rattle.dav_faults_core.specs.declared.faults.Fault.TheVariants as fault
use Rattle.dav_handler_core.specs.Server.{Options}
use Rattle.dav_fields_core.specs.AnswerFields.{first_fields}
use Rattle.dav_fields_core.specs.Dates.{IsHttpDate}
use Rattle.dav_safe_methods_core.specs.RefusalAnswers.{IsToldOf}
use Rattle.dav_safe_methods_core.proofs.SentLemmas.{sent_is}
use Rattle.dav_handler_core.specs.RequestMoments.{answer_moment}
use Rattle.dav_handler_core.specs.ServerViews.{server}
use Rattle.dav_handler_core.proofs.AnswerLemmas.{moves_exclusive, moves_shape}
use Rattle.dav_handler_core.proofs.UntoldLemmas.{leaves_untold, memory_is_enough, refused_sends, untold}
use Rattle.dav_handler_core.proofs.MomentLemmas.{untold_comes}
use Rattle.dav_handler_core.proofs.dav.DavService.call.Goals as goal

pub returns-in-Ok-clause-ok : goal.returns-in-Ok-clause-ok
returns-in-Ok-clause-ok g c =
    let before = server g.R.Rng.stream c.args.self.now in
    let after = server g.R.Rng.stream c.answer.new.self in
    let told = c.in-Ok.ensures.done in
    record {
      moves = c.answer.ensures.moves;
      method = c.method_of-method.result;
      is_method = c.method_of-method.ensures;
      fits = subst (λ b. length b < 2 ^ 64) (c.deref.ensures ∙ c.body.ensures) c.fits.ensures;
      result = Ok c.in-Ok.status;
      status = refl;
      own = told.0;
      done = told.2;
      sends_own = told.3;
      date = c.date_bytes-date.result;
      dated = subst (λ n. IsHttpDate (n / 1_000_000_000) c.date_bytes-date.result) (c.answer_moment.ensures.capped ∙ ap (λ b. answer_moment b before) c.may_change.ensures) c.date_bytes-date.ensures.date;
      sends = told.1;
      comes = c.in-Ok.ensures.comes;
      refused = tt;
      exclusive = moves_exclusive before after c.args.request.now c.answer.ensures.moves;
      shape = moves_shape before after c.args.request.now c.answer.ensures.moves;
    }

pub returns-in-Err-clause-ok : goal.returns-in-Err-clause-ok
returns-in-Err-clause-ok g c =
    let before = server g.R.Rng.stream c.args.self.now in
    let after = server g.R.Rng.stream c.answer.new.self in
    let ended = c.in-Err.ensures.done in
    let m = c.method_of-method.result in
    let e = c.in-Err.fault in
    let date = c.date_bytes-date.result in
    let dated = subst (λ n. IsHttpDate (n / 1_000_000_000) date) (c.answer_moment.ensures.capped ∙ ap (λ b. answer_moment b before) c.may_change.ensures) c.date_bytes-date.ensures.date in
    let prefix = c.deref-in-Err.ensures ∙ ap (λ (o : Options). o.prefix) c.answer.ensures.moves.options in
    let told = subst (λ prefix. IsToldOf (first_fields date) prefix e c.refuse.new.response) prefix c.refuse.ensures in
    let fits = subst (λ b. length b < 2 ^ 64) (c.deref.ensures ∙ c.body.ensures) c.fits.ensures in
    elim told [
      | inl why ↦ record {
        moves = c.answer.ensures.moves;
        method = m;
        is_method = c.method_of-method.ensures;
        fits = fits;
        result = Err e;
        status = why.0;
        own = ended.0;
        done = ended.2;
        sends_own = ended.3;
        date = date;
        dated = dated;
        sends = why.1;
        comes = c.in-Err.ensures.comes;
        refused = c.in-Err.ensures.refused;
        exclusive = moves_exclusive before after c.args.request.now c.answer.ensures.moves;
        shape = moves_shape before after c.args.request.now c.answer.ensures.moves;
      }
      | inr short ↦ record {
        moves = c.answer.ensures.moves;
        method = m;
        is_method = c.method_of-method.ensures;
        fits = fits;
        result = Err fault.InsufficientStorage;
        status = short.1.status;
        own = ended.0;
        done = untold m before after c.args.request.now e ended.0 ended.0 short.0 ended.2;
        sends_own = refused_sends m before c.args.request.now fault.InsufficientStorage ended.0;
        date = date;
        dated = dated;
        sends = inr (memory_is_enough, sent_is c.refuse.new.response [] [] short.1.headers short.1.body);
        comes = untold_comes m before after c.args.request.now e c.in-Err.ensures.comes;
        refused = leaves_untold m before after c.args.request.now e short.0 c.in-Err.ensures.refused;
        exclusive = moves_exclusive before after c.args.request.now c.answer.ensures.moves;
        shape = moves_shape before after c.args.request.now c.answer.ensures.moves;
      }
    ]
