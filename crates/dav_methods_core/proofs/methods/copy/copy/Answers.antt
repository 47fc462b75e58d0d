use Rattle.std.proofs.Common.{cond, map, [], ◌++◌, refl, sym, ap, ◌∙◌, subst}
use Rattle.http_server.specs.Response.{fields_of}
use Rattle.dav_fields_core.specs.Fields.{Sent}
use Rattle.dav_methods_core.specs.CreatedPlaces.{place_fields}
use Rattle.dav_safe_methods_core.proofs.SentLemmas.{sent_is}
use Rattle.std.specs.Prelude.{option_map}
use Rattle.std.proofs.lemmas.Result.{err_from_is_err_and}
use Rattle.dav_path_core.specs.Fronts.{Path}
use Rattle.dav_path_core.specs.Segments.{segments}
use Rattle.dav_files_core.specs.Meta.{meta_at, meta_of}
use Rattle.dav_files_core.specs.Resources.{Resource, at_path}
use Rattle.dav_faults_core.specs.declared.faults.Fault.TheVariants as fault
use Rattle.dav_session_core.specs.Callers.{live}
use Rattle.dav_methods_core.specs.CopyMethod.{IsPlanned}
use Rattle.dav_session_core.specs.Sessions as spec
use Rattle.dav_session_core.specs.declared.session.copying.Transfer.{Transfer}
use Rattle.dav_methods_core.proofs.CopyMethodLemmas.{copy_all, copy_begun, copy_left, copy_lost, copy_short}
use Rattle.dav_session_core.proofs.Looking.{acts_on, looks_before, looks_on}
use Rattle.dav_session_core.proofs.PutLemmas.{known_there}
use Rattle.dav_safe_methods_core.proofs.Acting.{looks_act}
use Rattle.dav_methods_core.proofs.methods.copy.copy.Goals as goal

abbrev ends : Transfer → Path × Path
ends t = (segments t.from.bytes, segments t.to.bytes)

pub returns-in_err-target-clause-err : goal.returns-in_err-target-clause-err
returns-in_err-target-clause-err g c =
    let q = err_from_is_err_and c.from_residual.result c.from_residual.ensures.1 in
    rw (q.1, q.2) c.in_err-target.ensures.err

pub returns-in_err-target-clause-left : goal.returns-in_err-target-clause-left
returns-in_err-target-clause-left g c =
    let q = err_from_is_err_and c.from_residual.result c.from_residual.ensures.1 in
    rw (q.1, q.2) (copy_left c.args.site.now c.args.prefix.now c.args.headers.now (spec.caller c.args.session.now) (spec.state g.R.Rng.stream c.args.session.now)
    (segments c.args.path.now.bytes) c.in_err-target.field-0.0 (spec.state g.R.Rng.stream c.admitted_plan.new.session) c.admitted_plan.ensures.looks.live)

pub returns-in_err-copy_all-clause-err : goal.returns-in_err-copy_all-clause-err
returns-in_err-copy_all-clause-err g c =
    let q = err_from_is_err_and c.from_residual-in_err-copy_all.result c.from_residual-in_err-copy_all.ensures.1 in
    let who = spec.caller c.args.session.now in
    let start = spec.state g.R.Rng.stream c.args.session.now in
    let from = segments c.args.path.now.bytes in
    let asker = spec.caller c.admitted_plan.new.session in
    let b = spec.state g.R.Rng.stream c.admitted_plan.new.session in
    let m = spec.state g.R.Rng.stream c.clear.new.self in
    let copier = spec.caller c.clear.new.self in
    let after = spec.state g.R.Rng.stream c.copy_all.new.self in
    let known = option_map meta_of c.in_ok-target.field-0.known in
    let gone = map (λ q. segments q.bytes) c.in_ok-target.field-0.gone.items in
    let pairs = map ends c.deref-2.result.now in
    let plan = subst (λ ts. IsPlanned c.args.site.now c.args.prefix.now c.args.headers.now (live who.now start) who from known gone (map ends ts)) (sym c.deref-2.ensures.value)
    c.in_ok-target.ensures.ok in
    let by = c.clear.ensures.acts.who ∙ c.admitted_plan.ensures.looks.who in
    let short = copy_short c.args.site.now c.args.prefix.now c.args.headers.now who start from known gone pairs plan asker b m c.admitted_plan.ensures.looks.who c.admitted_plan.ensures.looks.live c.clear.ensures.acts.run c.in_ok-clear.ensures.cleared copier after by c.in_err-copy_all.field-0.0 c.in_err-copy_all.ensures.err in
    rw (q.1, q.2) (copy_lost c.args.site.now c.args.prefix.now c.args.headers.now who start from c.in_err-copy_all.field-0.0 short)

pub returns-in_err-copy_all-clause-left : goal.returns-in_err-copy_all-clause-left
returns-in_err-copy_all-clause-left g c =
    let q = err_from_is_err_and c.from_residual-in_err-copy_all.result c.from_residual-in_err-copy_all.ensures.1 in
    let who = spec.caller c.args.session.now in
    let start = spec.state g.R.Rng.stream c.args.session.now in
    let from = segments c.args.path.now.bytes in
    let asker = spec.caller c.admitted_plan.new.session in
    let b = spec.state g.R.Rng.stream c.admitted_plan.new.session in
    let m = spec.state g.R.Rng.stream c.clear.new.self in
    let copier = spec.caller c.clear.new.self in
    let after = spec.state g.R.Rng.stream c.copy_all.new.self in
    let known = option_map meta_of c.in_ok-target.field-0.known in
    let gone = map (λ q. segments q.bytes) c.in_ok-target.field-0.gone.items in
    let pairs = map ends c.deref-2.result.now in
    let plan = subst (λ ts. IsPlanned c.args.site.now c.args.prefix.now c.args.headers.now (live who.now start) who from known gone (map ends ts)) (sym c.deref-2.ensures.value)
    c.in_ok-target.ensures.ok in
    let by = c.clear.ensures.acts.who ∙ c.admitted_plan.ensures.looks.who in
    let short = copy_short c.args.site.now c.args.prefix.now c.args.headers.now who start from known gone pairs plan asker b m c.admitted_plan.ensures.looks.who c.admitted_plan.ensures.looks.live c.clear.ensures.acts.run c.in_ok-clear.ensures.cleared copier after by c.in_err-copy_all.field-0.0 c.in_err-copy_all.ensures.err in
    rw (q.1, q.2) (copy_begun c.args.site.now c.args.prefix.now c.args.headers.now who start from known gone pairs plan asker b m c.admitted_plan.ensures.looks.who c.admitted_plan.ensures.looks.live c.clear.ensures.acts.run c.in_ok-clear.ensures.cleared copier after by
    c.in_err-copy_all.field-0.0 short c.in_ok-target.ensures.course c.in_err-copy_all.ensures.begun)

pub returns-in_err-clear-clause-err : goal.returns-in_err-clear-clause-err
returns-in_err-clear-clause-err g c =
    let q = err_from_is_err_and c.from_residual-in_err-clear.result c.from_residual-in_err-clear.ensures.1 in
    rw (q.1, q.2) (copy_lost c.args.site.now c.args.prefix.now c.args.headers.now (spec.caller c.args.session.now) (spec.state g.R.Rng.stream c.args.session.now)
    (segments c.args.path.now.bytes) fault.InsufficientStorage refl)

pub returns-in_err-clear-clause-left : goal.returns-in_err-clear-clause-left
returns-in_err-clear-clause-left g c =
    let q = err_from_is_err_and c.from_residual-in_err-clear.result c.from_residual-in_err-clear.ensures.1 in
    rw (q.1, q.2) (copy_left c.args.site.now c.args.prefix.now c.args.headers.now (spec.caller c.args.session.now) (spec.state g.R.Rng.stream c.args.session.now)
    (segments c.args.path.now.bytes) fault.InsufficientStorage (spec.state g.R.Rng.stream c.clear.new.self)
    (looks_on c.admitted_plan.ensures.looks (looks_before c.in_err-clear.ensures.refused)).live)

pub returns-in_err-say_place-clause-err : goal.returns-in_err-say_place-clause-err
returns-in_err-say_place-clause-err g c =
    let q = err_from_is_err_and c.from_residual-in_err-say_place.result c.from_residual-in_err-say_place.ensures.1 in
    rw (q.1, q.2) (copy_lost c.args.site.now c.args.prefix.now c.args.headers.now (spec.caller c.args.session.now) (spec.state g.R.Rng.stream c.args.session.now)
    (segments c.args.path.now.bytes) c.in_err-say_place.field-0.0 c.in_err-say_place.ensures.err)

pub returns-in_err-say_place-clause-left : goal.returns-in_err-say_place-clause-left
returns-in_err-say_place-clause-left g c =
    let q = err_from_is_err_and c.from_residual-in_err-say_place.result c.from_residual-in_err-say_place.ensures.1 in
    rw (q.1, q.2) (copy_left c.args.site.now c.args.prefix.now c.args.headers.now (spec.caller c.args.session.now) (spec.state g.R.Rng.stream c.args.session.now)
    (segments c.args.path.now.bytes) c.in_err-say_place.field-0.0 (spec.state g.R.Rng.stream c.admitted_plan.new.session) c.admitted_plan.ensures.looks.live)

pub returns-clause-sent : goal.returns-clause-sent
returns-clause-sent g c =
    let to = c.in_ok-target.field-0.target in
    let sent : Sent = record { fields = place_fields c.args.prefix.now to c.done.result; body = [] } in (
      sent,
      sent_is c.say_place.new.response (fields_of c.args.response.now ++ place_fields c.args.prefix.now to c.done.result) []
          (c.in_ok-say_place.ensures.fields ∙ ap (λ status. fields_of c.args.response.now ++ place_fields c.args.prefix.now to status) (sym c.done.ensures))
          (ap (λ b. b.items) c.say_place.ensures.body ∙ c.requires),
      record { to = to; leads = c.in_ok-target.ensures.leads; tells = refl },
    )

pub returns-clause-done : goal.returns-clause-done
returns-clause-done g c =
    let who = spec.caller c.args.session.now in
    let start = spec.state g.R.Rng.stream c.args.session.now in
    let from = segments c.args.path.now.bytes in
    let asker = spec.caller c.admitted_plan.new.session in
    let b = spec.state g.R.Rng.stream c.admitted_plan.new.session in
    let m = spec.state g.R.Rng.stream c.clear.new.self in
    let copier = spec.caller c.clear.new.self in
    let after = spec.state g.R.Rng.stream c.copy_all.new.self in
    let known = option_map meta_of c.in_ok-target.field-0.known in
    let gone = map (λ q. segments q.bytes) c.in_ok-target.field-0.gone.items in
    let pairs = map ends c.deref-2.result.now in
    let plan = subst (λ ts. IsPlanned c.args.site.now c.args.prefix.now c.args.headers.now (live who.now start) who from known gone (map ends ts)) (sym c.deref-2.ensures.value)
    c.in_ok-target.ensures.ok in
    let by = c.clear.ensures.acts.who ∙ c.admitted_plan.ensures.looks.who in
    let there = known_there meta_of (λ (r : Resource). meta_at r.node) c.in_ok-target.field-0.known (at_path start.map (segments plan.to.bytes)) plan.known_is in
    copy_all c.args.site.now c.args.prefix.now c.args.headers.now who start from known gone pairs plan asker b m c.admitted_plan.ensures.looks.who c.admitted_plan.ensures.looks.live c.clear.ensures.acts.run c.in_ok-clear.ensures.cleared copier after by
    c.done.result (c.done.ensures ∙ ap (λ b. cond b 204 201) there) c.in_ok-target.ensures.course c.in_ok-copy_all.ensures.copied c.in_ok-copy_all.ensures.made

pub returns-in_err-target-clause-acts : goal.returns-in_err-target-clause-acts
returns-in_err-target-clause-acts g c = looks_act c.admitted_plan.ensures.looks

pub returns-in_err-say_place-clause-acts : goal.returns-in_err-say_place-clause-acts
returns-in_err-say_place-clause-acts g c = looks_act c.admitted_plan.ensures.looks

pub returns-in_err-clear-clause-acts : goal.returns-in_err-clear-clause-acts
returns-in_err-clear-clause-acts g c = acts_on (looks_act c.admitted_plan.ensures.looks) c.clear.ensures.acts

pub returns-in_err-copy_all-clause-acts : goal.returns-in_err-copy_all-clause-acts
returns-in_err-copy_all-clause-acts g c = acts_on (looks_act c.admitted_plan.ensures.looks) (acts_on c.clear.ensures.acts c.copy_all.ensures.acts)

pub returns-clause-acts : goal.returns-clause-acts
returns-clause-acts g c = acts_on (looks_act c.admitted_plan.ensures.looks) (acts_on c.clear.ensures.acts c.copy_all.ensures.acts)
