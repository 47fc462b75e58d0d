use Rattle.std.proofs.Common.{[], ◌∷◌, refl, sym, ◌∙◌, subst}
use Rattle.std.proofs.lemmas.Result.{err_from_is_err_and}
use Rattle.dav_path_core.specs.Segments.{segments}
use Rattle.dav_session_core.specs.Callers.{live}
use Rattle.dav_session_core.specs.LocksInTheWay.{IsRefusedBy}
use Rattle.dav_session_core.specs.Removing.{refusing_removal}
use Rattle.dav_session_core.specs.Sessions as spec
use Rattle.dav_session_core.proofs.Looking.{looks_none, looks_on, same_asked}
use Rattle.dav_session_core.proofs.RemovalCheckLemmas.{all_checked, checked_more, refused_one}
use Rattle.dav_session_core.proofs.session.Session.check_removal.Goals as goal

pub loop-place-init : goal.loop-place-init
loop-place-init g c = record {
  looks = looks_none g.R.Rng.stream c.args.self.now;
  left = refl;
}

pub returns-in_err-check_one-clause-err : goal.returns-in_err-check_one-clause-err
returns-in_err-check_one-clause-err g c =
    let q = err_from_is_err_and c.from_residual.result c.from_residual.ensures.1 in
    let who = spec.caller c.args.self.now in
    let start = spec.state g.R.Rng.stream c.args.self.now in
    let e = c.in_err-check_one.field-0.0 in
    let here = segments c.place-item.result.bytes in
    rw (q.1, q.2) (refused_one (live who.now start) who (λ p. segments p.bytes) c.args.places.now c.loop-place.place-index c.loop-place.invariant.left c.place-item.result
    c.loop-place-test.true c.place-item.is e
    (subst (λ ls. IsRefusedBy ls e) (same_asked (λ w s. refusing_removal s w (here ∷ [])) c.loop-place.invariant.looks)
    c.in_err-check_one.ensures.err))

pub loop-place-preserved : goal.loop-place-preserved
loop-place-preserved g c =
    let who = spec.caller c.args.self.now in
    let start = spec.state g.R.Rng.stream c.args.self.now in
    record {
      looks = looks_on c.loop-place.invariant.looks c.check_one.ensures.looks;
      left = checked_more (live who.now start) who (λ p. segments p.bytes) c.args.places.now c.loop-place.place-index c.loop-place.invariant.left c.place-item.result
          c.loop-place-test.true c.place-item.is
          (sym (same_asked (λ w s. refusing_removal s w (segments c.place-item.result.bytes ∷ [])) c.loop-place.invariant.looks)
          ∙ c.in_ok-check_one.ensures.ok);
    }

pub returns-clause-ok : goal.returns-clause-ok
returns-clause-ok g c =
    let who = spec.caller c.args.self.now in
    all_checked (live who.now (spec.state g.R.Rng.stream c.args.self.now)) who (λ p. segments p.bytes) c.args.places.now c.loop-place.place-index c.loop-place.invariant.left
    c.loop-place-test.false

pub returns-in_err-check_one-clause-looks : goal.returns-in_err-check_one-clause-looks
returns-in_err-check_one-clause-looks g c = looks_on c.loop-place.invariant.looks c.check_one.ensures.looks
