use Rattle.std.proofs.Common.{ap, map, subst}
use Rattle.std.proofs.lemmas.Result.{err_from_is_err_and}
use Rattle.dav_path_core.specs.Segments.{segments}
use Rattle.dav_files_core.specs.Resources.{ResourceMap}
use Rattle.dav_guarded_core.specs.Step.{State}
use Rattle.dav_session_core.specs.Ends.{GoesFrom}
use Rattle.dav_session_core.specs.Sessions as spec
use Rattle.dav_methods_core.proofs.EndsLemmas.{fails_fit, fails_lead, fails_odd}
use Rattle.dav_session_core.proofs.Looking.{looks_none, looks_on}
use Rattle.dav_methods_core.proofs.methods.ends.ends_of.Goals as goal

pub returns-in_err-target-clause-err : goal.returns-in_err-target-clause-err
returns-in_err-target-clause-err g c =
    let q = err_from_is_err_and c.from_residual.result c.from_residual.ensures.1 in
    rw (q.1, q.2) (fails_lead c.args.site.now c.args.prefix.now c.args.headers.now (segments c.args.path.now.bytes) c.args.within (spec.state g.R.Rng.stream c.args.session.now).map
    c.in_err-target.field-0.0 c.in_err-target.ensures.err)

pub returns-in_err-known-clause-err : goal.returns-in_err-known-clause-err
returns-in_err-known-clause-err g c =
    let q = err_from_is_err_and c.from_residual-in_err-known.result c.from_residual-in_err-known.ensures.1 in
    let target = c.in_ok-target.field-0 in
    rw (q.1, q.2) (fails_fit c.args.site.now c.args.prefix.now c.args.headers.now (segments c.args.path.now.bytes) c.args.within (spec.state g.R.Rng.stream c.args.session.now).map
    target.path target.replaces c.in_ok-target.ensures.ok c.in_err-known.field-0.0 c.in_err-known.ensures.err)

pub returns-in_err-gone-clause-err : goal.returns-in_err-gone-clause-err
returns-in_err-gone-clause-err g c =
    let q = err_from_is_err_and c.from_residual-in_err-gone.result c.from_residual-in_err-gone.ensures.1 in
    let target = c.in_ok-target.field-0 in
    rw (q.1, q.2) (fails_odd c.args.site.now c.args.prefix.now c.args.headers.now (segments c.args.path.now.bytes) c.args.within (spec.state g.R.Rng.stream c.args.session.now).map
    target.path target.replaces c.in_ok-target.ensures.ok c.in_ok-known.ensures.ok.fit (spec.state g.R.Rng.stream c.check_fit.new.session).map
    (ap (λ (s : State). s.map) c.check_fit.ensures.looks.live) c.in_err-gone.field-0.0 c.in_err-gone.ensures.err)

pub returns-clause-ok : goal.returns-clause-ok
returns-clause-ok g c =
    let target = c.in_ok-target.field-0 in
    let fits = c.in_ok-known.ensures.ok in
    record {
      replaces = target.replaces;
      leads = c.in_ok-target.ensures.ok;
      fit = fits.fit;
      known_is = fits.known_is;
      goes = subst (λ (m : ResourceMap). GoesFrom m (segments target.path.bytes) (map (λ p. segments p.bytes) c.in_ok-gone.gone.items))
          (ap (λ (s : State). s.map) c.check_fit.ensures.looks.live) c.in_ok-gone.ensures.ok;
    }

pub returns-in_err-target-clause-looks : goal.returns-in_err-target-clause-looks
returns-in_err-target-clause-looks g c = looks_none g.R.Rng.stream c.args.session.now

pub returns-in_err-gone-clause-looks : goal.returns-in_err-gone-clause-looks
returns-in_err-gone-clause-looks g c = looks_on c.check_fit.ensures.looks c.folder_at.ensures.looks

pub returns-clause-looks : goal.returns-clause-looks
returns-clause-looks g c = looks_on c.check_fit.ensures.looks c.folder_at.ensures.looks
