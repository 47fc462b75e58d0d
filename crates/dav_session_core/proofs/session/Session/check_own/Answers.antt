use Rattle.std.proofs.Common.{◌≡◌, ◌+◌, ◌<◌, Err, true, false, sym, ap, ◌∙◌, subst, length, arith}
use Rattle.std.proofs.lemmas.Result.{err_from_is_err_and}
use Rattle.dav_path_core.specs.Fronts.{Path, is_front, parent}
use Rattle.dav_path_core.specs.PathText.{PathText}
use Rattle.dav_path_core.specs.Segments.{segments}
use Rattle.dav_path_core.proofs.paths.FrontLemmas.{is_front-refl, is_front-trans}
use Rattle.dav_session_core.specs.Callers.{live}
use Rattle.dav_session_core.specs.Sessions as spec
use Rattle.dav_session_core.proofs.Looking.{as_looks, looks_none, looks_on}
use Rattle.dav_session_core.proofs.OwnLemmas.{OwnSoFar, at_first, checked_own, none_as, one_up, refused_own}
use Rattle.dav_path_core.proofs.paths.AbovePaths.{one_less, parent_front}
use Rattle.dav_session_core.proofs.session.Session.check_own.Goals as goal

pub loop-init : goal.loop-init
loop-init g c =
    let who = spec.caller c.args.self.now in
    let start = spec.state g.R.Rng.stream c.args.self.now in
    let p = segments c.args.path.now.bytes in
    let here : segments c.in_ok-here.here.bytes ≡ p = ap (λ (path : PathText). segments path.bytes) c.in_ok-here.ensures in
    record {
      looks = looks_none g.R.Rng.stream c.args.self.now;
      front = subst (λ q. is_front q p ≡ true) (sym here) (is_front-refl p);
      left = omega (arith, ap length here);
      own = subst (OwnSoFar (live who.now start) who p c.args.token.now) (sym here) (at_first (live who.now start) who p c.args.token.now);
    }

pub returns-in_err-check_own_at-clause-err : goal.returns-in_err-check_own_at-clause-err
returns-in_err-check_own_at-clause-err g c =
    let q = err_from_is_err_and c.from_residual-in_err-check_own_at.result c.from_residual-in_err-check_own_at.ensures.1 in
    let who = spec.caller c.args.self.now in
    let start = spec.state g.R.Rng.stream c.args.self.now in
    rw (q.1, q.2) (refused_own who start (spec.caller c.loop.self) (spec.state g.R.Rng.stream c.loop.self) (segments c.args.path.now.bytes) c.args.token.now
    (segments c.loop.here.bytes) {A = Unit {0}} (Err c.in_err-check_own_at.field-0.0) (as_looks c.loop.invariant.looks) c.loop.invariant.front c.in_err-check_own_at.ensures.err)

pub loop-preserved : goal.loop-preserved
loop-preserved g c =
    let who = spec.caller c.args.self.now in
    let start = spec.state g.R.Rng.stream c.args.self.now in
    let s = live who.now start in
    let p = segments c.args.path.now.bytes in
    let here = segments c.loop.here.bytes in
    let token = c.args.token.now in
    let up : segments c.in_ok-here-2.here.bytes ≡ parent here = c.in_ok-here-2.ensures.above in
    let none = none_as who start (spec.caller c.loop.self) (spec.state g.R.Rng.stream c.loop.self) p token here false (as_looks c.loop.invariant.looks) c.in_ok-check_own_at.ensures.ok in
    record {
      looks = looks_on c.loop.invariant.looks c.check_own_at.ensures.looks;
      front = subst (λ q. is_front q p ≡ true) (sym up) (is_front-trans (parent here) here p (parent_front here) c.loop.invariant.front);
      left = ap (λ (q : Path). length q + (c.loop.counter + 1)) up ∙ one_less here c.loop.counter (length p) c.loop.invariant.left (subst (λ n. c.loop.counter < n) c.depth_of-end.ensures c.loop-test.true);
      own = subst (OwnSoFar s who p token) (sym up) (one_up s who p token here none c.loop.invariant.own);
    }

pub returns-clause-ok : goal.returns-clause-ok
returns-clause-ok g c =
    let who = spec.caller c.args.self.now in
    let start = spec.state g.R.Rng.stream c.args.self.now in
    checked_own who start (spec.caller c.loop.self) (spec.state g.R.Rng.stream c.loop.self) (segments c.args.path.now.bytes) c.args.token.now
    (segments c.loop.here.bytes) c.check_own_at-2.result (omega (arith, c.loop.invariant.left, c.loop-test.false, c.depth_of-end.ensures)) (as_looks c.loop.invariant.looks) c.check_own_at-2.ensures.ok c.loop.invariant.own

pub returns-clause-err : goal.returns-clause-err
returns-clause-err g c =
    let who = spec.caller c.args.self.now in
    let start = spec.state g.R.Rng.stream c.args.self.now in
    refused_own who start (spec.caller c.loop.self) (spec.state g.R.Rng.stream c.loop.self) (segments c.args.path.now.bytes) c.args.token.now
    (segments c.loop.here.bytes) c.check_own_at-2.result (as_looks c.loop.invariant.looks) c.loop.invariant.front c.check_own_at-2.ensures.err

pub returns-in_err-check_own_at-clause-looks : goal.returns-in_err-check_own_at-clause-looks
returns-in_err-check_own_at-clause-looks g c = looks_on c.loop.invariant.looks c.check_own_at.ensures.looks

pub returns-in_err-here-2-clause-looks : goal.returns-in_err-here-2-clause-looks
returns-in_err-here-2-clause-looks g c = looks_on c.loop.invariant.looks c.check_own_at.ensures.looks

pub returns-clause-looks : goal.returns-clause-looks
returns-clause-looks g c = looks_on c.loop.invariant.looks c.check_own_at-2.ensures.looks
