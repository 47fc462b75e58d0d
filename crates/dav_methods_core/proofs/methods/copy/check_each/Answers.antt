use Rattle.std.proofs.Common.{◌≡◌, List, [], refl, subst}
use Rattle.std.proofs.lemmas.Result.{err_from_is_err_and}
use Rattle.dav_path_core.specs.PathText.{PathText}
use Rattle.dav_path_core.specs.Segments.{segments}
use Rattle.dav_locks_core.specs.Lock.{Lock}
use Rattle.dav_guarded_core.specs.Checks.{Check, shallow}
use Rattle.dav_guarded_core.specs.Step.{State}
use Rattle.dav_session_core.specs.declared.session.copying.Transfer.{Transfer}
use Rattle.dav_session_core.specs.Callers.{Caller, as_caller, live, refusing_at}
use Rattle.dav_session_core.specs.LocksInTheWay.{IsRefusedBy}
use Rattle.dav_session_core.specs.Sessions as spec
use Rattle.dav_session_core.proofs.Looking.{looks_none, looks_on}
use Rattle.dav_safe_methods_core.proofs.Acting.{held_before}
use Rattle.dav_methods_core.proofs.CopyCheckLemmas.{all_checked, checked_more, refused_one}
use Rattle.dav_methods_core.proofs.methods.copy.check_each.Goals as goal

abbrev check_of : Transfer → Check
check_of t = shallow (segments t.to.bytes)

abbrev locks_at : PathText → State → Caller → List Lock
locks_at p s who = refusing_at s who (segments p.bytes)

pub loop-transfer-init : goal.loop-transfer-init
loop-transfer-init g c = record {
  looks = looks_none g.R.Rng.stream c.args.session.now;
  left = refl;
}

pub returns-in_err-check-clause-err : goal.returns-in_err-check-clause-err
returns-in_err-check-clause-err g c =
    let q = err_from_is_err_and c.from_residual-in_err-check.result c.from_residual-in_err-check.ensures.1 in
    let who = spec.caller c.args.session.now in
    let start = spec.state g.R.Rng.stream c.args.session.now in
    let e = c.in_err-check.field-0.0 in
    let x = c.transfer-item.result in
    let asker = spec.caller c.loop-transfer.session in
    let mid = spec.state g.R.Rng.stream c.loop-transfer.session in
    let here = subst (λ (p : PathText). IsRefusedBy (locks_at p (live asker.now mid) asker) e) c.in_ok-copy_of.ensures c.in_err-check.ensures.err in
    rw (q.1, q.2) (refused_one (live who.now start).locks (as_caller who) check_of c.args.transfers.now c.loop-transfer.transfer-index c.loop-transfer.invariant.left x
    c.loop-transfer-test.true c.transfer-item.is e
    (held_before (λ w s. IsRefusedBy (locks_at x.to s w) e) c.loop-transfer.invariant.looks here))

pub loop-transfer-preserved : goal.loop-transfer-preserved
loop-transfer-preserved g c =
    let who = spec.caller c.args.session.now in
    let start = spec.state g.R.Rng.stream c.args.session.now in
    let x = c.transfer-item.result in
    let asker = spec.caller c.loop-transfer.session in
    let mid = spec.state g.R.Rng.stream c.loop-transfer.session in
    let here = subst (λ (p : PathText). locks_at p (live asker.now mid) asker ≡ []) c.in_ok-copy_of.ensures c.in_ok-check.ensures.ok in
    record {
      looks = looks_on c.loop-transfer.invariant.looks c.check.ensures.looks;
      left = checked_more (live who.now start).locks (as_caller who) check_of c.args.transfers.now c.loop-transfer.transfer-index c.loop-transfer.invariant.left x
          c.loop-transfer-test.true c.transfer-item.is (held_before (λ w s. locks_at x.to s w ≡ []) c.loop-transfer.invariant.looks here);
    }

pub returns-clause-ok : goal.returns-clause-ok
returns-clause-ok g c =
    let who = spec.caller c.args.session.now in
    all_checked (live who.now (spec.state g.R.Rng.stream c.args.session.now)).locks (as_caller who) check_of c.args.transfers.now c.loop-transfer.transfer-index
    c.loop-transfer.invariant.left c.loop-transfer-test.false

pub returns-in_err-check-clause-looks : goal.returns-in_err-check-clause-looks
returns-in_err-check-clause-looks g c = looks_on c.loop-transfer.invariant.looks c.check.ensures.looks
