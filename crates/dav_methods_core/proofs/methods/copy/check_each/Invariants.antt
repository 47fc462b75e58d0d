use Rattle.std.proofs.Common.{◌≡◌, drop, map}
use Rattle.dav_path_core.specs.Segments.{segments}
use Rattle.dav_guarded_core.specs.Checks.{refusing, shallow}
use Rattle.dav_session_core.specs.Callers.{as_caller, live}
use Rattle.dav_session_core.specs.Sessions as spec
use Rattle.dav_methods_core.proofs.methods.copy.check_each.Given as goal

-- what refuses one of all copies refuses one of those that are left
abbrev pub invariant-loop-transfer : goal.invariant-loop-transfer
invariant-loop-transfer g l =
    let who = spec.caller l.fn.session in
    let start = spec.state g.R.Rng.stream l.fn.session in
    record {
      looks : spec.Looks g.R.Rng.stream l.fn.session l.session;
      left : refusing (live who.now start).locks (as_caller who) (map (λ t. shallow (segments t.to.bytes)) (drop l.transfer-index l.transfers))
          ≡ refusing (live who.now start).locks (as_caller who) (map (λ t. shallow (segments t.to.bytes)) l.transfers);
    }
