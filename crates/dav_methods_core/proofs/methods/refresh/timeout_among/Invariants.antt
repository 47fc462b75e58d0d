use Rattle.std.proofs.Common.{◌≡◌, drop}
use Rattle.dav_methods_core.specs.RefreshMethod.{timeout_among}
use Rattle.dav_methods_core.proofs.methods.refresh.timeout_among.Given as goal

abbrev pub invariant-loop-lock : goal.invariant-loop-lock
invariant-loop-lock l = timeout_among l.token (drop l.lock-index l.locks) ≡ timeout_among l.token l.locks
