use Rattle.std.proofs.Common.{◌≡◌, drop}
use Rattle.dav_fields_core.specs.LockTimeouts.{given_of}
use Rattle.dav_fields_core.proofs.lock_timeouts.given_of.Given as goal

abbrev pub invariant-loop-timeout : goal.invariant-loop-timeout
invariant-loop-timeout l = given_of l.most (drop l.timeout-index l.wanted) ≡ given_of l.most l.wanted
