use Rattle.std.proofs.Common.{◌≡◌, ◌++◌, map}
use Rattle.dav_snapshots_core.proofs.writing.lent_locks.Given as goal

abbrev pub invariant-adding : goal.invariant-adding
invariant-adding l = map (λ x. x.now) l.lent.items ++ l.lock-iterator ≡ l.fn.locks
