use Rattle.std.proofs.Common.{◌≡◌, ◌++◌}
use Rattle.dav_snapshots_core.proofs.walks.entries_of.Given as goal

abbrev pub invariant-adding : goal.invariant-adding
invariant-adding l = l.all.items ++ l.stored-iterator ≡ l.fn.walk
