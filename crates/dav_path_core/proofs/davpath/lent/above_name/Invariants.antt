use Rattle.std.proofs.Common.{◌≤◌, length}
use Rattle.dav_path_core.proofs.paths.NameLemmas.{NoSlashFrom}
use Rattle.dav_path_core.proofs.davpath.lent.above_name.Given as goal

abbrev pub invariant-loop-end : goal.invariant-loop-end
invariant-loop-end l = record { within : l.end ≤ length l.bytes; none : NoSlashFrom l.bytes l.end }

abbrev pub decreases-loop-end : goal.decreases-loop-end
decreases-loop-end l = l.end
