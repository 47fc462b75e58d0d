use Rattle.std.proofs.Common.{◌≡◌, ◌≤◌, length, take}
use Rattle.dav_path_core.specs.Segments.{segments}
use Rattle.dav_path_core.proofs.davpath.lent.trim_slashes.Given as goal

abbrev pub invariant-loop-end : goal.invariant-loop-end
invariant-loop-end l = record { within : l.end ≤ length l.bytes; same : segments (take l.end l.bytes) ≡ segments l.bytes }

abbrev pub decreases-loop-end : goal.decreases-loop-end
decreases-loop-end l = l.end
