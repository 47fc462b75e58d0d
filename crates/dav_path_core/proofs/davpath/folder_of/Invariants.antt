use Rattle.std.proofs.Common.{◌≡◌, ◌++◌, length, take}
use Rattle.dav_path_core.specs.Segments.{segments}
use Rattle.dav_path_core.specs.PathText.{folder_bytes}
use Rattle.dav_path_core.proofs.davpath.folder_of.Given as goal

abbrev pub invariant-loop-segment : goal.invariant-loop-segment
invariant-loop-segment l = l.path.items ≡ l.prefix ++ folder_bytes (take (length l.yielded) (take l.count (segments l.fn.names)))
