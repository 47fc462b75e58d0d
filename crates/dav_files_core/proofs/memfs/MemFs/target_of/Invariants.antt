use Rattle.std.proofs.Common.{length, take, Ok}
use Rattle.dav_path_core.specs.Segments.{segments}
use Rattle.dav_files_core.specs.Private.TreeCalls.{LeadsToTarget}
use Rattle.dav_files_core.proofs.memfs.MemFs.target_of.Given as goal

abbrev pub invariant-loop-name : goal.invariant-loop-name
invariant-loop-name l = LeadsToTarget l.self (take (length l.yielded) (segments l.path.bytes)) (Ok l.target)
