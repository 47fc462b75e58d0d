use Rattle.std.proofs.Common.{length}
use Rattle.dav_path_core.proofs.paths.SlashedLemmas.{KeptPath}
use Rattle.dav_path_core.proofs.davpath.reading.kept_pieces.Given as goal

abbrev pub invariant-loop-piece : goal.invariant-loop-piece
invariant-loop-piece l = KeptPath l.raw l.path.items (length l.yielded)
