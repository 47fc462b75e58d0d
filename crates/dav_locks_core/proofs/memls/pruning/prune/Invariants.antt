use Rattle.dav_path_core.proofs.trees.Cutting.{known_below}
use Rattle.dav_path_core.specs.ChildIndex.{IsIndex}
use Rattle.dav_locks_core.proofs.trees.PruningLemmas.{PrunesTo}
use Rattle.dav_locks_core.proofs.memls.pruning.prune.Given as goal

abbrev pub invariant-loop-parent : goal.invariant-loop-parent
invariant-loop-parent l = PrunesTo l.fn.tree.keyed l.tree.keyed l.node × IsIndex l.tree.keyed l.index

abbrev pub decreases-loop-parent : goal.decreases-loop-parent
decreases-loop-parent l = known_below l.tree.keyed l.tree.keyed.next
