use Rattle.dav_path_core.proofs.trees.Cutting.{known_below}
use Rattle.dav_path_core.specs.ChildIndex.{IsIndex}
use Rattle.dav_locks_core.proofs.trees.ClearingLemmas.{ClearsTo}
use Rattle.dav_locks_core.proofs.memls.pruning.clear.Given as goal

abbrev pub invariant-loop-child : goal.invariant-loop-child
invariant-loop-child l = ClearsTo l.fn.tree.keyed l.tree.keyed l.fn.top × IsIndex l.tree.keyed l.index

abbrev pub decreases-loop-child : goal.decreases-loop-child
decreases-loop-child l = known_below l.tree.keyed l.tree.keyed.next
