use Rattle.dav_path_core.specs.ChildIndex.{IsIndex}
use Rattle.dav_path_core.specs.Segments.{segments}
use Rattle.dav_locks_core.proofs.trees.GrowingLemmas.{IsMade}
use Rattle.dav_locks_core.proofs.memls.way.get_or_create_path_node.Given as goal

abbrev pub invariant-loop-segment : goal.invariant-loop-segment
invariant-loop-segment l = IsMade l.fn.tree.keyed l.tree.keyed (segments l.path.bytes) (segments l.segment-iterator) l.node × IsIndex l.tree.keyed l.index
