use Rattle.dav_path_core.specs.ChildIndex.{IsIndex}
use Rattle.dav_path_core.proofs.trees.Cutting.{Cutting, known_below}
use Rattle.dav_path_core.proofs.child_index.ChildIndex.cut_out.Given as goal

abbrev pub invariant-loop-tree : goal.invariant-loop-tree
invariant-loop-tree g l = IsIndex l.tree.keyed l.self × Cutting l.fn.tree.keyed l.fn.id l.tree.keyed l.at

abbrev pub decreases-loop-tree : goal.decreases-loop-tree
decreases-loop-tree g l = known_below l.tree.keyed l.tree.keyed.next
