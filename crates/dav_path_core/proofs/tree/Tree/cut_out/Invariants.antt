use Rattle.dav_path_core.specs.TreeValue.{IsTreeValue}
use Rattle.dav_path_core.proofs.trees.Cutting.{Cutting, known_below}
use Rattle.dav_path_core.proofs.tree.Tree.cut_out.Given as goal

abbrev pub invariant-loop-self : goal.invariant-loop-self
invariant-loop-self g l = IsTreeValue g.K.PartialEq.eq l.self × Cutting l.fn.self.keyed l.fn.id l.self.keyed l.at

abbrev pub decreases-loop-self : goal.decreases-loop-self
decreases-loop-self g l = known_below l.self.keyed l.self.keyed.next
