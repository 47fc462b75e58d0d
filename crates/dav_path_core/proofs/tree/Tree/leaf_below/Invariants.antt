use Rattle.dav_path_core.proofs.trees.Cutting.{Descent}
use Rattle.dav_path_core.proofs.tree.Tree.leaf_below.Given as goal

abbrev pub invariant-loop-turn : goal.invariant-loop-turn
invariant-loop-turn g l = Descent l.self.keyed l.fn.id l.at l._turn
