use Rattle.dav_path_core.specs.TreeValue.{after}
use Rattle.dav_path_core.proofs.children.Walks.{left}
use Rattle.dav_path_core.proofs.children.Listings.{Gathered}
use Rattle.dav_path_core.proofs.tree.Tree.get_children.Given as goal

abbrev pub invariant-loop-at : goal.invariant-loop-at
invariant-loop-at g l = Gathered g.K.PartialEq.eq l.self l.fn.parent l.at l.pairs.items

abbrev pub decreases-loop-at : goal.decreases-loop-at
decreases-loop-at g l = left (after l.self) l.self.keyed.next l.at
