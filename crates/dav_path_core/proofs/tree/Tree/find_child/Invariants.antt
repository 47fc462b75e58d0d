use Rattle.std.proofs.Common.{false}
use Rattle.std.specs.Fn.{FnReturnsAt}
use Rattle.dav_path_core.specs.TreeValue.{after}
use Rattle.dav_path_core.proofs.children.Walks.{Searched, left}
use Rattle.dav_path_core.proofs.tree.Tree.find_child.Given as goal

abbrev pub invariant-loop-at : goal.invariant-loop-at
invariant-loop-at g l = Searched l.self l.fn.parent (λ k. FnReturnsAt g.F.Fn l.same k false) l.at

abbrev pub decreases-loop-at : goal.decreases-loop-at
decreases-loop-at g l = left (after l.self) l.self.keyed.next l.at
