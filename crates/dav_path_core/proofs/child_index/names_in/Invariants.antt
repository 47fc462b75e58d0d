use Rattle.dav_path_core.specs.TreeValue.{after}
use Rattle.dav_path_core.proofs.children.Walks.{left}
use Rattle.dav_path_core.proofs.index.Naming.{Naming}
use Rattle.dav_path_core.proofs.child_index.names_in.Given as goal

abbrev pub invariant-loop-at : goal.invariant-loop-at
invariant-loop-at g l = Naming l.fn.tree l.fn.folder l.names l.at

abbrev pub decreases-loop-at : goal.decreases-loop-at
decreases-loop-at g l = left (after l.fn.tree) l.fn.tree.keyed.next l.at
