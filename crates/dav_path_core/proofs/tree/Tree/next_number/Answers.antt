use Rattle.dav_path_core.proofs.children.Links.{shape_of}
use Rattle.dav_path_core.proofs.tree.Tree.next_number.Goals as goal

pub returns-clause-shape : goal.returns-clause-shape
returns-clause-shape g c = shape_of c.self.invariant c.self.view_is
