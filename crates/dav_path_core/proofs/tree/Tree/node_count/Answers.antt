use Rattle.std.proofs.Common.{sym, ap, ◌∙◌}
use Rattle.std.specs.FinMap.{len}
use Rattle.dav_path_core.proofs.children.Links.{shape_of}
use Rattle.dav_path_core.proofs.trees.Counting.{count-view}
use Rattle.dav_path_core.proofs.tree.Tree.node_count.Goals as goal

pub returns-clause-count : goal.returns-clause-count
returns-clause-count g c =
    c.len.ensures.len ∙ sym (count-view c.self.inside.nodes.entries c.self.inside.next c.len.ensures.unique) ∙ ap (λ t. len t.keyed.nodes) c.self.view_is

pub returns-clause-shape : goal.returns-clause-shape
returns-clause-shape g c = shape_of c.self.invariant c.self.view_is
