use Rattle.std.proofs.Common.{◌∙◌}
use Rattle.dav_path_core.proofs.trees.Refusals.{has_child-first}
use Rattle.dav_path_core.proofs.tree.Tree.has_child.Goals as goal

pub returns : goal.returns
returns g c = c.is_some.ensures ∙ has_child-first c.args.self.now.keyed c.args.id c.first_below.result c.first_below.ensures
