use Rattle.std.proofs.Common.{ap, sym, ◌∙◌, is_some}
use Rattle.dav_path_core.specs.Keyed.{entry}
use Rattle.dav_path_core.proofs.children.Views.{known-view}
use Rattle.dav_path_core.proofs.children.Links.{shape_of}
use Rattle.dav_path_core.proofs.tree.Tree.is_known.Goals as goal

pub returns-clause-known : goal.returns-clause-known
returns-clause-known g c = c.contains_key.ensures ∙ sym (known-view c.self.inside.nodes.entries c.self.inside.next c.args.id) ∙ ap (λ t. is_some (entry t.keyed c.args.id)) c.self.view_is

pub returns-clause-shape : goal.returns-clause-shape
returns-clause-shape g c = shape_of c.self.invariant c.self.view_is
