use Rattle.std.proofs.Common.{ap, sym, ◌∙◌, refl, Some, None}
use Rattle.std.specs.Option.{option_map}
use Rattle.dav_path_core.specs.Keyed.{item}
use Rattle.dav_path_core.proofs.children.Views.{entry-view}
use Rattle.dav_path_core.proofs.children.Links.{shape_of}
use Rattle.dav_path_core.proofs.tree.Tree.get_node.Goals as goal

pub returns-in-Some-clause-answer : goal.returns-in-Some-clause-answer
returns-in-Some-clause-answer g c =
    ap (λ t. item t.keyed c.args.id) (sym c.self.view_is)
    ∙ ap (option_map (λ e. e.item)) (entry-view c.self.inside.nodes.entries c.self.inside.next c.args.id (Some c.in-Some.node.now) c.in-Some.ensures.value)

pub returns-in-None-clause-answer : goal.returns-in-None-clause-answer
returns-in-None-clause-answer g c = (
  refl,
  ap (λ t. item t.keyed c.args.id) (sym c.self.view_is)
      ∙ ap (option_map (λ e. e.item)) (entry-view c.self.inside.nodes.entries c.self.inside.next c.args.id None c.in-None.ensures.value),
)

pub returns-in-Some-clause-shape : goal.returns-in-Some-clause-shape
returns-in-Some-clause-shape g c = shape_of c.self.invariant c.self.view_is

pub returns-in-None-clause-shape : goal.returns-in-None-clause-shape
returns-in-None-clause-shape g c = shape_of c.self.invariant c.self.view_is
