use Rattle.std.proofs.Common.{ap, sym, ◌∙◌, None}
use Rattle.std.specs.Option.{option_map}
use Rattle.dav_path_core.specs.Keyed.{parent_number, parent_and_key_of}
use Rattle.dav_path_core.proofs.children.Views.{entry-view}
use Rattle.dav_path_core.proofs.children.Links.{parent_and_key-told, shape_of}
use Rattle.dav_path_core.proofs.tree.Tree.above.Goals as goal

pub returns-in-Some-parent_and_key-clause-parent : goal.returns-in-Some-parent_and_key-clause-parent
returns-in-Some-parent_and_key-clause-parent g c = sym (ap (option_map (λ q. q.0)) (parent_and_key-told c.self.inside.nodes.entries c.self.inside.next c.args.self.now c.self.view_is c.args.id c.in-Some.node.now c.in-Some.ensures.value ∙ c.in-Some-parent_and_key.is))

pub returns-in-None-parent_and_key-clause-parent : goal.returns-in-None-parent_and_key-clause-parent
returns-in-None-parent_and_key-clause-parent g c = sym (ap (option_map (λ q. q.0)) (parent_and_key-told c.self.inside.nodes.entries c.self.inside.next c.args.self.now c.self.view_is c.args.id c.in-Some.node.now c.in-Some.ensures.value ∙ c.in-None-parent_and_key.is))

pub returns-in-None-clause-parent : goal.returns-in-None-clause-parent
returns-in-None-clause-parent g c = sym (ap (λ t. parent_number t.keyed c.args.id) (sym c.self.view_is) ∙ ap (λ o. option_map (λ q. q.0) (parent_and_key_of o)) (entry-view c.self.inside.nodes.entries c.self.inside.next c.args.id None c.in-None.ensures.value))

pub returns-in-Some-parent_and_key-clause-shape : goal.returns-in-Some-parent_and_key-clause-shape
returns-in-Some-parent_and_key-clause-shape g c = shape_of c.self.invariant c.self.view_is

pub returns-in-None-parent_and_key-clause-shape : goal.returns-in-None-parent_and_key-clause-shape
returns-in-None-parent_and_key-clause-shape g c = shape_of c.self.invariant c.self.view_is

pub returns-in-None-clause-shape : goal.returns-in-None-clause-shape
returns-in-None-clause-shape g c = shape_of c.self.invariant c.self.view_is
