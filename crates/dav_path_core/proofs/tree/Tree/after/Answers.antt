use Rattle.std.proofs.Common.{ap, sym, ◌∙◌}
use Rattle.std.specs.Option.{option_map}
use Rattle.dav_path_core.specs.TreeValue.{after, links_after}
use Rattle.dav_path_core.specs.View.{links_of}
use Rattle.dav_path_core.proofs.children.Links.{after-told, after-view}
use Rattle.dav_path_core.proofs.tree.Tree.after.Goals as goal

pub returns-in-Some : goal.returns-in-Some
returns-in-Some g c = sym (after-told c.self.inside.nodes.entries c.self.inside.next c.args.self.now c.self.view_is c.args.id c.in-Some.node.now c.in-Some.ensures.value)

pub returns-in-None : goal.returns-in-None
returns-in-None g c =
    sym (ap (λ t. after t c.args.id) (sym c.self.view_is) ∙ ap (λ f. f c.args.id) (after-view c.self.inside.nodes.entries c.self.inside.next) ∙ ap (λ o. links_after (option_map links_of o)) (sym c.in-None.ensures.value))
