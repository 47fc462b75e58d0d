use Rattle.std.proofs.Common.{ap, sym, ◌∙◌, None}
use Rattle.std.specs.Option.{option_map}
use Rattle.dav_path_core.specs.Keyed.{parent_and_key, parent_and_key_of}
use Rattle.dav_path_core.proofs.children.Views.{entry-view}
use Rattle.dav_path_core.proofs.children.Links.{parent_and_key-told}
use Rattle.dav_path_core.proofs.tree.Tree.place_of.Goals as goal

pub returns-in_err-parent : goal.returns-in_err-parent
returns-in_err-parent g c =
    ap (option_map (λ q. (q.0, q.1.now))) c.from_residual.ensures
    ∙ sym (ap (λ t. parent_and_key t.keyed c.args.id) (sym c.self.view_is) ∙ ap parent_and_key_of (entry-view c.self.inside.nodes.entries c.self.inside.next c.args.id None c.in_err-parent.ensures.value))

pub returns-in-Some : goal.returns-in-Some
returns-in-Some g c =
    sym (parent_and_key-told c.self.inside.nodes.entries c.self.inside.next c.args.self.now c.self.view_is c.args.id c.in_ok-parent.field-0.now c.in_ok-parent.ensures.value ∙ c.in-Some.is)

pub returns-in-None : goal.returns-in-None
returns-in-None g c =
    sym (parent_and_key-told c.self.inside.nodes.entries c.self.inside.next c.args.self.now c.self.view_is c.args.id c.in_ok-parent.field-0.now c.in_ok-parent.ensures.value ∙ c.in-None.is)
