use Rattle.std.proofs.Common.{◌≡◌, is_some, None, ap, sym, ◌∙◌}
use Rattle.std.specs.Option.{option_map}
use Rattle.std.proofs.lemmas.Bool.{false≢true}
use Rattle.dav_path_core.specs.Keyed.{entry, parent_and_key_of}
use Rattle.dav_path_core.proofs.children.Views.{entry-view}
use Rattle.dav_path_core.proofs.children.Links.{after-told, parent_and_key-told}
use Rattle.dav_path_core.proofs.children.Walks.{child_here}
use Rattle.dav_path_core.proofs.tree.Tree.child_at.Goals as goal

pub unreachable-requires : goal.unreachable-requires
unreachable-requires g c =
    let gone : entry c.args.self.now.keyed c.args.id ≡ None = ap (λ t. entry t.keyed c.args.id) (sym c.self.view_is) ∙ entry-view c.self.inside.nodes.entries c.self.inside.next c.args.id None c.in_default.ensures.value in
    false≢true (ap (λ o. is_some (option_map (λ q. q.0) (parent_and_key_of o))) (sym gone) ∙ c.requires)

pub unreachable-requires-in_default-parent_and_key : goal.unreachable-requires-in_default-parent_and_key
unreachable-requires-in_default-parent_and_key g c =
    false≢true (ap (λ o. is_some (option_map (λ q. q.0) o)) (sym (parent_and_key-told c.self.inside.nodes.entries c.self.inside.next c.args.self.now c.self.view_is c.args.id c.in-Some.node.now c.in-Some.ensures.value ∙ c.in_default-parent_and_key.is)) ∙ c.requires)

pub returns-clause-key : goal.returns-clause-key
returns-clause-key g c = λ p e. child_here c.args.self.now.keyed c.args.id p c.in-Some-parent_and_key._above c.in-Some-parent_and_key.name e
    (parent_and_key-told c.self.inside.nodes.entries c.self.inside.next c.args.self.now c.self.view_is c.args.id c.in-Some.node.now c.in-Some.ensures.value ∙ c.in-Some-parent_and_key.is)

pub returns-clause-after : goal.returns-clause-after
returns-clause-after g c = sym (after-told c.self.inside.nodes.entries c.self.inside.next c.args.self.now c.self.view_is c.args.id c.in-Some.node.now c.in-Some.ensures.value)
