use Rattle.std.proofs.Common.{◌≡◌, ◌∙◌, ap, sym, Some}
use Rattle.std.specs.Option.{option_map}
use Rattle.dav_path_core.specs.Keyed.{parent_and_key_of}
use Rattle.dav_path_core.specs.TreeValue.{links_after}
use Rattle.dav_path_core.specs.View.{entry_of, links_of}
use Rattle.dav_path_core.specs.Private.Nodes.{node_numbered, previous_of, first_in, closed_up, with_parent_and_key, put_before}
use Rattle.dav_path_core.proofs.children.Hanging.{with_parent-same_key, closed_up-entry}
use Rattle.dav_path_core.proofs.tree.links.hang.Goals as goal

pub returns : goal.returns
returns g c = λ x r k here parent_and_key.
    let at0 = node_numbered c.args.nodes.now.entries in
    let closed : node_numbered c.close_up.new.nodes.entries ≡ closed_up at0 c.args.above x.previous_sibling x.next_sibling =
    c.close_up.ensures
    ∙ ap (λ w. closed_up at0 c.args.above w.0 w.1) c.neighbours-before.ensures
    ∙ ap (λ o. closed_up at0 c.args.above (previous_of o) (links_after (option_map links_of o))) (sym here) in
    let at_parent_and_key : parent_and_key_of (option_map entry_of (node_numbered c.close_up.new.nodes.entries c.args.id)) ≡ Some (r, k) =
    ap (λ at. parent_and_key_of (option_map entry_of (at c.args.id))) closed
    ∙ ap parent_and_key_of (closed_up-entry at0 c.args.above x.previous_sibling x.next_sibling c.args.id)
    ∙ ap (λ o. parent_and_key_of (option_map entry_of o)) (sym here) ∙ parent_and_key in
    c.put_before.ensures
    ∙ ap (λ at. put_before at c.args.parent c.args.id c.first_of-first.result) (c.set_parent.ensures ∙ with_parent-same_key (node_numbered c.close_up.new.nodes.entries) c.args.id c.args.parent r k c.first_of-first.result at_parent_and_key)
    ∙ ap (λ o. put_before (with_parent_and_key (node_numbered c.close_up.new.nodes.entries) c.args.id c.args.parent k o) c.args.parent c.args.id o) c.first_of-first.ensures
    ∙ ap (λ at. put_before (with_parent_and_key at c.args.id c.args.parent k (first_in at c.args.parent)) c.args.parent c.args.id (first_in at c.args.parent)) closed
