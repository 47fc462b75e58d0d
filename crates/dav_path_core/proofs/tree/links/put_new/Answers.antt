use Rattle.std.proofs.Common.{◌∙◌, ap, Some}
use Rattle.dav_path_core.specs.Private.Nodes.{node_numbered, with_node_at, put_before, new_node}
use Rattle.dav_path_core.proofs.tree.links.put_new.Goals as goal

pub returns-clause-ok : goal.returns-clause-ok
returns-clause-ok g c =
    c.put_before.ensures
    ∙ ap (λ at. put_before at c.args.parent c.args.id c.first_of-first.result) c.in_ok-put_in.ensures.ok
    ∙ ap (λ o. put_before (with_node_at (node_numbered c.args.nodes.now.entries) c.args.id (Some (new_node c.args.parent c.args.key c.args.item o))) c.args.parent c.args.id o) c.first_of-first.ensures
