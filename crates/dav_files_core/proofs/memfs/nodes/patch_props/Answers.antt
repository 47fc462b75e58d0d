use Rattle.std.proofs.Common.{map}
use Rattle.dav_files_core.specs.Properties.{patch_update, patched_properties}
use Rattle.dav_files_core.proofs.walks.TreeWordLemmas.{set_ok, set_err, patched_ok, patched_err}
use Rattle.dav_path_core.proofs.index.IndexLemmas.{IsIndex-with_item}
use Rattle.dav_files_core.proofs.memfs.nodes.patch_props.Goals as goal

pub returns-clause-ok : goal.returns-clause-ok
returns-clause-ok c =
    let patch = map patch_update c.args.patch.items in
    set_ok c.args.tree.now.keyed c.args.id c.in_ok-node.node.now _ (λ n. record n { props = patched_properties n.props patch }) c.in_ok-node.ensures.value c.patch.result
    (patched_ok _ c.in_ok-node.node.now c.node.view_is c.patch.new.self patch c.patch.result c.patch.ensures.ok)

pub returns-clause-err : goal.returns-clause-err
returns-clause-err c =
    set_err c.args.tree.now.keyed c.args.id c.in_ok-node.node.now _ c.in_ok-node.ensures.value c.patch.result
    (patched_err _ c.in_ok-node.node.now c.node.view_is c.patch.new.self (map patch_update c.args.patch.items) _ c.patch.result c.patch.ensures.answer c.patch.ensures.err)

pub returns-clause-indexed : goal.returns-clause-indexed
returns-clause-indexed c = IsIndex-with_item c.args.tree.now.keyed c.get_node_mut.ensures.shape.tree c.args.id _
