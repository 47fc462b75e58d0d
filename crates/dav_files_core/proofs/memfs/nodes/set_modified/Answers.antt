use Rattle.std.proofs.Common.{ap}
use Rattle.dav_files_core.specs.Resources.{Node}
use Rattle.dav_files_core.proofs.walks.TreeWordLemmas.{set}
use Rattle.dav_path_core.proofs.index.IndexLemmas.{IsIndex-with_item}
use Rattle.dav_files_core.proofs.memfs.nodes.set_modified.Goals as goal

pub returns-clause-set : goal.returns-clause-set
returns-clause-set c =
    set c.args.tree.now.keyed c.args.id c.in_ok-node.node.now _ (λ n. record n { modified = c.args.now.0 }) c.in_ok-node.ensures.value (ap (λ (n : Node). record n { modified = c.args.now.0 }) c.node.view_is)

pub returns-clause-indexed : goal.returns-clause-indexed
returns-clause-indexed c = IsIndex-with_item c.args.tree.now.keyed c.get_node_mut.ensures.shape.tree c.args.id _
