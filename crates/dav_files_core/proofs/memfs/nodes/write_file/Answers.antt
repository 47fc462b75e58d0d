use Rattle.std.proofs.Common.{ap}
use Rattle.dav_files_core.specs.Resources.{Node}
use Rattle.dav_files_core.proofs.walks.TreeWordLemmas.{written}
use Rattle.dav_path_core.proofs.index.IndexLemmas.{IsIndex-with_item}
use Rattle.dav_files_core.proofs.memfs.nodes.write_file.Goals as goal

pub returns-clause-set : goal.returns-clause-set
returns-clause-set c =
    written c.args.tree.now.keyed c.args.id c.in_ok-node.node.now _ c.args.content c.args.now.0 c.in_ok-node.ensures.value (ap (λ (n : Node). record n { bytes = c.args.content; modified = c.args.now.0 }) c.node.view_is)

pub returns-clause-indexed : goal.returns-clause-indexed
returns-clause-indexed c = IsIndex-with_item c.args.tree.now.keyed c.get_node_mut.ensures.shape.tree c.args.id _
