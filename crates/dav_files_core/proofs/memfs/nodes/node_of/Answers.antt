use Rattle.dav_files_core.proofs.walks.TreeWordLemmas.{items}
use Rattle.dav_files_core.proofs.memfs.nodes.node_of.Goals as goal

pub returns-clause-ok : goal.returns-clause-ok
returns-clause-ok c = items c.args.tree.now.keyed c.args.id c.get_node.result c.get_node.ensures.answer
