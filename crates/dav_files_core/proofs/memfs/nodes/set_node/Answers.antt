use Rattle.std.proofs.Common.{refl}
use Rattle.dav_files_core.proofs.walks.TreeWordLemmas.{set}
use Rattle.dav_path_core.proofs.index.IndexLemmas.{IsIndex-with_item}
use Rattle.dav_files_core.proofs.memfs.nodes.set_node.Goals as goal

pub returns-clause-set : goal.returns-clause-set
returns-clause-set c = set c.args.tree.now.keyed c.args.id c.in_ok-old.old.now c.args.node (λ _. c.args.node) c.in_ok-old.ensures.value refl

pub returns-clause-indexed : goal.returns-clause-indexed
returns-clause-indexed c = IsIndex-with_item c.args.tree.now.keyed c.get_node_mut.ensures.shape.tree c.args.id _
