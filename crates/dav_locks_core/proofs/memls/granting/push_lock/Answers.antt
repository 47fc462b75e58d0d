use Rattle.dav_locks_core.proofs.trees.GrowingLemmas.{same_after}
use Rattle.dav_path_core.proofs.index.IndexLemmas.{IsIndex-with_item}
use Rattle.dav_locks_core.proofs.memls.granting.push_lock.Goals as goal

pub returns-clause-unchanged : goal.returns-clause-unchanged
returns-clause-unchanged c =
    same_after c.args.tree.now.keyed c.args.node c.in-Ok.node_locks.now c.node_locks.inside.locks.items c.push_in.new.locks.items c.push_in.result
    c.in-Ok.ensures.value c.node_locks.view_is c.push_in.ensures.unchanged

pub returns-clause-indexed : goal.returns-clause-indexed
returns-clause-indexed c = IsIndex-with_item c.args.tree.now.keyed c.get_node_mut.ensures.shape.tree c.args.node _
