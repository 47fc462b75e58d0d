use Rattle.std.specs.BTreeMap.{btree_map_len}
use Rattle.dav_path_core.specs.ChildIndex.{IsIndex}
use Rattle.dav_locks_core.proofs.ends.ExpiringLemmas.{Thins}
use Rattle.dav_locks_core.proofs.memls.expiring.end_stale.Given as goal

abbrev pub invariant-loop-number : goal.invariant-loop-number
invariant-loop-number l = Thins l.fn.tree.keyed l.tree.keyed l.fn.ends l.ends l.fn.now.0 × IsIndex l.tree.keyed l.index

abbrev pub decreases-loop-number : goal.decreases-loop-number
decreases-loop-number l = btree_map_len l.ends.by_end
