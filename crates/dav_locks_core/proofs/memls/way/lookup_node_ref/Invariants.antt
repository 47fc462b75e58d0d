use Rattle.std.proofs.Common.{◌≡◌}
use Rattle.dav_path_core.specs.Segments.{segments}
use Rattle.dav_locks_core.specs.Private.LockTree.{node_below}
use Rattle.dav_locks_core.proofs.memls.way.lookup_node_ref.Given as goal

abbrev pub invariant-loop-segment : goal.invariant-loop-segment
invariant-loop-segment l = node_below l.tree.keyed 1 (segments l.path) ≡ node_below l.tree.keyed l.node (segments l.segment-iterator)
