use Rattle.std.proofs.Common.{◌≡◌, ◌++◌}
use Rattle.dav_path_core.specs.Segments.{segments}
use Rattle.dav_locks_core.specs.Private.LockTree.{covering_down}
use Rattle.dav_locks_core.proofs.memls.way.covering_locks.Given as goal

-- the copies so far, and those that the rest of the way gives
abbrev pub invariant-loop-segment : goal.invariant-loop-segment
invariant-loop-segment l =
    covering_down l.tree.keyed 1 (segments l.path.bytes) ≡ l.covering.items ++ covering_down l.tree.keyed l.node (segments l.segment-iterator)
