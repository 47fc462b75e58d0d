use Rattle.std.proofs.Common.{◌≡◌}
use Rattle.dav_path_core.specs.Segments.{segments}
use Rattle.dav_locks_core.specs.Private.LockTree.{lookup_lock}
use Rattle.dav_locks_core.proofs.memls.way.lookup_lock_ref.Given as goal

-- nothing has passed so far
abbrev pub invariant-loop-segment : goal.invariant-loop-segment
invariant-loop-segment g l =
    lookup_lock (g.T.LockTest.test l.test) l.tree.keyed 1 (segments l.path)
    ≡ lookup_lock (g.T.LockTest.test l.test) l.tree.keyed l.node (segments l.segment-iterator)
