use Rattle.std.proofs.Common.{sym}
use Rattle.dav_path_core.specs.Segments.{segments}
use Rattle.dav_locks_core.proofs.trees.WayLemmas.{IsFirst-from}
use Rattle.dav_locks_core.proofs.memls.way.check_locks_to_path_ref.Goals as goal

pub copy_at-requires : goal.copy_at-requires
copy_at-requires g c =
    let first = IsFirst-from (g.T.LockTest.test c.args.test.now) c.args.tree.now.keyed 1 (segments c.args.path.now) c.in-Some.node c.in-Some.place (sym c.in-Some.ensures) in
    first.within
