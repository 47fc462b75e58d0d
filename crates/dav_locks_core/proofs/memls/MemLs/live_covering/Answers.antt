use Rattle.std.proofs.Common.{ap, ◌∙◌}
use Rattle.dav_path_core.specs.Segments.{segments}
use Rattle.dav_locks_core.specs.Stale.{without_stale}
use Rattle.dav_locks_core.proofs.laws.DiscoveredLemmas.{discovered_live}
use Rattle.dav_locks_core.proofs.memls.MemLs.live_covering.Goals as goal

pub returns-clause-copies : goal.returns-clause-copies
returns-clause-copies c =
    c.drop_stale_copies.ensures ∙ ap (without_stale c.args.now.0) c.in_ok-locks.ensures.copies
    ∙ discovered_live c.args.now.0 c.args.self.now (segments c.args.path.now.bytes)
