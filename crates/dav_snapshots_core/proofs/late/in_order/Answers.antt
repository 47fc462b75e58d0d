use Rattle.dav_snapshots_core.proofs.LateLemmas.{each_in_order}
use Rattle.dav_snapshots_core.proofs.late.in_order.Goals as goal

pub returns : goal.returns
returns c = each_in_order c.args.moments.items c.sort_unstable.new.self.items c.dedup.new.self.items c.sort_unstable.ensures.permutation c.sort_unstable.ensures.sorted c.dedup.ensures.filtered
