use Rattle.dav_snapshots_core.proofs.LateLemmas.{late_more}
use Rattle.dav_snapshots_core.proofs.late.all_late.Goals as goal

pub adding-preserved : goal.adding-preserved
adding-preserved c = late_more c.args.from c.args.last c.args.all.now c.adding.stored-index c.stored-item.result c.adding.moments.items c.add_both.new.moments.items
    c.adding-test.true c.stored-item.is c.adding.invariant c.in_ok-add_both.ensures
