use Rattle.dav_snapshots_core.proofs.SetBackLemmas.{is_free}
use Rattle.dav_snapshots_core.proofs.setting_back.restore_locks.Goals as goal

pub restore_lock-requires : goal.restore_lock-requires
restore_lock-requires c =
    let free = is_free c.args.from c.args.locks.now c.restoring.lock-index c.lock-item.result c.restoring-test.true c.lock-item.is c.requires.apart in
    rw (c.in_ok-again.ensures, c.restoring.invariant.locks) free
