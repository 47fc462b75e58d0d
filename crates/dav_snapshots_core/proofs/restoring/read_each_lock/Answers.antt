use Rattle.std.proofs.lemmas.Result.{err_from_is_err_and}
use Rattle.dav_snapshots_core.specs.SnapshotReading.{lock_step, repeat_at, standing}
use Rattle.dav_snapshots_core.proofs.RepeatLemmas.{fails, goes_on, is_done}
use Rattle.dav_snapshots_core.proofs.restoring.read_each_lock.Goals as goal

pub returns-in_err-behind : goal.returns-in_err-behind
returns-in_err-behind c =
    let p = err_from_is_err_and c.from_residual.result c.from_residual.ensures.1 in
    rw (p.1, p.2) (fails lock_step c.in_err-behind.field-0.0 c.args.count c.reading.counter (standing c.reading.before.items c.args.bodies.now c.reading.stores) c.reading.rest.now
    (repeat_at lock_step c.args.count (standing c.args.before.now.items c.args.bodies.now c.args.stores.now) c.args.bytes.now) c.reading-test.true c.in_err-behind.ensures c.reading.invariant)

pub reading-preserved : goal.reading-preserved
reading-preserved c = goes_on lock_step c.args.count c.reading.counter (standing c.reading.before.items c.args.bodies.now c.reading.stores)
    (standing c.read_one_lock.new.before.items c.args.bodies.now c.read_one_lock.new.stores) c.reading.rest.now c.in_ok-behind.behind.now
    (repeat_at lock_step c.args.count (standing c.args.before.now.items c.args.bodies.now c.args.stores.now) c.args.bytes.now) c.reading-test.true c.in_ok-behind.ensures c.reading.invariant

pub returns : goal.returns
returns c = is_done lock_step c.args.count c.reading.counter (standing c.reading.before.items c.args.bodies.now c.reading.stores) c.reading.rest.now
    (repeat_at lock_step c.args.count (standing c.args.before.now.items c.args.bodies.now c.args.stores.now) c.args.bytes.now) c.reading-test.false c.reading.invariant
