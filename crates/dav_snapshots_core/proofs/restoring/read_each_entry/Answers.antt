use Rattle.std.proofs.lemmas.Result.{err_from_is_err_and}
use Rattle.dav_snapshots_core.specs.SnapshotReading.{entry_step, repeat_at, standing}
use Rattle.dav_snapshots_core.proofs.RepeatLemmas.{fails, goes_on, is_done}
use Rattle.dav_snapshots_core.proofs.restoring.read_each_entry.Goals as goal

pub returns-in_err-left : goal.returns-in_err-left
returns-in_err-left c =
    let p = err_from_is_err_and c.from_residual.result c.from_residual.ensures.1 in
    rw (p.1, p.2) (fails entry_step c.in_err-left.field-0.0 c.args.count c.reading.counter (standing c.reading.before.items c.reading.bodies.now c.reading.stores) c.reading.rest.now
    (repeat_at entry_step c.args.count (standing c.args.before.now.items c.args.bodies.now c.args.stores.now) c.args.bytes.now) c.reading-test.true c.in_err-left.ensures c.reading.invariant)

pub reading-preserved : goal.reading-preserved
reading-preserved c = goes_on entry_step c.args.count c.reading.counter (standing c.reading.before.items c.reading.bodies.now c.reading.stores)
    (standing c.read_one_entry.new.before.items c.in_ok-left.left.now c.read_one_entry.new.stores) c.reading.rest.now c.in_ok-left.behind.now
    (repeat_at entry_step c.args.count (standing c.args.before.now.items c.args.bodies.now c.args.stores.now) c.args.bytes.now) c.reading-test.true c.in_ok-left.ensures c.reading.invariant

pub returns : goal.returns
returns c = is_done entry_step c.args.count c.reading.counter (standing c.reading.before.items c.reading.bodies.now c.reading.stores) c.reading.rest.now
    (repeat_at entry_step c.args.count (standing c.args.before.now.items c.args.bodies.now c.args.stores.now) c.args.bytes.now) c.reading-test.false c.reading.invariant
