use Rattle.std.proofs.Common.{rules, ◌≡◌, eqb, length, false}
use Rattle.std.proofs.lemmas.Result.{err_from_is_err_and}
use Rattle.dav_snapshots_core.specs.SnapshotReading.{standing}
use Rattle.dav_snapshots_core.proofs.HeadLemmas.{head_fails, head_left}
use Rattle.dav_snapshots_core.proofs.reading.read_head.Goals as goal

pub returns-in_err-rest : goal.returns-in_err-rest
returns-in_err-rest c =
    let p = err_from_is_err_and c.from_residual-in_err-rest.result c.from_residual-in_err-rest.ensures.1 in
    rw (p.1, p.2) (head_fails c.args.bodies.now c.args.head.now c.in_ok-now.rest.now c.in_ok-next.rest.now c.in_ok-bodies.rest.now c.new-before.result.items c.read_entries.new.before.items c.in_ok-bodies.bodies.now
    c.clear.new.self.items c.in_ok-now.now c.in_ok-next.next c.in_ok-stores.stores c.read_entries.new.stores c.raise_next_number.new.self c.new-before.ensures.items c.in_ok-stores.ensures c.clear.ensures.items
    c.raise_next_number.ensures.raised c.raise_next_number.ensures.locks c.in_ok-now.ensures c.in_ok-next.ensures c.in_ok-bodies.ensures c.in_err-rest.field-0.0 c.in_err-rest.ensures)

pub returns-then-not-is_empty : goal.returns-then-not-is_empty
returns-then-not-is_empty c =
    let more : eqb (length c.in_ok-rest.rest.now) 0 ≡ false = search rules in
    head_left c.args.bodies.now c.args.head.now c.in_ok-now.rest.now c.in_ok-next.rest.now c.in_ok-bodies.rest.now c.new-before.result.items c.read_entries.new.before.items c.in_ok-bodies.bodies.now
    c.clear.new.self.items c.in_ok-now.now c.in_ok-next.next c.in_ok-stores.stores c.read_entries.new.stores c.raise_next_number.new.self c.new-before.ensures.items c.in_ok-stores.ensures c.clear.ensures.items
    c.raise_next_number.ensures.raised c.raise_next_number.ensures.locks c.in_ok-now.ensures c.in_ok-next.ensures c.in_ok-bodies.ensures
    (standing c.read_locks.new.before.items c.in_ok-bodies.bodies.now c.read_locks.new.stores) c.in_ok-rest.rest.now c.in_ok-rest.ensures more
