use Rattle.std.proofs.Common.{◌≡◌, ◌-◌}
use Rattle.dav_snapshots_core.specs.SnapshotReading.{lock_step, repeat_at, standing}
use Rattle.dav_snapshots_core.proofs.restoring.read_each_lock.Given as goal

abbrev pub invariant-reading : goal.invariant-reading
invariant-reading l = repeat_at lock_step (l.count - l.counter) (standing l.before.items l.bodies l.stores) l.rest ≡ repeat_at lock_step l.count (standing l.fn.before.items l.bodies l.fn.stores) l.bytes
