use Rattle.std.proofs.Common.{◌≡◌, ◌-◌}
use Rattle.dav_snapshots_core.specs.SnapshotReading.{entry_step, repeat_at, standing}
use Rattle.dav_snapshots_core.proofs.restoring.read_each_entry.Given as goal

abbrev pub invariant-reading : goal.invariant-reading
invariant-reading l = repeat_at entry_step (l.count - l.counter) (standing l.before.items l.bodies l.stores) l.rest ≡ repeat_at entry_step l.count (standing l.fn.before.items l.fn.bodies l.fn.stores) l.bytes
