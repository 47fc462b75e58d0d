use Rattle.std.proofs.Common.{◌≡◌, ◌-◌, map}
use Rattle.dav_files_core.specs.Properties.{property_of}
use Rattle.dav_effects_core.specs.ByteForms.{times_at}
use Rattle.dav_effects_core.specs.RecordReading.{property_at}
use Rattle.dav_effects_core.proofs.Loops.{with_front}
use Rattle.dav_snapshots_core.proofs.properties.so_many_properties.Given as goal

abbrev pub invariant-reading : goal.invariant-reading
invariant-reading l = with_front (map property_of l.props.items) (times_at property_at (l.count - l.counter) l.rest) ≡ times_at property_at l.count l.bytes
