use Rattle.std.proofs.Common.{◌≡◌, ◌-◌, map}
use Rattle.dav_effects_core.specs.ByteForms.{times_at}
use Rattle.dav_files_core.specs.Properties.{patch_update}
use Rattle.dav_effects_core.specs.RecordReading.{patch_at}
use Rattle.dav_effects_core.proofs.Loops.{with_front}
use Rattle.dav_effects_core.proofs.properties.so_many_patches.Given as goal

abbrev pub invariant-reading : goal.invariant-reading
invariant-reading l = with_front (map patch_update l.patches.items) (times_at patch_at (l.count - l.counter) l.rest) ≡ times_at patch_at l.count l.bytes
