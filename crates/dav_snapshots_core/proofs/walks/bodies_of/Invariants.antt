use Rattle.std.proofs.Common.{◌≡◌, take, map}
use Rattle.std.specs.List.{flat_map}
use Rattle.dav_snapshots_core.specs.Snapshots.{snapshot_entry}
use Rattle.dav_snapshots_core.proofs.walks.bodies_of.Given as goal

abbrev pub invariant-adding : goal.invariant-adding
invariant-adding l = flat_map (λ b. b) l.bodies.items ≡ flat_map (λ e. e.bytes) (map snapshot_entry (take l.stored-index l.all))
