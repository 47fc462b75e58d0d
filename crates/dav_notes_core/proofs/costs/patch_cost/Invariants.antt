use Rattle.std.proofs.Common.{◌≡◌, take, map}
use Rattle.dav_files_core.specs.Properties.{patch_update}
use Rattle.dav_notes_core.specs.Costs.{in_eight_bytes, patch_cost}
use Rattle.dav_notes_core.proofs.costs.patch_cost.Given as goal

abbrev pub invariant-adding : goal.invariant-adding
invariant-adding l = l.sum ≡ in_eight_bytes (patch_cost (map patch_update (take l.update-index l.patch)))
