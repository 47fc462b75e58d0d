use Rattle.std.proofs.Common.{◌≡◌, drop, map}
use Rattle.dav_files_core.specs.Properties.{patch_update}
use Rattle.dav_documents_core.specs.PatchBodies.{all_protected}
use Rattle.dav_documents_core.proofs.patch_bodies.all_protected.Given as goal

abbrev pub invariant-loop-update : goal.invariant-loop-update
invariant-loop-update l = all_protected (map patch_update (drop l.update-index l.updates)) ≡ all_protected (map patch_update l.updates)
