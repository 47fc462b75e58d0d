use Rattle.std.proofs.Common.{◌≡◌, drop, map}
use Rattle.dav_files_core.specs.Properties.{patch_update}
use Rattle.dav_xml_core.specs.Views.{writing_of}
use Rattle.dav_xml_core.specs.Writing.{with_nodes}
use Rattle.dav_documents_core.specs.PatchBodies.{names_nodes}
use Rattle.dav_documents_core.proofs.patch_bodies.write_names.Given as goal

abbrev pub invariant-loop-update : goal.invariant-loop-update
invariant-loop-update l =
    with_nodes (writing_of l.writer) (names_nodes l.protected (map patch_update (drop l.update-index l.updates)))
    ≡ with_nodes (writing_of l.fn.writer) (names_nodes l.protected (map patch_update l.updates))
