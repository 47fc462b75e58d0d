use Rattle.std.proofs.Common.{◌≡◌, codes, map, subst}
use Rattle.std.specs.Prelude.{OnOk}
use Rattle.dav_files_core.specs.Properties.{patch_update}
use Rattle.dav_xml_core.specs.Views.{writing_of}
use Rattle.dav_xml_core.specs.Writing.{Writing}
use Rattle.dav_documents_core.specs.PatchBodies.{names_nodes}
use Rattle.dav_documents_core.proofs.WritingLemmas.{in_element}
use Rattle.dav_documents_core.proofs.patch_bodies.write_prop.Goals as goal

pub returns : goal.returns
returns c =
    subst (λ (w : Writing). OnOk c.end.result (writing_of c.end.new.self ≡ w))
    (in_element (codes "prop") (names_nodes c.args.protected (map patch_update c.args.updates.now)) (writing_of c.args.writer.now) (writing_of c.begin.new.writer)
    (writing_of c.write_names.new.writer) c.in_ok-begin.ensures c.in_ok-write_names.ensures)
    c.end.ensures
