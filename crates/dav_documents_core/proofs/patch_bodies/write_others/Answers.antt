use Rattle.std.proofs.Common.{◌≡◌, false, ◌++◌, codes, map, subst}
use Rattle.std.specs.Prelude.{OnOk}
use Rattle.dav_files_core.specs.Properties.{patch_update}
use Rattle.dav_xml_core.specs.Views.{writing_of}
use Rattle.dav_xml_core.specs.Writing.{Writing}
use Rattle.dav_documents_core.specs.PatchBodies.{prop_nodes, status_nodes}
use Rattle.dav_documents_core.proofs.WritingLemmas.{in_element, one_after}
use Rattle.dav_documents_core.proofs.patch_bodies.write_others.Goals as goal

pub returns : goal.returns
returns c =
    let prop = prop_nodes false (map patch_update c.args.updates.now) in
    let status = status_nodes c.args.status.now in
    subst (λ (w : Writing). OnOk c.end.result (writing_of c.end.new.self ≡ w))
    (in_element (codes "propstat") (prop ++ status) (writing_of c.args.writer.now) (writing_of c.begin.new.writer) (writing_of c.write_text.new.writer) c.in_ok-begin.ensures
    (one_after prop status (writing_of c.begin.new.writer) (writing_of c.write_prop.new.writer) (writing_of c.write_text.new.writer) c.in_ok-write_prop.ensures
    c.in_ok-write_text.ensures))
    c.end.ensures
