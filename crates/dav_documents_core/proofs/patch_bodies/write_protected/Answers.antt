use Rattle.std.proofs.Common.{◌≡◌, ◌∙◌, true, [], ◌++◌, codes, map, subst}
use Rattle.std.specs.Prelude.{OnOk}
use Rattle.dav_files_core.specs.Properties.{patch_update}
use Rattle.dav_xml_core.specs.Views.{writing_of}
use Rattle.dav_xml_core.specs.Writing.{Writing}
use Rattle.dav_documents_core.specs.PatchBodies.{prop_nodes, status_nodes}
use Rattle.dav_documents_core.specs.RefusalBodies.{element}
use Rattle.dav_documents_core.proofs.WritingLemmas.{in_element, one_after}
use Rattle.dav_documents_core.proofs.patch_bodies.write_protected.Goals as goal

pub returns : goal.returns
returns c =
    let prop = prop_nodes true (map patch_update c.args.updates.now) in
    let status = status_nodes (codes "HTTP/1.1 403 Forbidden") in
    let why = element (codes "cannot-modify-protected-property") [] in
    let names = one_after prop status (writing_of c.begin.new.writer) (writing_of c.write_prop.new.writer) (writing_of c.write_text.new.writer) c.in_ok-write_prop.ensures
    c.in_ok-write_text.ensures in
    let error = in_element (codes "error") why (writing_of c.write_text.new.writer) (writing_of c.begin-2.new.writer) (writing_of c.write_empty.new.writer) c.in_ok-begin-2.ensures
    c.in_ok-write_empty.ensures in
    subst (λ (w : Writing). OnOk c.end-2.result (writing_of c.end-2.new.self ≡ w))
    (in_element (codes "propstat") ((prop ++ status) ++ element (codes "error") why) (writing_of c.args.writer.now) (writing_of c.begin.new.writer) (writing_of c.end.new.self)
    c.in_ok-begin.ensures
    (one_after (prop ++ status) (element (codes "error") why) (writing_of c.begin.new.writer) (writing_of c.write_text.new.writer) (writing_of c.end.new.self) names
    (c.in_ok-end.ensures ∙ error)))
    c.end-2.ensures
