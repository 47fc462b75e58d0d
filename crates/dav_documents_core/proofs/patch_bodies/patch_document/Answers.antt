use Rattle.std.proofs.Common.{◌∙◌, ap, ◌++◌, codes, map}
use Rattle.dav_files_core.specs.Properties.{patch_update}
use Rattle.dav_xml_core.specs.Views.{writing_of}
use Rattle.dav_xml_core.specs.Writing.{Writing, with_nodes, document_bytes}
use Rattle.dav_documents_core.specs.PatchBodies.{patch_nodes, propstats}
use Rattle.dav_documents_core.specs.RefusalBodies.{element, href}
use Rattle.dav_documents_core.proofs.WritingLemmas.{in_element, one_after}
use Rattle.dav_documents_core.proofs.patch_bodies.patch_document.Goals as goal

pub returns : goal.returns
unfolding document_bytes
returns c =
    let place = href c.args.prefix.now c.args.path.now in
    let told = propstats (map patch_update c.args.updates.now) in
    let both = one_after place told (writing_of c.begin-2.new.writer) (writing_of c.write_href.new.writer) (writing_of c.write_propstats.new.writer) c.in_ok-write_href.ensures
    c.in_ok-write_propstats.ensures in
    let response = in_element (codes "response") (place ++ told) (writing_of c.begin.new.writer) (writing_of c.begin-2.new.writer) (writing_of c.write_propstats.new.writer)
    c.in_ok-begin-2.ensures both in
    let whole = in_element (codes "multistatus") (element (codes "response") (place ++ told)) (writing_of c.new-writer.result) (writing_of c.begin.new.writer)
    (writing_of c.end.new.self) c.in_ok-begin.ensures (c.in_ok-end.ensures ∙ response) in
    c.into_bytes.ensures
    ∙ ap (λ (w : Writing). w.bytes)
    (c.in_ok-end-2.ensures ∙ whole ∙ ap (λ (w : Writing). with_nodes w (patch_nodes c.args.prefix.now c.args.path.now (map patch_update c.args.updates.now))) c.new-writer.ensures)
