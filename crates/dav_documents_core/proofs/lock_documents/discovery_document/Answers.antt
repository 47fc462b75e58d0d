use Rattle.std.proofs.Common.{[], codes, option_map, ap, sym, ◌∙◌}
use Rattle.std.specs.Prelude.{string_bytes}
use Rattle.dav_xml_core.specs.Writing.{Writing, in_document, new_writing, with_end, with_start}
use Rattle.dav_documents_core.specs.LockDocuments.{lock_discovery}
use Rattle.dav_documents_core.specs.Pieces.{and_pieces, written_pieces}
use Rattle.dav_documents_core.specs.RefusalBodies.{dav_name}
use Rattle.dav_documents_core.proofs.PieceLemmas.{in_element}
use Rattle.dav_documents_core.proofs.lock_documents.discovery_document.Goals as goal

pub returns : goal.returns
unfolding written_pieces
returns c =
    let told = lock_discovery c.args.prefix.now (option_map string_bytes c.args.principal.now) c.args.now.0 c.args.locks.now in
    let begun = c.in_ok-begin.ensures ∙ ap (λ (w : Writing). with_start w (dav_name (codes "prop")) []) c.new-writer.ensures in
    let inside = c.in_ok-write_discovery.ensures ∙ ap (λ (w : Writing). and_pieces w told) begun in
    c.into_bytes.ensures ∙ ap (λ (w : Writing). w.bytes)
    (c.in_ok-end.ensures ∙ ap with_end inside ∙ sym (in_element (new_writing in_document) (codes "prop") told))
