use Rattle.std.proofs.Common.{[], codes, ap, ◌∙◌}
use Rattle.dav_xml_core.specs.Writing.{Writing, with_end, with_nodes, with_start, document_bytes}
use Rattle.dav_documents_core.specs.RefusalBodies.{dav_name, element, told_response}
use Rattle.dav_documents_core.proofs.refusal_documents.conflicting_below.Goals as goal

pub returns : goal.returns
unfolding document_bytes
returns c =
    let outer = c.in_ok-begin.ensures ∙ ap (λ (w : Writing). with_start w (dav_name (codes "multistatus")) []) c.new-writer.ensures in
    let first = c.in_ok-write_conflict.ensures
    ∙ ap (λ (w : Writing). with_nodes w (told_response c.args.prefix.now c.args.at.now (codes "HTTP/1.1 423 Locked") (element (codes "error") (element (codes "no-conflicting-lock") [])))) outer in
    let second = c.in_ok-write_dependent.ensures
    ∙ ap (λ (w : Writing). with_nodes w (told_response c.args.prefix.now c.args.path.now (codes "HTTP/1.1 424 Failed Dependency") [])) first in
    c.into_bytes.ensures ∙ ap (λ (w : Writing). w.bytes) (c.in_ok-end.ensures ∙ ap with_end second)
