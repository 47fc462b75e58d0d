use Rattle.std.proofs.Common.{[], codes, ap, ◌∙◌}
use Rattle.dav_xml_core.specs.Writing.{Writing, with_end, with_nodes, with_start, document_bytes}
use Rattle.dav_documents_core.specs.RefusalBodies.{dav_name, href}
use Rattle.dav_documents_core.proofs.refusal_documents.conflicting.Goals as goal

pub returns : goal.returns
unfolding document_bytes
returns c =
    let outer = c.in_ok-begin.ensures ∙ ap (λ (w : Writing). with_start w (dav_name (codes "error")) []) c.new-writer.ensures in
    let inner = c.in_ok-begin-2.ensures ∙ ap (λ (w : Writing). with_start w (dav_name (codes "no-conflicting-lock")) []) outer in
    let told = c.in_ok-write_href.ensures ∙ ap (λ (w : Writing). with_nodes w (href c.args.prefix.now c.args.path.now)) inner in
    c.into_bytes.ensures ∙ ap (λ (w : Writing). w.bytes) (c.in_ok-end-2.ensures ∙ ap with_end (c.in_ok-end.ensures ∙ ap with_end told))
