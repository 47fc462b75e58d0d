use Rattle.std.proofs.Common.{[], codes, ap, ◌∙◌}
use Rattle.dav_xml_core.specs.Writing.{Writing, with_end, with_nodes, with_start, document_bytes}
use Rattle.dav_documents_core.specs.RefusalBodies.{dav_name, element}
use Rattle.dav_documents_core.proofs.refusal_documents.failed_condition.Goals as goal

pub returns : goal.returns
unfolding document_bytes
returns c =
    let outer = c.in_ok-begin.ensures ∙ ap (λ (w : Writing). with_start w (dav_name (codes "error")) []) c.new-writer.ensures in
    let told = c.in_ok-write_empty.ensures ∙ ap (λ (w : Writing). with_nodes w (element c.args.condition.now [])) outer in
    c.into_bytes.ensures ∙ ap (λ (w : Writing). w.bytes) (c.in_ok-end.ensures ∙ ap with_end told)
