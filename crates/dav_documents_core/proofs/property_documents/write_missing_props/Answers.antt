use Rattle.std.proofs.Common.{[], codes, map, ap, sym, ◌∙◌}
use Rattle.std.specs.List.{flat_map}
use Rattle.std.proofs.lemmas.Result.{on_ok_weaker}
use Rattle.dav_xml_core.specs.Views.{name_of, writing_of}
use Rattle.dav_xml_core.specs.Writing.{Writing, with_end, with_nodes, with_start}
use Rattle.dav_documents_core.specs.Pieces.{made_pieces}
use Rattle.dav_documents_core.specs.DescriptionViews.{description_of}
use Rattle.dav_documents_core.specs.PropertyDocuments.{missing_nodes, text_element}
use Rattle.dav_documents_core.specs.RefusalBodies.{dav_name}
use Rattle.dav_documents_core.proofs.PieceLemmas.{of_nodes}
use Rattle.dav_documents_core.proofs.PropertyLemmas.{with_propstat}
use Rattle.dav_documents_core.proofs.property_documents.write_missing_props.Goals as goal

pub returns : goal.returns
returns c =
    let told = flat_map (missing_nodes (description_of c.args.description.now)) (map name_of c.args.names.now) in
    let begun = with_start (with_start (writing_of c.args.writer.now) (dav_name (codes "propstat")) []) (dav_name (codes "prop")) [] in
    let inside = c.in_ok-write_missing.ensures ∙ ap (λ (w : Writing). with_nodes w told) c.in_ok-begin_stat.ensures ∙ sym (of_nodes begun told) in
    on_ok_weaker c.end_stat.result
    (λ ended. ended ∙ ap (λ (w : Writing). with_end (with_nodes (with_end w) (text_element (codes "status") (codes "HTTP/1.1 404 Not Found")))) inside
    ∙ sym (with_propstat (writing_of c.args.writer.now) (codes "HTTP/1.1 404 Not Found") (made_pieces told))) c.end_stat.ensures
