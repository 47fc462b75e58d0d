use Rattle.std.proofs.Common.{codes, option_map, ap, sym, ◌∙◌}
use Rattle.std.specs.Prelude.{string_bytes}
use Rattle.std.proofs.lemmas.Result.{on_ok_weaker}
use Rattle.dav_xml_core.specs.Views.{writing_of}
use Rattle.dav_xml_core.specs.Writing.{Writing, with_end, with_nodes}
use Rattle.dav_documents_core.specs.Pieces.{and_pieces}
use Rattle.dav_documents_core.specs.QuestionViews.{question_of}
use Rattle.dav_documents_core.specs.DescriptionViews.{description_of}
use Rattle.dav_documents_core.specs.PropertyDocuments.{found_pieces, text_element}
use Rattle.dav_documents_core.proofs.PropertyLemmas.{with_propstat}
use Rattle.dav_documents_core.proofs.property_documents.write_found_props.Goals as goal

pub returns : goal.returns
returns c =
    let told = found_pieces c.args.prefix.now (option_map string_bytes c.args.principal.now) c.args.now.0 (description_of c.args.description.now) (question_of c.args.question.now) in
    let inside = c.in_ok-write_found.ensures ∙ ap (λ (w : Writing). and_pieces w told) c.in_ok-begin_stat.ensures in
    on_ok_weaker c.end_stat.result
    (λ ended. ended ∙ ap (λ (w : Writing). with_end (with_nodes (with_end w) (text_element (codes "status") (codes "HTTP/1.1 200 OK")))) inside
    ∙ sym (with_propstat (writing_of c.args.writer.now) (codes "HTTP/1.1 200 OK") told)) c.end_stat.ensures
