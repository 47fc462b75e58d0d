use Rattle.std.proofs.Common.{ℕ, List, [], ◌++◌, codes, option_map, ap, sym, ◌∙◌}
use Rattle.std.specs.Prelude.{string_bytes}
use Rattle.std.proofs.lemmas.Result.{on_ok_weaker}
use Rattle.dav_xml_core.specs.Documents.{Name}
use Rattle.dav_xml_core.specs.Views.{writing_of}
use Rattle.dav_xml_core.specs.Writing.{Writing, with_end, with_nodes, with_start}
use Rattle.dav_documents_core.specs.Pieces.{made_pieces, and_pieces}
use Rattle.dav_documents_core.specs.QuestionViews.{question_of}
use Rattle.dav_documents_core.specs.DescriptionViews.{description_of}
use Rattle.dav_documents_core.specs.PropertyDocuments.{found_stat, missing_of, missing_stat, text_element}
use Rattle.dav_documents_core.specs.RefusalBodies.{dav_name}
use Rattle.dav_documents_core.proofs.PieceLemmas.{in_element, in_turn}
use Rattle.dav_documents_core.proofs.property_documents.write_response.Goals as goal

pub returns : goal.returns
returns c =
    let question = question_of c.args.question.now in
    let d = description_of c.args.description.now in
    let begun = with_start (writing_of c.args.writer.now) (dav_name (codes "response")) [] in
    let href = text_element (codes "href") d.url in
    let found = found_stat c.args.prefix.now (option_map string_bytes c.args.principal.now) c.args.now.0 question d in
    let missing = missing_stat question d in
    let url = c.in_ok-write_text.ensures ∙ ap (λ (text : List ℕ). with_nodes (writing_of c.begin.new.writer) (text_element (codes "href") text)) c.deref.ensures
    ∙ ap (λ (w : Writing). with_nodes w href) c.in_ok-begin.ensures in
    let first = c.in_ok-write_found_stat.ensures ∙ ap (λ (w : Writing). and_pieces w found) url in
    let second = c.in_ok-write_missing_stat.ensures
    ∙ ap (λ (names : List Name). and_pieces (writing_of c.write_found_stat.new.writer) (missing_of names d)) c.names_asked.ensures
    ∙ ap (λ (w : Writing). and_pieces w missing) first in
    on_ok_weaker c.end.result
    (λ ended. ended ∙ ap with_end (second ∙ sym (in_turn (with_nodes begun href) found missing))
    ∙ sym (in_element (writing_of c.args.writer.now) (codes "response") (made_pieces href ++ (found ++ missing)))) c.end.ensures
