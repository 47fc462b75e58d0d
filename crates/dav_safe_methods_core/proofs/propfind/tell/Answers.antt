use Rattle.std.proofs.Common.{[], codes, ap, sym, ◌∙◌}
use Rattle.std.specs.Prelude.{flat_map}
use Rattle.dav_xml_core.specs.Writing.{Writing, in_document, new_writing, with_end, with_start}
use Rattle.dav_documents_core.specs.Pieces.{and_pieces, written_pieces}
use Rattle.dav_documents_core.specs.QuestionViews.{question_of}
use Rattle.dav_documents_core.specs.PropertyDocuments.{response_pieces}
use Rattle.dav_documents_core.specs.RefusalBodies.{dav_name}
use Rattle.dav_session_core.specs.Sessions as spec
use Rattle.dav_documents_core.proofs.PieceLemmas.{in_element}
use Rattle.dav_safe_methods_core.proofs.propfind.tell.Goals as goal

pub returns-clause-ok : goal.returns-clause-ok
unfolding written_pieces
returns-clause-ok g c =
    let told = c.in_ok-tell_each.ensures.ok in
    let inside = flat_map (response_pieces c.args.prefix.now (spec.caller c.args.session.now).principal (spec.caller c.args.session.now).now (question_of c.args.question.now)) told.resources in
    let begun = c.in_ok-begin.ensures ∙ ap (λ (w : Writing). with_start w (dav_name (codes "multistatus")) []) c.new-writer.ensures in (
      told.resources,
      told.described,
      c.into_bytes.ensures ∙ ap (λ (w : Writing). w.bytes) (c.in_ok-end.ensures ∙ ap with_end (told.written ∙ ap (λ (w : Writing). and_pieces w inside) begun)
          ∙ sym (in_element (new_writing in_document) (codes "multistatus") inside)),
    )
