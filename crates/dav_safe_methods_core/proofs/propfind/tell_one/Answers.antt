use Rattle.std.proofs.Common.{ℕ, List, Option, ap, ◌∙◌}
use Rattle.std.proofs.lemmas.Result.{err_from_is_err_and}
use Rattle.dav_path_core.specs.Segments.{segments}
use Rattle.dav_files_core.specs.Resources.{at_path}
use Rattle.dav_xml_core.specs.Views.{writing_of}
use Rattle.dav_documents_core.specs.Pieces.{and_pieces}
use Rattle.dav_documents_core.specs.QuestionViews.{question_of}
use Rattle.dav_documents_core.specs.DescriptionViews.{description_of}
use Rattle.dav_documents_core.specs.PropertyDocuments.{response_pieces}
use Rattle.dav_session_core.specs.Sessions as spec
use Rattle.dav_session_core.proofs.PlaceLemmas.{short_of}
use Rattle.dav_safe_methods_core.proofs.propfind.tell_one.Goals as goal

pub returns-in_err-description-clause-err : goal.returns-in_err-description-clause-err
returns-in_err-description-clause-err g c =
    let q = err_from_is_err_and c.from_residual.result c.from_residual.ensures.1 in
    rw (q.1, q.2) (short_of c.in_err-description.field-0.0 (at_path (spec.state g.R.Rng.stream c.args.session.now).map (segments c.args.place.now.bytes))
    c.in_err-description.ensures.err c.requires)

pub returns-clause-ok : goal.returns-clause-ok
returns-clause-ok g c =
    let d = description_of c.in_ok-description.description in
    record {
      resource = d;
      described = c.in_ok-description.ensures.ok;
      written = c.in_ok-write_response.ensures
          ∙ ap (λ (who : Option (List ℕ)). and_pieces (writing_of c.args.writer.now) (response_pieces c.args.prefix.now who c.now.result.0 (question_of c.args.question.now) d)) c.principal.ensures
          ∙ ap (λ (now : ℕ). and_pieces (writing_of c.args.writer.now) (response_pieces c.args.prefix.now (spec.caller c.args.session.now).principal now (question_of c.args.question.now) d)) c.now.ensures;
    }
