use Rattle.std.proofs.Common.{List, map, refl, sym, ap, ◌∙◌, subst}
use Rattle.std.proofs.lemmas.Result.{err_from_is_err_and}
use Rattle.dav_path_core.specs.PathText.{PathText}
use Rattle.dav_path_core.specs.Segments.{segments}
use Rattle.dav_guarded_core.specs.Step.{State}
use Rattle.dav_session_core.specs.Callers.{Caller, live}
use Rattle.http_server.specs.Response.{fields_of}
use Rattle.dav_fields_core.specs.Fields.{Sent, sent_behind}
use Rattle.dav_safe_methods_core.specs.SentDocuments.{document_sent}
use Rattle.dav_safe_methods_core.specs.PropfindMethod.{DescribesEach}
use Rattle.dav_documents_core.specs.Pieces.{written_pieces}
use Rattle.dav_documents_core.specs.QuestionViews.{question_of}
use Rattle.dav_session_core.specs.Placed.{AllStand}
use Rattle.dav_documents_core.specs.PropertyDocuments.{multistatus}
use Rattle.dav_session_core.specs.Sessions as spec
use Rattle.dav_safe_methods_core.proofs.Acting.{held_before}
use Rattle.dav_safe_methods_core.proofs.FindingLemmas.{by_depth, by_memory, by_places, by_question}
use Rattle.dav_safe_methods_core.proofs.propfind.propfind.Goals as goal

pub returns-clause-done : goal.returns-clause-done
returns-clause-done g c =
    let asker = spec.caller c.places_within.new.self in
    let mid = spec.state g.R.Rng.stream c.places_within.new.self in
    let question = question_of c.in_ok-question.question in
    let looks = c.places_within.ensures.looks in
    let told = c.in_ok-document.ensures.ok in
    let named = ap (λ (w : Caller). written_pieces (multistatus c.args.prefix.now w.principal w.now question told.0)) looks.who in (
      refl,
      record {
        depth = c.in_ok-depth.depth;
        reaches = c.in_ok-depth.ensures.ok;
        question = question;
        question_is = c.in_ok-question.ensures.ok;
        stands = c.in_ok-places.ensures.found;
        plain = c.in_ok-places.ensures.plain;
        places = map (λ p. segments p.bytes) c.in_ok-places.places.items;
        within = c.in_ok-places.ensures.ok;
        resources = told.0;
        described = held_before (λ w (s : State). DescribesEach c.args.prefix.now s (map (λ p. segments p.bytes) c.in_ok-places.places.items) told.0) looks
            (subst (λ (places : List PathText). DescribesEach c.args.prefix.now (live asker.now mid) (map (λ p. segments p.bytes) places) told.0) c.deref.ensures.value told.1);
        told_is = ap (λ (s : Sent). s.body) c.in_ok-say_document.ensures.sent ∙ told.2 ∙ named;
      },
    )

pub returns-clause-sent : goal.returns-clause-sent
returns-clause-sent g c =
    c.in_ok-say_document.ensures.sent ∙ ap (λ body. sent_behind (fields_of c.args.response.now) (document_sent body)) (sym (ap (λ (s : Sent). s.body) c.in_ok-say_document.ensures.sent))

pub tell-requires : goal.tell-requires
tell-requires g c =
    subst (λ (places : List PathText). AllStand (spec.state g.R.Rng.stream c.places_within.new.self).map (map (λ p. segments p.bytes) places)) (sym c.deref.ensures.value)
    (subst (λ m. AllStand m (map (λ p. segments p.bytes) c.in_ok-places.places.items)) (sym (ap (λ (s : State). s.map) c.places_within.ensures.looks.live)) c.in_ok-places.ensures.stand)

pub returns-in_err-depth-clause-err : goal.returns-in_err-depth-clause-err
returns-in_err-depth-clause-err g c =
    let p = err_from_is_err_and c.from_residual.result c.from_residual.ensures.1 in
    rw (p.1, p.2) (by_depth c.args.finite c.args.headers.now c.args.body.now (spec.state g.R.Rng.stream c.args.session.now).map (segments c.args.path.bytes) c.in_err-depth.field-0.0 c.in_err-depth.ensures.err)

pub returns-in_err-question-clause-err : goal.returns-in_err-question-clause-err
returns-in_err-question-clause-err g c =
    let p = err_from_is_err_and c.from_residual-in_err-question.result c.from_residual-in_err-question.ensures.1 in
    rw (p.1, p.2) (by_question c.args.finite c.args.headers.now c.args.body.now (spec.state g.R.Rng.stream c.args.session.now).map (segments c.args.path.bytes) c.in_err-question.field-0.0 c.in_ok-depth.depth
    c.in_ok-depth.ensures.ok c.in_err-question.ensures.err)

pub returns-in_err-places-clause-err : goal.returns-in_err-places-clause-err
returns-in_err-places-clause-err g c =
    let p = err_from_is_err_and c.from_residual-in_err-places.result c.from_residual-in_err-places.ensures.1 in
    rw (p.1, p.2) (by_places c.args.finite c.args.headers.now c.args.body.now (spec.state g.R.Rng.stream c.args.session.now).map (segments c.args.path.bytes) c.in_err-places.field-0.0 c.in_ok-depth.depth
    (question_of c.in_ok-question.question) c.in_ok-depth.ensures.ok c.in_ok-question.ensures.ok c.in_err-places.ensures.err)

pub returns-in_err-document-clause-err : goal.returns-in_err-document-clause-err
returns-in_err-document-clause-err g c =
    let p = err_from_is_err_and c.from_residual-in_err-document.result c.from_residual-in_err-document.ensures.1 in
    rw (p.1, p.2) (by_memory c.args.finite c.args.headers.now c.args.body.now (spec.state g.R.Rng.stream c.args.session.now).map (segments c.args.path.bytes) c.in_err-document.field-0.0 c.in_err-document.ensures.err)

pub returns-in_err-say_document-clause-err : goal.returns-in_err-say_document-clause-err
returns-in_err-say_document-clause-err g c =
    let p = err_from_is_err_and c.from_residual-in_err-say_document.result c.from_residual-in_err-say_document.ensures.1 in
    rw (p.1, p.2) (by_memory c.args.finite c.args.headers.now c.args.body.now (spec.state g.R.Rng.stream c.args.session.now).map (segments c.args.path.bytes) _ refl)
