use Rattle.std.proofs.Common.{inl, inr, List, map, sym, ap, ◌∙◌}
use Rattle.std.proofs.lemmas.Result.{IfErr-weaker, IfOk-weaker}
use Rattle.dav_xml_core.specs.Views.{node_of}
use Rattle.dav_xml_core.specs.declared.davxml.documents.Node.{Node}
use Rattle.dav_documents_core.specs.PropertyQuestions.{asked_in}
use Rattle.dav_documents_core.proofs.QuestionLemmas.{asked_of}
use Rattle.dav_documents_core.proofs.property_questions.question_in.Goals as goal

pub returns-clause-ok : goal.returns-clause-ok
returns-clause-ok c =
    let same = asked_of c.args.body.now (map node_of c.in_ok-document.document.nodes.items) (sym c.is_empty.ensures ∙ c.if-is_empty.false) c.in_ok-document.ensures.ok
    ∙ ap (λ (nodes : List Node). asked_in (map node_of nodes)) (sym c.deref.ensures.value) in
    IfOk-weaker c.asked_in.result _ _ (λ question asked. same ∙ asked) c.asked_in.ensures.ok

pub returns-clause-err : goal.returns-clause-err
returns-clause-err c =
    let same = asked_of c.args.body.now (map node_of c.in_ok-document.document.nodes.items) (sym c.is_empty.ensures ∙ c.if-is_empty.false) c.in_ok-document.ensures.ok
    ∙ ap (λ (nodes : List Node). asked_in (map node_of nodes)) (sym c.deref.ensures.value) in
    IfErr-weaker c.asked_in.result _ _ (λ e why. elim why [ inl lacks ↦ inl lacks | inr bad ↦ inr (bad.0, same ∙ bad.1) ]) c.asked_in.ensures.err
