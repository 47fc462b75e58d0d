use Rattle.std.proofs.Common.{◌≡◌, sym, ap, ◌∙◌, ◌<◌, ◌^◌, arith, length, map, Some}
use Rattle.std.specs.Result.{result_ok}
use Rattle.std.proofs.lemmas.Result.{err_from_is_err_and}
use Rattle.dav_xml_core.specs.Refusals.{reading_answer}
use Rattle.dav_xml_core.specs.Reading.{document_of}
use Rattle.dav_xml_core.specs.Views.{node_of}
use Rattle.dav_xml_core.proofs.ElementLemmas.{one_element}
use Rattle.dav_xml_core.proofs.GivesLemmas.{refused_as}
use Rattle.dav_xml_core.proofs.ReadNodesLemmas.{read_could}
use Rattle.dav_xml_core.proofs.RefusalLemmas.{answers_agree}
use Rattle.dav_xml_core.proofs.davxml.reader.read.Goals as goal

pub returns-in_err-nodes-clause-document : goal.returns-in_err-nodes-clause-document
returns-in_err-nodes-clause-document c =
    let p = err_from_is_err_and c.from_residual.result c.from_residual.ensures.1 in
    rw (p.1, p.2) (refused_as c.in_err-nodes.field-0.0 (reading_answer c.args.bytes.now) _ (answers_agree c.args.bytes.now) c.in_err-nodes.ensures)

pub returns-clause-document : goal.returns-clause-document
returns-clause-document c = sym (answers_agree c.args.bytes.now) ∙ ap result_ok c.in_ok-nodes.ensures

pub returns-clause-element : goal.returns-clause-element
returns-clause-element c =
    let whole : document_of c.args.bytes.now ≡ Some (map node_of c.in_ok-nodes.nodes.items) = sym (answers_agree c.args.bytes.now) ∙ ap result_ok c.in_ok-nodes.ensures in
    one_element c.args.bytes.now (map node_of c.in_ok-nodes.nodes.items) whole

pub returns-clause-readable : goal.returns-clause-readable
returns-clause-readable c =
    let whole : document_of c.args.bytes.now ≡ Some (map node_of c.in_ok-nodes.nodes.items) = sym (answers_agree c.args.bytes.now) ∙ ap result_ok c.in_ok-nodes.ensures in
    let small : length c.args.bytes.now < 2 ^ 64 = omega arith in
    read_could c.args.bytes.now (map node_of c.in_ok-nodes.nodes.items) small whole
