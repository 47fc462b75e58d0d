use Rattle.std.proofs.Common.{◌≡◌, sym, ap, ◌∙◌, ◌<◌, ◌≤◌, ◌-◌, suc, arith, length, map, Vec, Global}
use Rattle.std.specs.Option.{ok_or}
use Rattle.std.proofs.lemmas.Bool.{eqb-true, eqb-false}
use Rattle.dav_xml_core.specs.Reading.{Front, step, finished_nodes}
use Rattle.dav_xml_core.specs.Refusals.{NotWellFormed, read_on, nodes_answer}
use Rattle.dav_xml_core.specs.Views.{front_of, node_of}
use Rattle.dav_xml_core.specs.declared.davxml.documents.Node.{Node}
use Rattle.dav_xml_core.proofs.GivesLemmas.{answers_at_end, stops_at}
use Rattle.dav_xml_core.proofs.RefusalLemmas.{begins, ends, goes_on, fails, exhausted}
use Rattle.dav_xml_core.proofs.davxml.reader.nodes_of.Goals as goal

pub loop-init : goal.loop-init
loop-init c = ap (λ (front : Front). read_on front (suc (length c.args.text.now) - 0) c.args.text.now) c.in_ok-builder.ensures ∙ begins c.args.text.now

pub returns-then-is_empty : goal.returns-then-is_empty
returns-then-is_empty c =
    let n = suc (length c.args.text.now) in
    let lt : c.loop.counter < n = omega arith in
    let empty : length c.loop.rest.now ≡ 0 = eqb-true _ 0 (sym c.is_empty.ensures ∙ c.if-is_empty.true) in
    let whole : nodes_answer c.args.text.now ≡ ok_or (finished_nodes (front_of c.loop.builder)) (NotWellFormed 0) = ends (front_of c.loop.builder) n c.loop.counter c.loop.rest.now _ lt empty c.loop.invariant in
    rw whole (answers_at_end (λ (x : Vec Node Global). map node_of x.items) c.finished.result _ c.ok_or.result c.finished.ensures c.ok_or.ensures.value)

pub returns-in-Err : goal.returns-in-Err
returns-in-Err c =
    let n = suc (length c.args.text.now) in
    let lt : c.loop.counter < n = omega arith in
    let more : length c.loop.rest.now ≡ 0 → ⊥ = eqb-false _ 0 (sym c.is_empty.ensures ∙ c.if-is_empty.false) in
    stops_at c.in-Err.fault c.halt.result _ (step (front_of c.loop.builder) c.loop.rest.now) _ c.halt.ensures c.in-Err.ensures
    (λ e. fails (front_of c.loop.builder) n c.loop.counter c.loop.rest.now _ lt more e c.loop.invariant)

pub loop-preserved : goal.loop-preserved
loop-preserved c =
    let n = suc (length c.args.text.now) in
    let lt : c.loop.counter < n = omega arith in
    let more : length c.loop.rest.now ≡ 0 → ⊥ = eqb-false _ 0 (sym c.is_empty.ensures ∙ c.if-is_empty.false) in
    goes_on (front_of c.loop.builder) n c.loop.counter c.loop.rest.now _ _ _ lt more c.in-Ok.ensures c.loop.invariant

pub returns : goal.returns
returns c =
    let n = suc (length c.args.text.now) in
    let le : n ≤ c.loop.counter = omega arith in
    exhausted (front_of c.loop.builder) n c.loop.counter c.loop.rest.now _ le c.loop.invariant
