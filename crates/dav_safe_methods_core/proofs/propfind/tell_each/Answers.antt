use Rattle.std.proofs.Common.{map, sym, subst}
use Rattle.std.proofs.lemmas.List.{drop_all}
use Rattle.dav_path_core.specs.Segments.{segments}
use Rattle.dav_xml_core.specs.Views.{writing_of}
use Rattle.dav_documents_core.specs.QuestionViews.{question_of}
use Rattle.dav_safe_methods_core.specs.Private.Telling.{TellsEach}
use Rattle.dav_session_core.specs.Sessions as spec
use Rattle.dav_safe_methods_core.proofs.FindingLemmas.{tells_none, tells_on}
use Rattle.dav_session_core.proofs.PlaceLemmas.{stands_at}
use Rattle.dav_safe_methods_core.proofs.propfind.tell_each.Goals as goal

pub loop-place-init : goal.loop-place-init
loop-place-init g c = λ now told. told

pub tell_one-requires : goal.tell_one-requires
tell_one-requires g c =
    stands_at (λ p. segments p.bytes) (spec.state g.R.Rng.stream c.args.session.now).map c.args.places.now c.loop-place.place-index c.place-item.result
    c.loop-place-test.true c.place-item.is c.requires

pub loop-place-preserved : goal.loop-place-preserved
loop-place-preserved g c =
    let who = spec.caller c.args.session.now in
    λ now rest. tells_on c.args.prefix.now (spec.live_of g.R.Rng.stream c.args.session.now) who (question_of c.args.question.now) (λ q. segments q.bytes) c.args.places.now c.loop-place.place-index c.place-item.result
    (writing_of c.loop-place.writer) (writing_of c.tell_one.new.writer) now (writing_of c.args.writer.now) c.loop-place-test.true c.place-item.is c.in_ok-tell_one.ensures.ok
    (c.loop-place.invariant now) rest

pub returns-clause-ok : goal.returns-clause-ok
returns-clause-ok g c =
    let who = spec.caller c.args.session.now in
    let s = spec.live_of g.R.Rng.stream c.args.session.now in
    let question = question_of c.args.question.now in
    let w = writing_of c.loop-place.writer in
    c.loop-place.invariant w (subst (λ rest. TellsEach c.args.prefix.now s who question (map (λ p. segments p.bytes) rest) w w)
    (sym (drop_all c.loop-place.place-index c.args.places.now c.loop-place-test.false)) (tells_none c.args.prefix.now s who question w))
