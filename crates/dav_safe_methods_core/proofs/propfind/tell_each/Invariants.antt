use Rattle.std.proofs.Common.{map, drop}
use Rattle.dav_path_core.specs.Segments.{segments}
use Rattle.dav_xml_core.specs.Views.{writing_of}
use Rattle.dav_xml_core.specs.Writing.{Writing}
use Rattle.dav_documents_core.specs.QuestionViews.{question_of}
use Rattle.dav_safe_methods_core.specs.Private.Telling.{TellsEach}
use Rattle.dav_session_core.specs.Sessions as spec
use Rattle.dav_safe_methods_core.proofs.propfind.tell_each.Given as goal

-- what is told of the places that are left, behind what is told, is told of all
abbrev pub invariant-loop-place : goal.invariant-loop-place
invariant-loop-place g l =
    let who = spec.caller l.session in
    let s = spec.live_of g.R.Rng.stream l.session in
    (now : Writing)
    → TellsEach l.prefix s who (question_of l.question) (map (λ p. segments p.bytes) (drop l.place-index l.places)) (writing_of l.writer) now
    → TellsEach l.prefix s who (question_of l.question) (map (λ p. segments p.bytes) l.places) (writing_of l.fn.writer) now
