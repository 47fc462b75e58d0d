use Rattle.std.proofs.Common.{◌≡◌, drop, map}
use Rattle.dav_xml_core.specs.Views.{node_of}
use Rattle.dav_documents_core.specs.PropertyQuestions.{has_part}
use Rattle.dav_documents_core.proofs.property_questions.has_part.Given as goal

abbrev pub invariant-loop-part : goal.invariant-loop-part
invariant-loop-part l =
    has_part l.local (map (λ part. map node_of part.now) (drop l.part-index l.parts)) ≡ has_part l.local (map (λ part. map node_of part.now) l.parts)
