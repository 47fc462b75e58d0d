use Rattle.std.proofs.Common.{◌≡◌, [], drop, map}
use Rattle.dav_xml_core.specs.Views.{name_of, node_of}
use Rattle.dav_documents_core.specs.Private.LentKeys.{AreSeen}
use Rattle.dav_documents_core.specs.PropertyQuestions.{names_within}
use Rattle.dav_documents_core.proofs.property_questions.names.names_within.Given as goal

abbrev pub invariant-loop-part : goal.invariant-loop-part
invariant-loop-part l = record {
  names : names_within l.local (map name_of l.found.names.items) (map (λ part. map node_of part.now) (drop l.part-index l.parts))
      ≡ names_within l.local [] (map (λ part. map node_of part.now) l.parts);
  seen : AreSeen l.found;
}
