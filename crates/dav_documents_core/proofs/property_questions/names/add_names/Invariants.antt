use Rattle.std.proofs.Common.{◌≡◌, drop, map}
use Rattle.dav_xml_core.specs.Views.{name_of, node_of}
use Rattle.dav_documents_core.specs.Private.LentKeys.{AreSeen}
use Rattle.dav_documents_core.specs.PropertyQuestions.{and_names}
use Rattle.dav_documents_core.proofs.property_questions.names.add_names.Given as goal

abbrev pub invariant-loop-element : goal.invariant-loop-element
invariant-loop-element l = record {
  names : and_names (map name_of l.found.names.items) (map (λ element. map node_of element.now) (drop l.element-index l.elements))
      ≡ and_names (map name_of l.fn.found.names.items) (map (λ element. map node_of element.now) l.elements);
  seen : AreSeen l.found;
}
