use Rattle.std.proofs.Common.{map}
use Rattle.dav_documents_core.specs.Elements.{element_nodes}
use Rattle.dav_xml_core.specs.Views.{node_of}
use Rattle.dav_documents_core.proofs.ChildLemmas.{Finds}
use Rattle.dav_documents_core.proofs.elements.elements.Given as goal

abbrev pub invariant-loop-at : goal.invariant-loop-at
invariant-loop-at l = Finds (map node_of l.nodes) (map element_nodes l.found.items) l.depth l.first l.at
