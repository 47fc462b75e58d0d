use Rattle.std.proofs.Common.{◌≡◌, map, option_map, option_to_list, take}
use Rattle.dav_documents_core.specs.Elements.{elements_named, element_nodes}
use Rattle.dav_documents_core.proofs.elements.at_most_one.Given as goal

abbrev pub invariant-loop-element : goal.invariant-loop-element
invariant-loop-element l =
    option_to_list (option_map element_nodes l.found) ≡ elements_named l.local (take l.element-index (map element_nodes l.elements))
