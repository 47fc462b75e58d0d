use Rattle.std.proofs.Common.{◌≡◌, drop, map}
use Rattle.std.specs.List.{flat_map}
use Rattle.dav_xml_core.specs.Views.{name_of, writing_of}
use Rattle.dav_xml_core.specs.Writing.{with_nodes}
use Rattle.dav_documents_core.specs.DescriptionViews.{description_of}
use Rattle.dav_documents_core.specs.PropertyDocuments.{missing_nodes}
use Rattle.dav_documents_core.proofs.property_documents.names.write_missing.Given as goal

-- what is still to be told of, behind what is told, makes the whole
abbrev pub invariant-loop-name : goal.invariant-loop-name
invariant-loop-name l =
    with_nodes (writing_of l.writer) (flat_map (missing_nodes (description_of l.description)) (map name_of (drop l.name-index l.names)))
    ≡ with_nodes (writing_of l.fn.writer) (flat_map (missing_nodes (description_of l.description)) (map name_of l.names))
