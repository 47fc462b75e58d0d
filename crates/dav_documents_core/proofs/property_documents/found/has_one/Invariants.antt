use Rattle.std.proofs.Common.{◌≡◌, drop, map}
use Rattle.std.specs.List.{list_any}
use Rattle.dav_xml_core.specs.Views.{name_of}
use Rattle.dav_documents_core.specs.DescriptionViews.{description_of}
use Rattle.dav_documents_core.specs.PropertyDocuments.{has_value}
use Rattle.dav_documents_core.proofs.property_documents.found.has_one.Given as goal

-- none of those that are passed is there
abbrev pub invariant-loop-name : goal.invariant-loop-name
invariant-loop-name l =
    list_any (has_value (description_of l.description)) (map name_of (drop l.name-index l.names)) ≡ list_any (has_value (description_of l.description)) (map name_of l.names)
