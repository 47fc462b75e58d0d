use Rattle.std.proofs.Common.{◌≡◌, drop, map}
use Rattle.dav_xml_core.specs.Views.{name_of}
use Rattle.dav_documents_core.specs.DescriptionViews.{description_of}
use Rattle.dav_documents_core.specs.PropertyDocuments.{lacks}
use Rattle.dav_documents_core.proofs.property_documents.lacks.Given as goal

-- none of those that are passed is lacking
abbrev pub invariant-loop-name : goal.invariant-loop-name
invariant-loop-name l =
    lacks (description_of l.description) (map name_of (drop l.name-index l.names)) ≡ lacks (description_of l.description) (map name_of l.names)
