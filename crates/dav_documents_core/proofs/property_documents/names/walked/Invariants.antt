use Rattle.std.proofs.Common.{◌≡◌, drop, map}
use Rattle.dav_xml_core.specs.Views.{name_of}
use Rattle.dav_files_core.specs.Properties.{property_of}
use Rattle.dav_documents_core.specs.PropertyDocuments.{dead_value}
use Rattle.dav_documents_core.proofs.property_documents.names.walked.Given as goal

-- the property with the name is not among those that are passed
abbrev pub invariant-loop-prop : goal.invariant-loop-prop
invariant-loop-prop l =
    dead_value (map property_of (drop l.prop-index l.props)) (name_of l.name) ≡ dead_value (map property_of l.props) (name_of l.name)
