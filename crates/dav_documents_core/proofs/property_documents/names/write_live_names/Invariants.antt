use Rattle.std.proofs.Common.{◌≡◌, drop}
use Rattle.std.specs.List.{flat_map}
use Rattle.dav_xml_core.specs.Views.{writing_of}
use Rattle.dav_xml_core.specs.Writing.{with_nodes}
use Rattle.dav_documents_core.specs.LiveProperties.{live_properties}
use Rattle.dav_documents_core.specs.DescriptionViews.{description_of}
use Rattle.dav_documents_core.specs.PropertyDocuments.{own_name_nodes}
use Rattle.dav_documents_core.proofs.property_documents.names.write_live_names.Given as goal

-- what is still to be told of, behind what is told, makes the whole
abbrev pub invariant-loop-live : goal.invariant-loop-live
invariant-loop-live l =
    with_nodes (writing_of l.writer) (flat_map (own_name_nodes (description_of l.description)) (drop l.live-index live_properties))
    ≡ with_nodes (writing_of l.fn.writer) (flat_map (own_name_nodes (description_of l.description)) live_properties)
