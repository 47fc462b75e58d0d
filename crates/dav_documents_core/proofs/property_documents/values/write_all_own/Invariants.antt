use Rattle.std.proofs.Common.{◌≡◌, drop, option_map}
use Rattle.std.specs.List.{flat_map}
use Rattle.std.specs.Prelude.{string_bytes}
use Rattle.dav_xml_core.specs.Views.{writing_of}
use Rattle.dav_documents_core.specs.LiveProperties.{live_properties}
use Rattle.dav_documents_core.specs.Pieces.{and_pieces}
use Rattle.dav_documents_core.specs.DescriptionViews.{description_of}
use Rattle.dav_documents_core.specs.PropertyDocuments.{own_pieces}
use Rattle.dav_documents_core.proofs.property_documents.values.write_all_own.Given as goal

-- what is still to be told of, behind what is told, makes the whole
abbrev pub invariant-loop-live : goal.invariant-loop-live
invariant-loop-live l =
    and_pieces (writing_of l.writer)
    (flat_map (own_pieces l.prefix (option_map string_bytes l.principal) l.now.0 (description_of l.description)) (drop l.live-index live_properties))
    ≡ and_pieces (writing_of l.fn.writer)
    (flat_map (own_pieces l.prefix (option_map string_bytes l.principal) l.now.0 (description_of l.description)) live_properties)
