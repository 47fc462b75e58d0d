use Rattle.std.proofs.Common.{◌≡◌, drop, map, option_map}
use Rattle.std.specs.List.{flat_map}
use Rattle.std.specs.Prelude.{string_bytes}
use Rattle.dav_xml_core.specs.Views.{name_of, writing_of}
use Rattle.dav_documents_core.specs.Pieces.{and_pieces}
use Rattle.dav_documents_core.specs.DescriptionViews.{description_of}
use Rattle.dav_documents_core.specs.PropertyDocuments.{value_pieces}
use Rattle.dav_documents_core.proofs.property_documents.values.write_listed.Given as goal

-- what is still to be told of, behind what is told, makes the whole
abbrev pub invariant-loop-name : goal.invariant-loop-name
invariant-loop-name l =
    and_pieces (writing_of l.writer)
    (flat_map (value_pieces l.prefix (option_map string_bytes l.principal) l.now.0 (description_of l.description)) (map name_of (drop l.name-index l.names)))
    ≡ and_pieces (writing_of l.fn.writer)
    (flat_map (value_pieces l.prefix (option_map string_bytes l.principal) l.now.0 (description_of l.description)) (map name_of l.names))
