use Rattle.std.proofs.Common.{◌≡◌, drop, map}
use Rattle.std.specs.List.{flat_map}
use Rattle.dav_xml_core.specs.Views.{writing_of}
use Rattle.dav_files_core.specs.Properties.{property_of}
use Rattle.dav_documents_core.specs.Pieces.{and_pieces}
use Rattle.dav_documents_core.specs.PropertyDocuments.{dead_pieces}
use Rattle.dav_documents_core.proofs.property_documents.values.write_all_dead.Given as goal

-- what is still to be told of, behind what is told, makes the whole
abbrev pub invariant-loop-prop : goal.invariant-loop-prop
invariant-loop-prop l =
    and_pieces (writing_of l.writer) (flat_map dead_pieces (map property_of (drop l.prop-index l.props)))
    ≡ and_pieces (writing_of l.fn.writer) (flat_map dead_pieces (map property_of l.props))
