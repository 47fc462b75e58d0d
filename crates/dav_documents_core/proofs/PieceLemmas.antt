-- Pieces of a document, one behind another.
use Rattle.std.proofs.Common.{◌≡◌, refl, ℕ, List, [], ◌∷◌, ◌++◌}
use Rattle.dav_xml_core.specs.Documents.{Node, End}
use Rattle.dav_xml_core.specs.Writing.{Writing, with_end, with_node, with_nodes, with_start}
use Rattle.dav_documents_core.specs.Pieces.{DocumentPiece, Made, enclosed_pieces, made_pieces, and_piece, and_pieces}
use Rattle.dav_documents_core.specs.RefusalBodies.{dav_name}

pub in_turn : (writing : Writing) (before behind : List DocumentPiece) → and_pieces writing (before ++ behind) ≡ and_pieces (and_pieces writing before) behind
in_turn writing [] behind = refl
in_turn writing (piece ∷ before) behind = in_turn (and_piece writing piece) before behind

pub of_nodes : (writing : Writing) (nodes : List Node) → and_pieces writing (made_pieces nodes) ≡ with_nodes writing nodes
of_nodes writing [] = refl
of_nodes writing (node ∷ nodes) = of_nodes (with_node writing node) nodes

pub nodes_in_turn : (writing : Writing) (before behind : List Node) → with_nodes writing (before ++ behind) ≡ with_nodes (with_nodes writing before) behind
nodes_in_turn writing [] behind = refl
nodes_in_turn writing (node ∷ before) behind = nodes_in_turn (with_node writing node) before behind

pub in_element : (writing : Writing) (local : List ℕ) (inside : List DocumentPiece)
    → and_pieces writing (enclosed_pieces local inside) ≡ with_end (and_pieces (with_start writing (dav_name local) []) inside)
in_element writing local inside = in_turn (with_start writing (dav_name local) []) inside (Made End ∷ [])
