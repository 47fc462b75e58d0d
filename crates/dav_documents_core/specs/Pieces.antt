-- What the document of an answer is written of, in turn: nodes, and elements whose bytes were kept (own).
use Rattle.std.specs.Prelude.{ℕ, List, [], ◌∷◌, ◌++◌, map}
use Rattle.dav_xml_core.specs.Documents.{Node, Start, End}
use Rattle.dav_xml_core.specs.Parts.{with_raw}
use Rattle.dav_xml_core.specs.Writing.{Writing, in_document, new_writing, with_node}
use Rattle.dav_documents_core.specs.RefusalBodies.{dav_name}

pub data DocumentPiece : Type 0 where
  Made : Node → DocumentPiece
  Kept : List ℕ → DocumentPiece

abbrev pub and_piece : Writing → DocumentPiece → Writing
and_piece writing (Made node) = with_node writing node
and_piece writing (Kept bytes) = with_raw writing bytes

abbrev pub and_pieces : Writing → List DocumentPiece → Writing
and_pieces writing [] = writing
and_pieces writing (piece ∷ pieces) = and_pieces (and_piece writing piece) pieces

-- the bytes of a document of these pieces
unfoldable pub written_pieces : List DocumentPiece → List ℕ
written_pieces pieces = (and_pieces (new_writing in_document) pieces).bytes

abbrev pub made_pieces : List Node → List DocumentPiece
made_pieces nodes = map Made nodes

-- an element of `DAV:` with these pieces in it
abbrev pub enclosed_pieces : List ℕ → List DocumentPiece → List DocumentPiece
enclosed_pieces local inside = Made (Start (dav_name local) []) ∷ (inside ++ Made End ∷ [])
