-- Documents that are written with elements in them that were written before, to stand alone (own).
use Rattle.std.specs.Prelude.{◌≡◌, ℕ, Bool, true, false, List, [], ◌∷◌, ◌++◌, map}
use Rattle.std.specs.List.{list_all}
use Rattle.dav_xml_core.specs.Documents.{Node, is_element}
use Rattle.dav_xml_core.specs.ReadableDocuments.{node_bytes, is_readable}
use Rattle.dav_xml_core.specs.Writing.{Writing, in_document, new_writing, with_node, written_alone}

-- a node, or the nodes of an element whose bytes were kept
pub data Part : Type 0 where
  Made : Node → Part
  Kept : List Node → Part

abbrev pub nodes_in : List Part → List Node
nodes_in [] = []
nodes_in (Made node ∷ parts) = node ∷ nodes_in parts
nodes_in (Kept nodes ∷ parts) = nodes ++ nodes_in parts

-- bytes as they are
abbrev pub with_raw : Writing → List ℕ → Writing
with_raw writing bytes = record { first = writing.first; bytes = writing.bytes ++ bytes; begun = writing.begun }

abbrev pub with_part : Writing → Part → Writing
with_part writing (Made node) = with_node writing node
with_part writing (Kept nodes) = with_raw writing (written_alone nodes)

abbrev pub with_parts : Writing → List Part → Writing
with_parts writing [] = writing
with_parts writing (part ∷ parts) = with_parts (with_part writing part) parts

-- the bytes of a document of these parts
unfoldable pub written_parts : List Part → List ℕ
written_parts parts = (with_parts (new_writing in_document) parts).bytes

-- the same in bytes
abbrev pub part_bytes : Part → Part
part_bytes (Made node) = Made (node_bytes node)
part_bytes (Kept nodes) = Kept (map node_bytes nodes)

abbrev pub is_part : Part → Bool
is_part (Made node) = true
is_part (Kept nodes) = is_element nodes

-- elements that were kept stand inside the document's own
abbrev pub are_parts : List Part → Bool
are_parts [] = false
are_parts (Made node ∷ parts) = list_all is_part parts
are_parts (Kept nodes ∷ parts) = false

-- a document of these parts could have been read
pub record PartsCouldBeRead (parts : List Part) : Type 0 where
  pub characters : List Part
  pub bytes : parts ≡ map part_bytes characters
  pub readable : is_readable (nodes_in characters) ≡ true
  pub kept : are_parts characters ≡ true
