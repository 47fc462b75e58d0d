-- Which documents could have been read (own).
use Rattle.std.specs.Prelude.{◌≡◌, ◌+◌, ◌^◌, nat_lt, length, Bool, true, false, ◌&&◌, not, List, [], ◌∷◌, map, encode_utf8_all}
use Rattle.std.specs.List.{list_all}
use Rattle.dav_xml_core.specs.Characters.{is_char}
use Rattle.dav_xml_core.specs.Documents.{Node, Start, Text, End, is_element}
use Rattle.dav_xml_core.specs.Readable.{is_start, name_bytes, attribute_bytes}
use Rattle.dav_xml_core.specs.Scanning.{is_nil}

-- the same in bytes
abbrev pub node_bytes : Node → Node
node_bytes (Start name attributes) = Start (name_bytes name) (map attribute_bytes attributes)
node_bytes (Text text) = Text (encode_utf8_all text)
node_bytes End = End

-- a text isn't empty
abbrev pub is_node : Node → Bool
is_node (Start name attributes) = is_start name attributes
is_node (Text text) = not (is_nil text) && list_all is_char text
is_node End = true

-- memory holds one more attribute of a start
abbrev pub has_room : Node → Bool
has_room (Start name attributes) = nat_lt (length attributes + 1) (2 ^ 64)
has_room (Text text) = true
has_room End = true

-- no text stands right behind another; the flag says whether one stands before
abbrev pub are_apart : Bool → List Node → Bool
are_apart after_text [] = true
are_apart after_text (Start name attributes ∷ nodes) = are_apart false nodes
are_apart after_text (Text text ∷ nodes) = not after_text && are_apart true nodes
are_apart after_text (End ∷ nodes) = are_apart false nodes

-- one element, in characters
abbrev pub is_readable : List Node → Bool
is_readable nodes = is_element nodes && list_all is_node nodes && are_apart false nodes

-- a document could have these nodes
pub record CouldBeRead (nodes : List Node) : Type 0 where
  pub characters : List Node
  pub bytes : nodes ≡ map node_bytes characters
  pub readable : is_readable characters ≡ true
