-- Places in a document, between two pieces of it (own).
use Rattle.std.specs.Prelude.{ℕ, Bool, ◌||◌, not, List, [], ◌++◌, Option}
use Rattle.dav_xml_core.specs.Characters.{characters}
use Rattle.dav_xml_core.specs.Declarations.{after_declaration}
use Rattle.dav_xml_core.specs.Documents.{Node}
use Rattle.dav_xml_core.specs.Markup.{piece_at}
use Rattle.dav_xml_core.specs.Optional.{◌>>=◌}
use Rattle.dav_xml_core.specs.Reading.{Front, nothing, is_empty, text_nodes, with_pieces, finished_nodes, without_mark}
use Rattle.dav_xml_core.specs.Sequences.{all_of}

-- the nodes of a document, by its front and the text behind that
unfoldable pub read_from_front : Front → List ℕ → Option (List Node)
read_from_front front text = all_of piece_at text >>= λ pieces. with_pieces front pieces >>= finished_nodes

-- what bytes say that end where a piece ends
unfoldable pub front_at : List ℕ → Option Front
front_at bytes = characters bytes >>= λ text. after_declaration (without_mark text) >>= λ rest. all_of piece_at rest >>= with_pieces nothing

-- an element may begin there: inside another, or as the first
abbrev pub may_begin : Front → Bool
may_begin front = not (is_empty front.elements) || is_empty front.nodes

-- the front with the nodes of an element behind it
abbrev pub with_element : Front → List Node → Front
with_element front nodes = record {
  nodes = front.nodes ++ text_nodes front.text ++ nodes;
  text = [];
  elements = front.elements;
  bindings = front.bindings;
}
