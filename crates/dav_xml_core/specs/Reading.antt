-- From the pieces of a text to its nodes (XML 1.0 sections 2.1, 2.8 and 3), and from bytes to a document.
use Rattle.std.specs.Prelude.{ℕ, ◌==◌, Bool, true, false, ◌&&◌, ◌||◌, not, bytes_eq, if◌then◌else◌, List, [], ◌∷◌, ◌++◌, take, length, codes, encode_utf8_all, Option, None, Some, is_none}
use Rattle.std.specs.List.{list_all}
use Rattle.dav_xml_core.specs.Characters.{is_white, characters}
use Rattle.dav_xml_core.specs.Declarations.{after_declaration}
use Rattle.dav_xml_core.specs.Documents.{Node, Start, Text, End}
use Rattle.dav_xml_core.specs.Markup.{RawAttribute, Piece, Tag, EndTag, Characters, CData, Aside, piece_at}
use Rattle.dav_xml_core.specs.Names.{QName}
use Rattle.dav_xml_core.specs.Namespaces.{Binding, always_bound, started_of}
use Rattle.dav_xml_core.specs.Optional.{◌>>=◌, when, choose}
use Rattle.dav_xml_core.specs.References.{expanded_text, value_of}
use Rattle.dav_xml_core.specs.Scanning.{is_nil, until}
use Rattle.dav_xml_core.specs.Sequences.{all_of}

abbrev pub is_empty : {A : Type 0} → List A → Bool
is_empty [] = true
is_empty (x ∷ xs) = false

-- all but the last, and the last
abbrev pub last_of : {A : Type 0} → List A → Option (List A × A)
last_of [] = None
last_of (x ∷ xs) = choose (last_of xs) (λ found. Some (x ∷ found.0, found.1)) (Some ([], x))

-- an element that has begun: its name as written, and how many of the bindings hold around it
pub record Element : Type 0 where
  pub name : QName
  pub around : ℕ

-- What a front of a document says: its nodes, the text since the last of them, the elements that have begun and not ended, and
-- the bindings that hold.
pub record Front : Type 0 where
  pub nodes : List Node
  pub text : List ℕ
  pub elements : List Element
  pub bindings : List Binding

abbrev pub nothing : Front
nothing = record { nodes = []; text = []; elements = []; bindings = always_bound }

-- texts that follow each other are one, and none is empty
abbrev pub text_nodes : List ℕ → List Node
text_nodes text = if is_nil text then [] else Text (encode_utf8_all text) ∷ []

abbrev pub same_qname : QName → QName → Bool
same_qname a b = bytes_eq a.prefix b.prefix && bytes_eq a.local b.local

-- a start tag: inside an element, or as the first
unfoldable pub with_start_tag : Front → QName → List RawAttribute → Option Front
with_start_tag front name attributes =
    when (not (is_empty front.elements) || is_empty front.nodes) front.bindings >>= λ around.
    started_of around name attributes >>= λ start.
    Some (record {
      nodes = front.nodes ++ text_nodes front.text ++ Start start.name start.attributes ∷ [];
      text = [];
      elements = front.elements ++ record { name = name; around = length around } ∷ [];
      bindings = start.bindings;
    })

-- an end tag: its name is as the start tag's is written (Element Type Match), and its bindings end
unfoldable pub with_end_tag : Front → QName → Option Front
with_end_tag front name =
    last_of front.elements >>= λ found.
    when (same_qname found.1.name name) (record {
      nodes = front.nodes ++ text_nodes front.text ++ End ∷ [];
      text = [];
      elements = found.0;
      bindings = take found.1.around front.bindings;
    })

-- [44] an empty tag is a start tag and an end tag
unfoldable pub with_tag : Front → QName → List RawAttribute → Bool → Option Front
with_tag front name attributes empty = with_start_tag front name attributes >>= λ begun. if empty then with_end_tag begun name else Some begun

-- [14] CharData and references: no `]]>`
unfoldable pub content_of : List ℕ → Option (List ℕ)
content_of raw = when (is_none (until (codes "]]>") raw)) raw >>= expanded_text

-- the text that bytes between tags stand for, and the value that bytes between quotes stand for
abbrev pub text_in : List ℕ → Option (List ℕ)
text_in bytes = characters bytes >>= content_of

abbrev pub value_in : List ℕ → Option (List ℕ)
value_in bytes = characters bytes >>= value_of

-- text inside an element; outside there is only white space
unfoldable pub with_characters : Front → List ℕ → Option Front
with_characters front raw =
    if is_empty front.elements then when (list_all is_white raw) front
    else (content_of raw >>= λ text. Some (record front { text = front.text ++ text }))

-- a CDATA section, inside an element
unfoldable pub with_cdata : Front → List ℕ → Option Front
with_cdata front raw = when (not (is_empty front.elements)) (record front { text = front.text ++ raw })

-- the front with one more piece
abbrev pub with_piece : Front → Piece → Option Front
with_piece front (Tag name attributes empty) = with_tag front name attributes empty
with_piece front (EndTag name) = with_end_tag front name
with_piece front (Characters raw) = with_characters front raw
with_piece front (CData raw) = with_cdata front raw
with_piece front Aside = Some front

abbrev pub with_pieces : Front → List Piece → Option Front
with_pieces front [] = Some front
with_pieces front (piece ∷ pieces) = with_piece front piece >>= λ more. with_pieces more pieces

-- one element, which has ended
abbrev pub finished_nodes : Front → Option (List Node)
finished_nodes front = when (is_empty front.elements && not (is_empty front.nodes)) front.nodes

-- the nodes of a text behind its declaration
unfoldable pub nodes_of : List ℕ → Option (List Node)
nodes_of text = all_of piece_at text >>= λ pieces. with_pieces nothing pieces >>= finished_nodes

-- the piece at the front of a text, and the front of the document with it
unfoldable pub step : Front → List ℕ → Option (Front × List ℕ)
step front text = piece_at text >>= λ found. with_piece front found.0 >>= λ more. Some (more, found.1)

-- without a byte order mark at the front
abbrev pub without_mark : List ℕ → List ℕ
without_mark [] = []
without_mark (c ∷ text) = if c == 0xFEFF then text else c ∷ text

-- the nodes of a text
unfoldable pub content_nodes : List ℕ → Option (List Node)
content_nodes text = after_declaration (without_mark text) >>= nodes_of

-- [1] document, with the bytes that spell it
unfoldable pub document_of : List ℕ → Option (List Node)
document_of bytes = characters bytes >>= content_nodes
