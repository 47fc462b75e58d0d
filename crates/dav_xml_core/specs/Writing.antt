-- The bytes that a document is written as (own): each element has an end tag, `DAV:` has the prefix `D`, which the first element
-- declares, and any other namespace a prefix of its own, which its element declares.
use Rattle.std.specs.Prelude.{ℕ, suc, ◌==◌, ◌||◌, ◌&&◌, not, Bool, true, false, bytes_eq, if◌then◌else◌, List, [], ◌∷◌, ◌++◌, codes, flat_map}
use Rattle.std.specs.Fmt.{decimal}
use Rattle.dav_xml_core.specs.Documents.{Name, Attribute, Node, Start, Text, End}
use Rattle.dav_xml_core.specs.Namespaces.{xml_namespace}
use Rattle.dav_xml_core.specs.Optional.{choose}
use Rattle.dav_xml_core.specs.Reading.{is_empty, last_of}
use Rattle.dav_xml_core.specs.Scanning.{is_nil}

-- a byte of a text, or of a value between quotes: what would be read as something else is a reference
abbrev pub escaped_character : Bool → ℕ → List ℕ
escaped_character in_value b =
    if b == 38 then codes "&amp;" else (
    if b == 60 then codes "&lt;" else (
    if b == 62 then codes "&gt;" else (
    if b == 13 then codes "&#13;" else (
    if in_value && b == 34 then codes "&quot;" else (
    if in_value && b == 9 then codes "&#9;" else (
    if in_value && b == 10 then codes "&#10;" else b ∷ []))))))

abbrev pub dav_namespace : List ℕ
dav_namespace = codes "DAV:"

abbrev pub dav_name : List ℕ → Name
dav_name local = record { namespace = dav_namespace; local = local }

-- a name with the prefix of its namespace, which is the given one where it is none of the known
unfoldable pub tag_name : List ℕ → Name → List ℕ
tag_name prefix name =
    if is_nil name.namespace then name.local else (
    if bytes_eq name.namespace dav_namespace then codes "D:" ++ name.local else (
    if bytes_eq name.namespace xml_namespace then codes "xml:" ++ name.local else prefix ++ codes ":" ++ name.local))

-- whether a namespace needs a declaration
abbrev pub is_other : List ℕ → Bool
is_other namespace = not (is_nil namespace || bytes_eq namespace dav_namespace || bytes_eq namespace xml_namespace)

-- what declares the prefix of a name
unfoldable pub declaration_bytes : List ℕ → Name → List ℕ
declaration_bytes prefix name =
    if is_other name.namespace
    then codes " xmlns:" ++ prefix ++ codes "=\"" ++ flat_map (escaped_character true) name.namespace ++ codes "\"" else []

unfoldable pub attribute_text : List ℕ → Attribute → List ℕ
attribute_text prefix attribute =
    codes " " ++ tag_name prefix attribute.name ++ codes "=\"" ++ flat_map (escaped_character true) attribute.value ++ codes "\""
    ++ declaration_bytes prefix attribute.name

-- the attributes, from the one of this number on
abbrev pub attributes_text : ℕ → List Attribute → List ℕ
attributes_text number [] = []
attributes_text number (attribute ∷ attributes) =
    attribute_text (codes "n" ++ decimal number) attribute ++ attributes_text (suc number) attributes

abbrev pub element_prefix : List ℕ
element_prefix = codes "n"

-- what the first element of a document declares
abbrev pub in_document : List ℕ
in_document = codes " xmlns:D=\"DAV:\""

-- what the first element declares so that it means the same in any document: there is no default namespace, either
abbrev pub alone : List ℕ
alone = codes " xmlns:D=\"DAV:\" xmlns=\"\""

unfoldable pub start_text : List ℕ → Name → List Attribute → List ℕ
start_text first name attributes =
    codes "<" ++ tag_name element_prefix name ++ first ++ declaration_bytes element_prefix name
    ++ attributes_text 0 attributes ++ codes ">"

-- what is written so far, the names of the elements that have begun and not ended, and what the first element declares
pub record Writing : Type 0 where
  pub first : List ℕ
  pub bytes : List ℕ
  pub begun : List (List ℕ)

abbrev pub new_writing : List ℕ → Writing
new_writing first = record { first = first; bytes = []; begun = [] }

unfoldable pub with_start : Writing → Name → List Attribute → Writing
with_start writing name attributes = record {
  first = writing.first;
  bytes = writing.bytes ++ start_text (if is_empty writing.begun then writing.first else []) name attributes;
  begun = writing.begun ++ tag_name element_prefix name ∷ [];
}

-- the end of the element that began last; nothing where none is left
unfoldable pub with_end : Writing → Writing
with_end writing =
    choose (last_of writing.begun)
    (λ found. record { first = writing.first; bytes = writing.bytes ++ codes "</" ++ found.1 ++ codes ">"; begun = found.0 }) writing

unfoldable pub with_text : Writing → List ℕ → Writing
with_text writing text = record { first = writing.first; bytes = writing.bytes ++ flat_map (escaped_character false) text; begun = writing.begun }

abbrev pub with_node : Writing → Node → Writing
with_node writing (Start name attributes) = with_start writing name attributes
with_node writing (Text text) = with_text writing text
with_node writing End = with_end writing

abbrev pub with_nodes : Writing → List Node → Writing
with_nodes writing [] = writing
with_nodes writing (node ∷ nodes) = with_nodes (with_node writing node) nodes

-- the bytes of a document
unfoldable pub document_bytes : List Node → List ℕ
document_bytes nodes = (with_nodes (new_writing in_document) nodes).bytes

-- the bytes of an element that stands alone
unfoldable pub written_alone : List Node → List ℕ
written_alone nodes = (with_nodes (new_writing alone) nodes).bytes
