-- What contracts see of the code's values.
use Rattle.std.specs.Prelude.{ℕ, encode_utf8_all, map, string_bytes}
use Rattle.std.specs.Borrow.{Bor}
use Rattle.std.specs.Rc.{rc_str_bytes}
use Rattle.dav_xml_core.specs.declared.davxml.documents.Name as code_name
use Rattle.dav_xml_core.specs.declared.davxml.documents.Attribute as code_attribute
use Rattle.dav_xml_core.specs.declared.davxml.documents.Node as code_node
use Rattle.dav_xml_core.specs.declared.davxml.documents.Node.TheVariants.{Start, Text, End}
use Rattle.dav_xml_core.specs.declared.davxml.builder.Element as code_element
use Rattle.dav_xml_core.specs.declared.davxml.builder.Builder as code_builder
use Rattle.dav_xml_core.specs.Reading as reading
use Rattle.std.specs.Prelude.{List, Vec}
use Rattle.std.specs.Global.{Global}
use Rattle.dav_xml_core.specs.declared.davxml.writer.Writer as code_writer
use Rattle.dav_xml_core.specs.Writing as writing
use Rattle.dav_xml_core.specs.Documents as documents
use Rattle.dav_xml_core.specs.Namespaces as namespaces
use Rattle.dav_xml_core.specs.declared.davxml.names.QName as code
use Rattle.dav_xml_core.specs.declared.davxml.markup.RawAttribute.{RawAttribute}
use Rattle.dav_xml_core.specs.declared.davxml.markup.Piece.{Piece}
use Rattle.dav_xml_core.specs.declared.davxml.markup.Piece.TheVariants.{Tag, EndTag, Characters, CData, Aside}
use Rattle.dav_xml_core.specs.Markup as markup
use Rattle.dav_xml_core.specs.Names as names

abbrev pub qname_of : code.QName → names.QName
qname_of name = record { prefix = name.prefix.now; local = name.local.now }

abbrev pub raw_attribute_of : RawAttribute → markup.RawAttribute
raw_attribute_of attribute = record { name = qname_of attribute.name; raw = attribute.raw.now }

abbrev pub piece_of : Piece → markup.Piece
piece_of (Tag name attributes empty) = markup.Tag (qname_of name) (map raw_attribute_of attributes.items) empty
piece_of (EndTag name) = markup.EndTag (qname_of name)
piece_of (Characters raw) = markup.Characters raw.now
piece_of (CData raw) = markup.CData raw.now
piece_of Aside = markup.Aside

abbrev pub name_of : code_name.Name → documents.Name
name_of name = record { namespace = rc_str_bytes name.namespace; local = string_bytes name.local }

-- the name of an attribute, by the number of its namespace
abbrev pub attribute_key_of : ℕ × Bor (List ℕ) → ℕ × List ℕ
attribute_key_of key = (key.0, encode_utf8_all key.1.now)

abbrev pub attribute_of : code_attribute.Attribute → documents.Attribute
attribute_of attribute = record { name = name_of attribute.name; value = string_bytes attribute.value }

abbrev pub node_of : code_node.Node → documents.Node
node_of (Start name attributes) = documents.Start (name_of name) (map attribute_of attributes.items)
node_of (Text text) = documents.Text (string_bytes text)
node_of End = documents.End

abbrev pub started_view : List namespaces.Binding → code_name.Name → Vec code_attribute.Attribute Global → namespaces.Started
started_view bindings name attributes =
    record { bindings = bindings; name = name_of name; attributes = map attribute_of attributes.items }

abbrev pub element_of : code_element.Element → reading.Element
element_of element = record { name = qname_of element.name; around = element.around }

abbrev pub front_of : code_builder.Builder → reading.Front
front_of builder = record {
  nodes = map node_of builder.nodes.items;
  text = builder.text.items;
  elements = map element_of builder.elements.items;
  bindings = builder.scope;
}

abbrev pub writing_of : code_writer.Writer → writing.Writing
writing_of writer = record { first = writer.first.now; bytes = writer.bytes.items; begun = map (λ name. name.items) writer.begun.items }
