-- Which elements could have been read, by the characters of their names and values, and how what is written for them is read (own).
use Rattle.std.specs.Prelude.{◌≡◌, ℕ, ◌^◌, Bool, false, ◌&&◌, not, nat_lt, bytes_eq, List, [], ◌++◌, map, length, codes, encode_utf8_all, unwrap_or, Some}
use Rattle.std.specs.List.{list_all}
use Rattle.dav_xml_core.specs.Characters.{is_char}
use Rattle.dav_xml_core.specs.Documents.{Name, Attribute}
use Rattle.dav_xml_core.specs.Markup.{RawAttribute, Tag, EndTag, piece_at}
use Rattle.dav_xml_core.specs.Names.{QName, is_ncname}
use Rattle.dav_xml_core.specs.Namespaces.{Binding, xml_namespace, xmlns_namespace, bound_namespace, are_distinct, started_of}
use Rattle.dav_xml_core.specs.Scanning.{is_nil}
use Rattle.dav_xml_core.specs.Writing.{dav_namespace, element_prefix, tag_name, start_text}

-- ---- the same in bytes

abbrev pub name_bytes : Name → Name
name_bytes name = record { namespace = encode_utf8_all name.namespace; local = encode_utf8_all name.local }

abbrev pub attribute_bytes : Attribute → Attribute
attribute_bytes attribute = record { name = name_bytes attribute.name; value = encode_utf8_all attribute.value }

-- ---- what could have been read

-- a local name without a colon, and a namespace of characters, which is not that of declarations
abbrev pub is_name : Name → Bool
is_name name = is_ncname name.local && list_all is_char name.namespace && not (bytes_eq name.namespace xmlns_namespace)

-- no attribute is a declaration
abbrev pub is_attribute : Attribute → Bool
is_attribute attribute =
    is_name attribute.name && list_all is_char attribute.value
    && not (is_nil attribute.name.namespace && bytes_eq attribute.name.local (codes "xmlns"))

abbrev pub names_bytes : List Attribute → List Name
names_bytes attributes = map (λ attribute. name_bytes attribute.name) attributes

-- no two attributes have one name, and memory holds them
abbrev pub is_start : Name → List Attribute → Bool
is_start name attributes =
    is_name name && list_all is_attribute attributes && are_distinct (names_bytes attributes) && nat_lt (length attributes) (2 ^ 64)

-- ---- what is written is read as the same

-- the bindings that hold inside each element that is written: of `D`, `xml` and `xmlns`, and of no default namespace
pub record HoldWritten (bindings : List Binding) : Type 0 where
  pub dav : bound_namespace (codes "D") bindings ≡ Some dav_namespace
  pub xml : bound_namespace (codes "xml") bindings ≡ Some xml_namespace
  pub xmlns : bound_namespace (codes "xmlns") bindings ≡ Some xmlns_namespace
  pub default : unwrap_or (bound_namespace [] bindings) [] ≡ []

-- What is written for an element's start is a start tag [40], and for its end the end tag of the same name [42]. Where these bindings hold
-- around it, the tag starts an element of this name and these attributes, and inside it hold bindings as inside each that is written.
pub record IsReadBack (around : List Binding) (first : List ℕ) (name : Name) (attributes : List Attribute) : Type 0 where
  pub tag : QName
  pub written : List RawAttribute
  pub inside : List Binding
  pub start : (rest : List ℕ) → piece_at (start_text first name attributes ++ rest) ≡ Some (Tag tag written false, rest)
  pub end : (rest : List ℕ) → piece_at ((codes "</" ++ tag_name element_prefix name ++ codes ">") ++ rest) ≡ Some (EndTag tag, rest)
  pub element : started_of around tag written ≡ Some (record { bindings = inside; name = name_bytes name; attributes = map attribute_bytes attributes })
  pub hold : HoldWritten inside
