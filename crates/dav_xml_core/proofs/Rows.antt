-- Worked rows of the definitions, computed.
use Rattle.std.proofs.Common.{◌≡◌, refl, ℕ, true, false, List, [], ◌∷◌, ◌++◌, None, Some}
use Rattle.std.specs.Prelude.{codes, option_map}
use Rattle.std.specs.Str.{is_utf8, chars}
use Rattle.std.specs.Char.{encode_utf8}
use Rattle.dav_xml_core.specs.Declarations.{is_version, is_version_info, is_utf8_declaration, is_standalone, are_fields, fields_at, declaration_at, after_declaration}
use Rattle.dav_xml_core.specs.Documents.{Node, Start, Text, End, Name}
use Rattle.dav_xml_core.specs.Markup.{attribute_at, start_tag_at, end_tag_at, comment_at, cdata_at, instruction_at, declared_at, markup_at, characters_at, piece_at}
use Rattle.dav_xml_core.specs.Names.{ncname_at, qname_at}
use Rattle.dav_xml_core.specs.Namespaces.{bound_namespace, declares, may_bind, declared_binding, with_binding, prefixed_name, element_name, attribute_name, bound_attribute, are_distinct, started_of}
use Rattle.dav_xml_core.specs.Parts.{Made, Kept, written_parts}
use Rattle.dav_xml_core.specs.Places.{front_at, may_begin}
use Rattle.dav_xml_core.specs.ReadableDocuments.{is_readable}
use Rattle.dav_xml_core.specs.Writing.{tag_name, declaration_bytes as declared_text, start_text, with_start, with_end, written_alone}
use Rattle.dav_xml_core.specs.Reading.{with_start_tag, with_end_tag, with_tag, content_of, with_characters, with_cdata, nodes_of, content_nodes, document_of}
use Rattle.dav_xml_core.specs.Readable.{is_name, is_attribute, is_start}
use Rattle.dav_xml_core.specs.References.{referenced_character, expanded_at}
use Rattle.dav_xml_core.specs.Sequences.{many, sequence}

abbrev name : List ℕ → List ℕ → Name
name namespace local = record { namespace = namespace; local = local }

empty : document_of (codes "<a/>") ≡ Some (Start (name [] (codes "a")) [] ∷ End ∷ [])
unfolding chars is_utf8 encode_utf8 document_of content_nodes after_declaration declaration_at fields_at are_fields is_version is_version_info is_utf8_declaration is_standalone nodes_of many sequence piece_at markup_at start_tag_at end_tag_at comment_at cdata_at instruction_at declared_at attribute_at characters_at qname_at ncname_at with_start_tag with_end_tag with_tag with_characters with_cdata content_of started_of with_binding element_name prefixed_name attribute_name bound_attribute are_distinct declares bound_namespace declared_binding may_bind expanded_at referenced_character
empty = refl

declared : document_of (codes "<?xml version='1.0'?><a/>") ≡ Some (Start (name [] (codes "a")) [] ∷ End ∷ [])
unfolding chars is_utf8 encode_utf8 document_of content_nodes after_declaration declaration_at fields_at are_fields is_version is_version_info is_utf8_declaration is_standalone nodes_of many sequence piece_at markup_at start_tag_at end_tag_at comment_at cdata_at instruction_at declared_at attribute_at characters_at qname_at ncname_at with_start_tag with_end_tag with_tag with_characters with_cdata content_of started_of with_binding element_name prefixed_name attribute_name bound_attribute are_distinct declares bound_namespace declared_binding may_bind expanded_at referenced_character
declared = refl

default_namespace : document_of (codes "<a xmlns='u' b=''/>") ≡ Some (Start (name (codes "u") (codes "a")) (record { name = name [] (codes "b"); value = [] } ∷ []) ∷ End ∷ [])
unfolding chars is_utf8 encode_utf8 document_of content_nodes after_declaration declaration_at fields_at are_fields is_version is_version_info is_utf8_declaration is_standalone nodes_of many sequence piece_at markup_at start_tag_at end_tag_at comment_at cdata_at instruction_at declared_at attribute_at characters_at qname_at ncname_at with_start_tag with_end_tag with_tag with_characters with_cdata content_of started_of with_binding element_name prefixed_name attribute_name bound_attribute are_distinct declares bound_namespace declared_binding may_bind expanded_at referenced_character
default_namespace = refl

prefixed : document_of (codes "<p:a xmlns:p='u' p:b='1'></p:a>") ≡ Some (Start (name (codes "u") (codes "a")) (record { name = name (codes "u") (codes "b"); value = codes "1" } ∷ []) ∷ End ∷ [])
unfolding chars is_utf8 encode_utf8 document_of content_nodes after_declaration declaration_at fields_at are_fields is_version is_version_info is_utf8_declaration is_standalone nodes_of many sequence piece_at markup_at start_tag_at end_tag_at comment_at cdata_at instruction_at declared_at attribute_at characters_at qname_at ncname_at with_start_tag with_end_tag with_tag with_characters with_cdata content_of started_of with_binding element_name prefixed_name attribute_name bound_attribute are_distinct declares bound_namespace declared_binding may_bind expanded_at referenced_character
prefixed = refl

joined_text : document_of (codes "<a>x<!--c-->&amp;<![CDATA[<]]></a>") ≡ Some (Start (name [] (codes "a")) [] ∷ Text (codes "x&<") ∷ End ∷ [])
unfolding chars is_utf8 encode_utf8 document_of content_nodes after_declaration declaration_at fields_at are_fields is_version is_version_info is_utf8_declaration is_standalone nodes_of many sequence piece_at markup_at start_tag_at end_tag_at comment_at cdata_at instruction_at declared_at attribute_at characters_at qname_at ncname_at with_start_tag with_end_tag with_tag with_characters with_cdata content_of started_of with_binding element_name prefixed_name attribute_name bound_attribute are_distinct declares bound_namespace declared_binding may_bind expanded_at referenced_character
joined_text = refl

numbers : document_of (codes "<a>&#65;&#x42;</a>") ≡ Some (Start (name [] (codes "a")) [] ∷ Text (codes "AB") ∷ End ∷ [])
unfolding chars is_utf8 encode_utf8 document_of content_nodes after_declaration declaration_at fields_at are_fields is_version is_version_info is_utf8_declaration is_standalone nodes_of many sequence piece_at markup_at start_tag_at end_tag_at comment_at cdata_at instruction_at declared_at attribute_at characters_at qname_at ncname_at with_start_tag with_end_tag with_tag with_characters with_cdata content_of started_of with_binding element_name prefixed_name attribute_name bound_attribute are_distinct declares bound_namespace declared_binding may_bind expanded_at referenced_character
numbers = refl

no_element : document_of (codes "") ≡ None
unfolding chars is_utf8 encode_utf8 document_of content_nodes after_declaration declaration_at fields_at are_fields is_version is_version_info is_utf8_declaration is_standalone nodes_of many sequence piece_at markup_at start_tag_at end_tag_at comment_at cdata_at instruction_at declared_at attribute_at characters_at qname_at ncname_at with_start_tag with_end_tag with_tag with_characters with_cdata content_of started_of with_binding element_name prefixed_name attribute_name bound_attribute are_distinct declares bound_namespace declared_binding may_bind expanded_at referenced_character
no_element = refl

two_elements : document_of (codes "<a/><b/>") ≡ None
unfolding chars is_utf8 encode_utf8 document_of content_nodes after_declaration declaration_at fields_at are_fields is_version is_version_info is_utf8_declaration is_standalone nodes_of many sequence piece_at markup_at start_tag_at end_tag_at comment_at cdata_at instruction_at declared_at attribute_at characters_at qname_at ncname_at with_start_tag with_end_tag with_tag with_characters with_cdata content_of started_of with_binding element_name prefixed_name attribute_name bound_attribute are_distinct declares bound_namespace declared_binding may_bind expanded_at referenced_character
two_elements = refl

not_ended : document_of (codes "<a>") ≡ None
unfolding chars is_utf8 encode_utf8 document_of content_nodes after_declaration declaration_at fields_at are_fields is_version is_version_info is_utf8_declaration is_standalone nodes_of many sequence piece_at markup_at start_tag_at end_tag_at comment_at cdata_at instruction_at declared_at attribute_at characters_at qname_at ncname_at with_start_tag with_end_tag with_tag with_characters with_cdata content_of started_of with_binding element_name prefixed_name attribute_name bound_attribute are_distinct declares bound_namespace declared_binding may_bind expanded_at referenced_character
not_ended = refl

other_end : document_of (codes "<a></b>") ≡ None
unfolding chars is_utf8 encode_utf8 document_of content_nodes after_declaration declaration_at fields_at are_fields is_version is_version_info is_utf8_declaration is_standalone nodes_of many sequence piece_at markup_at start_tag_at end_tag_at comment_at cdata_at instruction_at declared_at attribute_at characters_at qname_at ncname_at with_start_tag with_end_tag with_tag with_characters with_cdata content_of started_of with_binding element_name prefixed_name attribute_name bound_attribute are_distinct declares bound_namespace declared_binding may_bind expanded_at referenced_character
other_end = refl

other_prefix : document_of (codes "<p:a xmlns:p='u' xmlns:q='u'></q:a>") ≡ None
unfolding chars is_utf8 encode_utf8 document_of content_nodes after_declaration declaration_at fields_at are_fields is_version is_version_info is_utf8_declaration is_standalone nodes_of many sequence piece_at markup_at start_tag_at end_tag_at comment_at cdata_at instruction_at declared_at attribute_at characters_at qname_at ncname_at with_start_tag with_end_tag with_tag with_characters with_cdata content_of started_of with_binding element_name prefixed_name attribute_name bound_attribute are_distinct declares bound_namespace declared_binding may_bind expanded_at referenced_character
other_prefix = refl

unbound : document_of (codes "<p:a/>") ≡ None
unfolding chars is_utf8 encode_utf8 document_of content_nodes after_declaration declaration_at fields_at are_fields is_version is_version_info is_utf8_declaration is_standalone nodes_of many sequence piece_at markup_at start_tag_at end_tag_at comment_at cdata_at instruction_at declared_at attribute_at characters_at qname_at ncname_at with_start_tag with_end_tag with_tag with_characters with_cdata content_of started_of with_binding element_name prefixed_name attribute_name bound_attribute are_distinct declares bound_namespace declared_binding may_bind expanded_at referenced_character
unbound = refl

bound_to_nothing : document_of (codes "<p:a xmlns:p=''/>") ≡ None
unfolding chars is_utf8 encode_utf8 document_of content_nodes after_declaration declaration_at fields_at are_fields is_version is_version_info is_utf8_declaration is_standalone nodes_of many sequence piece_at markup_at start_tag_at end_tag_at comment_at cdata_at instruction_at declared_at attribute_at characters_at qname_at ncname_at with_start_tag with_end_tag with_tag with_characters with_cdata content_of started_of with_binding element_name prefixed_name attribute_name bound_attribute are_distinct declares bound_namespace declared_binding may_bind expanded_at referenced_character
bound_to_nothing = refl

left_scope : document_of (codes "<a><p:b xmlns:p='u'/><p:b/></a>") ≡ None
unfolding chars is_utf8 encode_utf8 document_of content_nodes after_declaration declaration_at fields_at are_fields is_version is_version_info is_utf8_declaration is_standalone nodes_of many sequence piece_at markup_at start_tag_at end_tag_at comment_at cdata_at instruction_at declared_at attribute_at characters_at qname_at ncname_at with_start_tag with_end_tag with_tag with_characters with_cdata content_of started_of with_binding element_name prefixed_name attribute_name bound_attribute are_distinct declares bound_namespace declared_binding may_bind expanded_at referenced_character
left_scope = refl

twice : document_of (codes "<a b='' b=''/>") ≡ None
unfolding chars is_utf8 encode_utf8 document_of content_nodes after_declaration declaration_at fields_at are_fields is_version is_version_info is_utf8_declaration is_standalone nodes_of many sequence piece_at markup_at start_tag_at end_tag_at comment_at cdata_at instruction_at declared_at attribute_at characters_at qname_at ncname_at with_start_tag with_end_tag with_tag with_characters with_cdata content_of started_of with_binding element_name prefixed_name attribute_name bound_attribute are_distinct declares bound_namespace declared_binding may_bind expanded_at referenced_character
twice = refl

twice_by_two_prefixes : document_of (codes "<a xmlns:p='u' xmlns:q='u' p:b='' q:b=''/>") ≡ None
unfolding chars is_utf8 encode_utf8 document_of content_nodes after_declaration declaration_at fields_at are_fields is_version is_version_info is_utf8_declaration is_standalone nodes_of many sequence piece_at markup_at start_tag_at end_tag_at comment_at cdata_at instruction_at declared_at attribute_at characters_at qname_at ncname_at with_start_tag with_end_tag with_tag with_characters with_cdata content_of started_of with_binding element_name prefixed_name attribute_name bound_attribute are_distinct declares bound_namespace declared_binding may_bind expanded_at referenced_character
twice_by_two_prefixes = refl

reference_to_0 : document_of (codes "<a>&#0;</a>") ≡ None
unfolding chars is_utf8 encode_utf8 document_of content_nodes after_declaration declaration_at fields_at are_fields is_version is_version_info is_utf8_declaration is_standalone nodes_of many sequence piece_at markup_at start_tag_at end_tag_at comment_at cdata_at instruction_at declared_at attribute_at characters_at qname_at ncname_at with_start_tag with_end_tag with_tag with_characters with_cdata content_of started_of with_binding element_name prefixed_name attribute_name bound_attribute are_distinct declares bound_namespace declared_binding may_bind expanded_at referenced_character
reference_to_0 = refl

past_the_last : document_of (codes "<a>&#x110000;</a>") ≡ None
unfolding chars is_utf8 encode_utf8 document_of content_nodes after_declaration declaration_at fields_at are_fields is_version is_version_info is_utf8_declaration is_standalone nodes_of many sequence piece_at markup_at start_tag_at end_tag_at comment_at cdata_at instruction_at declared_at attribute_at characters_at qname_at ncname_at with_start_tag with_end_tag with_tag with_characters with_cdata content_of started_of with_binding element_name prefixed_name attribute_name bound_attribute are_distinct declares bound_namespace declared_binding may_bind expanded_at referenced_character
past_the_last = refl

surrogate : document_of (codes "<a>&#xD800;</a>") ≡ None
unfolding chars is_utf8 encode_utf8 document_of content_nodes after_declaration declaration_at fields_at are_fields is_version is_version_info is_utf8_declaration is_standalone nodes_of many sequence piece_at markup_at start_tag_at end_tag_at comment_at cdata_at instruction_at declared_at attribute_at characters_at qname_at ncname_at with_start_tag with_end_tag with_tag with_characters with_cdata content_of started_of with_binding element_name prefixed_name attribute_name bound_attribute are_distinct declares bound_namespace declared_binding may_bind expanded_at referenced_character
surrogate = refl

own_entity : document_of (codes "<a>&x;</a>") ≡ None
unfolding chars is_utf8 encode_utf8 document_of content_nodes after_declaration declaration_at fields_at are_fields is_version is_version_info is_utf8_declaration is_standalone nodes_of many sequence piece_at markup_at start_tag_at end_tag_at comment_at cdata_at instruction_at declared_at attribute_at characters_at qname_at ncname_at with_start_tag with_end_tag with_tag with_characters with_cdata content_of started_of with_binding element_name prefixed_name attribute_name bound_attribute are_distinct declares bound_namespace declared_binding may_bind expanded_at referenced_character
own_entity = refl

section_end : document_of (codes "<a>]]></a>") ≡ None
unfolding chars is_utf8 encode_utf8 document_of content_nodes after_declaration declaration_at fields_at are_fields is_version is_version_info is_utf8_declaration is_standalone nodes_of many sequence piece_at markup_at start_tag_at end_tag_at comment_at cdata_at instruction_at declared_at attribute_at characters_at qname_at ncname_at with_start_tag with_end_tag with_tag with_characters with_cdata content_of started_of with_binding element_name prefixed_name attribute_name bound_attribute are_distinct declares bound_namespace declared_binding may_bind expanded_at referenced_character
section_end = refl

two_hyphens : document_of (codes "<!-- -- --><a/>") ≡ None
unfolding chars is_utf8 encode_utf8 document_of content_nodes after_declaration declaration_at fields_at are_fields is_version is_version_info is_utf8_declaration is_standalone nodes_of many sequence piece_at markup_at start_tag_at end_tag_at comment_at cdata_at instruction_at declared_at attribute_at characters_at qname_at ncname_at with_start_tag with_end_tag with_tag with_characters with_cdata content_of started_of with_binding element_name prefixed_name attribute_name bound_attribute are_distinct declares bound_namespace declared_binding may_bind expanded_at referenced_character
two_hyphens = refl

late_declaration : document_of (codes " <?xml version='1.0'?><a/>") ≡ None
unfolding chars is_utf8 encode_utf8 document_of content_nodes after_declaration declaration_at fields_at are_fields is_version is_version_info is_utf8_declaration is_standalone nodes_of many sequence piece_at markup_at start_tag_at end_tag_at comment_at cdata_at instruction_at declared_at attribute_at characters_at qname_at ncname_at with_start_tag with_end_tag with_tag with_characters with_cdata content_of started_of with_binding element_name prefixed_name attribute_name bound_attribute are_distinct declares bound_namespace declared_binding may_bind expanded_at referenced_character
late_declaration = refl

document_type : document_of (codes "<!DOCTYPE a><a/>") ≡ None
unfolding chars is_utf8 encode_utf8 document_of content_nodes after_declaration declaration_at fields_at are_fields is_version is_version_info is_utf8_declaration is_standalone nodes_of many sequence piece_at markup_at start_tag_at end_tag_at comment_at cdata_at instruction_at declared_at attribute_at characters_at qname_at ncname_at with_start_tag with_end_tag with_tag with_characters with_cdata content_of started_of with_binding element_name prefixed_name attribute_name bound_attribute are_distinct declares bound_namespace declared_binding may_bind expanded_at referenced_character
document_type = refl

other_encoding : document_of (codes "<?xml version='1.0' encoding='latin1'?><a/>") ≡ None
unfolding chars is_utf8 encode_utf8 document_of content_nodes after_declaration declaration_at fields_at are_fields is_version is_version_info is_utf8_declaration is_standalone nodes_of many sequence piece_at markup_at start_tag_at end_tag_at comment_at cdata_at instruction_at declared_at attribute_at characters_at qname_at ncname_at with_start_tag with_end_tag with_tag with_characters with_cdata content_of started_of with_binding element_name prefixed_name attribute_name bound_attribute are_distinct declares bound_namespace declared_binding may_bind expanded_at referenced_character
other_encoding = refl

less_than_in_a_value : document_of (codes "<a b='<'/>") ≡ None
unfolding chars is_utf8 encode_utf8 document_of content_nodes after_declaration declaration_at fields_at are_fields is_version is_version_info is_utf8_declaration is_standalone nodes_of many sequence piece_at markup_at start_tag_at end_tag_at comment_at cdata_at instruction_at declared_at attribute_at characters_at qname_at ncname_at with_start_tag with_end_tag with_tag with_characters with_cdata content_of started_of with_binding element_name prefixed_name attribute_name bound_attribute are_distinct declares bound_namespace declared_binding may_bind expanded_at referenced_character
less_than_in_a_value = refl

xml_rebound : document_of (codes "<a xmlns:xml='u'/>") ≡ None
unfolding chars is_utf8 encode_utf8 document_of content_nodes after_declaration declaration_at fields_at are_fields is_version is_version_info is_utf8_declaration is_standalone nodes_of many sequence piece_at markup_at start_tag_at end_tag_at comment_at cdata_at instruction_at declared_at attribute_at characters_at qname_at ncname_at with_start_tag with_end_tag with_tag with_characters with_cdata content_of started_of with_binding element_name prefixed_name attribute_name bound_attribute are_distinct declares bound_namespace declared_binding may_bind expanded_at referenced_character
xml_rebound = refl

text_outside : document_of (codes "<a/>x") ≡ None
unfolding chars is_utf8 encode_utf8 document_of content_nodes after_declaration declaration_at fields_at are_fields is_version is_version_info is_utf8_declaration is_standalone nodes_of many sequence piece_at markup_at start_tag_at end_tag_at comment_at cdata_at instruction_at declared_at attribute_at characters_at qname_at ncname_at with_start_tag with_end_tag with_tag with_characters with_cdata content_of started_of with_binding element_name prefixed_name attribute_name bound_attribute are_distinct declares bound_namespace declared_binding may_bind expanded_at referenced_character
text_outside = refl

reference_outside : document_of (codes "&#32;<a/>") ≡ None
unfolding chars is_utf8 encode_utf8 document_of content_nodes after_declaration declaration_at fields_at are_fields is_version is_version_info is_utf8_declaration is_standalone nodes_of many sequence piece_at markup_at start_tag_at end_tag_at comment_at cdata_at instruction_at declared_at attribute_at characters_at qname_at ncname_at with_start_tag with_end_tag with_tag with_characters with_cdata content_of started_of with_binding element_name prefixed_name attribute_name bound_attribute are_distinct declares bound_namespace declared_binding may_bind expanded_at referenced_character
reference_outside = refl

section_outside : document_of (codes "<![CDATA[]]><a/>") ≡ None
unfolding chars is_utf8 encode_utf8 document_of content_nodes after_declaration declaration_at fields_at are_fields is_version is_version_info is_utf8_declaration is_standalone nodes_of many sequence piece_at markup_at start_tag_at end_tag_at comment_at cdata_at instruction_at declared_at attribute_at characters_at qname_at ncname_at with_start_tag with_end_tag with_tag with_characters with_cdata content_of started_of with_binding element_name prefixed_name attribute_name bound_attribute are_distinct declares bound_namespace declared_binding may_bind expanded_at referenced_character
section_outside = refl

byte_order_mark : document_of (0xEF ∷ 0xBB ∷ 0xBF ∷ codes "<a/>") ≡ Some (Start (name [] (codes "a")) [] ∷ End ∷ [])
unfolding chars is_utf8 encode_utf8 document_of content_nodes after_declaration declaration_at fields_at are_fields is_version is_version_info is_utf8_declaration is_standalone nodes_of many sequence piece_at markup_at start_tag_at end_tag_at comment_at cdata_at instruction_at declared_at attribute_at characters_at qname_at ncname_at with_start_tag with_end_tag with_tag with_characters with_cdata content_of started_of with_binding element_name prefixed_name attribute_name bound_attribute are_distinct declares bound_namespace declared_binding may_bind expanded_at referenced_character
byte_order_mark = refl

lines : document_of (codes "<a>" ++ 13 ∷ 10 ∷ 13 ∷ codes "</a>") ≡ Some (Start (name [] (codes "a")) [] ∷ Text (10 ∷ 10 ∷ []) ∷ End ∷ [])
unfolding chars is_utf8 encode_utf8 document_of content_nodes after_declaration declaration_at fields_at are_fields is_version is_version_info is_utf8_declaration is_standalone nodes_of many sequence piece_at markup_at start_tag_at end_tag_at comment_at cdata_at instruction_at declared_at attribute_at characters_at qname_at ncname_at with_start_tag with_end_tag with_tag with_characters with_cdata content_of started_of with_binding element_name prefixed_name attribute_name bound_attribute are_distinct declares bound_namespace declared_binding may_bind expanded_at referenced_character
lines = refl

overlong : document_of (codes "<a>" ++ 0xC0 ∷ 0x80 ∷ codes "</a>") ≡ None
unfolding chars is_utf8 encode_utf8 document_of content_nodes after_declaration declaration_at fields_at are_fields is_version is_version_info is_utf8_declaration is_standalone nodes_of many sequence piece_at markup_at start_tag_at end_tag_at comment_at cdata_at instruction_at declared_at attribute_at characters_at qname_at ncname_at with_start_tag with_end_tag with_tag with_characters with_cdata content_of started_of with_binding element_name prefixed_name attribute_name bound_attribute are_distinct declares bound_namespace declared_binding may_bind expanded_at referenced_character
overlong = refl

not_a_char : document_of (codes "<a>" ++ 0xEF ∷ 0xBF ∷ 0xBE ∷ codes "</a>") ≡ None
unfolding chars is_utf8 encode_utf8 document_of content_nodes after_declaration declaration_at fields_at are_fields is_version is_version_info is_utf8_declaration is_standalone nodes_of many sequence piece_at markup_at start_tag_at end_tag_at comment_at cdata_at instruction_at declared_at attribute_at characters_at qname_at ncname_at with_start_tag with_end_tag with_tag with_characters with_cdata content_of started_of with_binding element_name prefixed_name attribute_name bound_attribute are_distinct declares bound_namespace declared_binding may_bind expanded_at referenced_character
not_a_char = refl

-- ---- elements that could have been read

could_be_read : is_start (name (codes "DAV:") (codes "href")) (record { name = name (codes "u:") (codes "a"); value = codes "<\"&" } ∷ record { name = name [] (codes "a"); value = [] } ∷ []) ≡ true
unfolding are_distinct encode_utf8
could_be_read = refl

attribute_twice : is_start (name [] (codes "e")) (record { name = name [] (codes "a"); value = [] } ∷ record { name = name [] (codes "a"); value = [] } ∷ []) ≡ false
unfolding are_distinct encode_utf8
attribute_twice = refl

colon_in_a_name : is_name (name [] (codes "a:b")) ≡ false
colon_in_a_name = refl

declaration : is_attribute (record { name = name [] (codes "xmlns"); value = codes "u" }) ≡ false
declaration = refl

namespace_of_declarations : is_name (name (codes "http://www.w3.org/2000/xmlns/") (codes "a")) ≡ false
namespace_of_declarations = refl

-- ---- documents that could have been read

one : List Node
one = Start (name [] (codes "a")) [] ∷ Text (codes "]]>" ++ 13 ∷ 0xE9 ∷ []) ∷ Start (name (codes "DAV:") (codes "b")) [] ∷ End ∷ Text (codes "x") ∷ End ∷ []

readable : is_readable one ≡ true
unfolding one are_distinct encode_utf8
readable = refl

texts_that_meet : is_readable (Start (name [] (codes "a")) [] ∷ Text (codes "x") ∷ Text (codes "y") ∷ End ∷ []) ≡ false
unfolding are_distinct encode_utf8
texts_that_meet = refl

empty_text : is_readable (Start (name [] (codes "a")) [] ∷ Text [] ∷ End ∷ []) ≡ false
unfolding are_distinct encode_utf8
empty_text = refl

no_char : is_readable (Start (name [] (codes "a")) [] ∷ Text (11 ∷ []) ∷ End ∷ []) ≡ false
unfolding are_distinct encode_utf8
no_char = refl

not_ended_yet : is_readable (Start (name [] (codes "a")) [] ∷ []) ≡ false
unfolding are_distinct encode_utf8
not_ended_yet = refl

kept_inside : written_parts (Made (Start (name [] (codes "a")) []) ∷ Kept (Start (name [] (codes "b")) [] ∷ End ∷ []) ∷ Made End ∷ []) ≡ codes "<a xmlns:D=\"DAV:\"><b xmlns:D=\"DAV:\" xmlns=\"\"></b></a>"
unfolding written_parts with_start with_end start_text tag_name declared_text written_alone
kept_inside = refl

inside_another : option_map may_begin (front_at (codes "<?xml version='1.0'?> <a xmlns='u' xmlns:D='v'>x<b/>")) ≡ Some true
unfolding front_at chars is_utf8 encode_utf8 after_declaration declaration_at fields_at are_fields is_version is_version_info is_utf8_declaration is_standalone many sequence piece_at markup_at start_tag_at end_tag_at comment_at cdata_at instruction_at declared_at attribute_at characters_at qname_at ncname_at with_start_tag with_end_tag with_tag with_characters with_cdata content_of started_of with_binding element_name prefixed_name attribute_name bound_attribute are_distinct declares bound_namespace declared_binding may_bind expanded_at referenced_character
inside_another = refl

behind_the_element : option_map may_begin (front_at (codes "<a/>")) ≡ Some false
unfolding front_at chars is_utf8 encode_utf8 after_declaration declaration_at fields_at are_fields is_version is_version_info is_utf8_declaration is_standalone many sequence piece_at markup_at start_tag_at end_tag_at comment_at cdata_at instruction_at declared_at attribute_at characters_at qname_at ncname_at with_start_tag with_end_tag with_tag with_characters with_cdata content_of started_of with_binding element_name prefixed_name attribute_name bound_attribute are_distinct declares bound_namespace declared_binding may_bind expanded_at referenced_character
behind_the_element = refl

inside_a_tag : front_at (codes "<a b='") ≡ None
unfolding front_at chars is_utf8 encode_utf8 after_declaration declaration_at fields_at are_fields is_version is_version_info is_utf8_declaration is_standalone many sequence piece_at markup_at start_tag_at end_tag_at comment_at cdata_at instruction_at declared_at attribute_at characters_at qname_at ncname_at with_start_tag with_end_tag with_tag with_characters with_cdata content_of started_of with_binding element_name prefixed_name attribute_name bound_attribute are_distinct declares bound_namespace declared_binding may_bind expanded_at referenced_character
inside_a_tag = refl
