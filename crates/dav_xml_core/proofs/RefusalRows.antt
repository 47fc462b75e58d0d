-- Worked rows of what bytes are read as, computed.
use Rattle.std.proofs.Common.{◌≡◌, refl, [], ◌∷◌, ◌++◌, Err}
use Rattle.std.specs.Prelude.{codes}
use Rattle.std.specs.Str.{is_utf8, chars}
use Rattle.std.specs.Char.{encode_utf8}
use Rattle.dav_xml_core.specs.Declarations.{is_version, is_version_info, is_utf8_declaration, is_standalone, are_fields, fields_at, declaration_at}
use Rattle.dav_xml_core.specs.Markup.{attribute_at, start_tag_at, end_tag_at, comment_at, cdata_at, instruction_at, declared_at, markup_at, characters_at, piece_at}
use Rattle.dav_xml_core.specs.Names.{ncname_at, qname_at}
use Rattle.dav_xml_core.specs.Namespaces.{bound_namespace, declares, may_bind, declared_binding, with_binding, prefixed_name, element_name, attribute_name, bound_attribute, are_distinct, started_of}
use Rattle.dav_xml_core.specs.Reading.{with_start_tag, with_end_tag, with_tag, content_of, with_characters, with_cdata, step}
use Rattle.dav_xml_core.specs.References.{referenced_character, expanded_at}
use Rattle.dav_xml_core.specs.Refusals.{NotWellFormed, DocumentType, Encoding, reading_answer, characters_answer, content_answer, nodes_answer, read_on, declaration_answer}
use Rattle.dav_xml_core.specs.Sequences.{many, sequence}

document_type : reading_answer (codes "<!DOCTYPE a><a/>") ≡ Err DocumentType
unfolding chars is_utf8 encode_utf8 reading_answer characters_answer content_answer nodes_answer read_on declaration_answer declaration_at fields_at are_fields is_version is_version_info is_utf8_declaration is_standalone many sequence step piece_at markup_at start_tag_at end_tag_at comment_at cdata_at instruction_at declared_at attribute_at characters_at qname_at ncname_at with_start_tag with_end_tag with_tag with_characters with_cdata content_of started_of with_binding element_name prefixed_name attribute_name bound_attribute are_distinct declares bound_namespace declared_binding may_bind expanded_at referenced_character
document_type = refl

document_type_inside : reading_answer (codes "<a><!DOCTYPE b></a>") ≡ Err DocumentType
unfolding chars is_utf8 encode_utf8 reading_answer characters_answer content_answer nodes_answer read_on declaration_answer declaration_at fields_at are_fields is_version is_version_info is_utf8_declaration is_standalone many sequence step piece_at markup_at start_tag_at end_tag_at comment_at cdata_at instruction_at declared_at attribute_at characters_at qname_at ncname_at with_start_tag with_end_tag with_tag with_characters with_cdata content_of started_of with_binding element_name prefixed_name attribute_name bound_attribute are_distinct declares bound_namespace declared_binding may_bind expanded_at referenced_character
document_type_inside = refl

another_encoding : reading_answer (codes "<?xml version='1.0' encoding='latin1'?><a/>") ≡ Err Encoding
unfolding chars is_utf8 encode_utf8 reading_answer characters_answer content_answer nodes_answer read_on declaration_answer declaration_at fields_at are_fields is_version is_version_info is_utf8_declaration is_standalone many sequence step piece_at markup_at start_tag_at end_tag_at comment_at cdata_at instruction_at declared_at attribute_at characters_at qname_at ncname_at with_start_tag with_end_tag with_tag with_characters with_cdata content_of started_of with_binding element_name prefixed_name attribute_name bound_attribute are_distinct declares bound_namespace declared_binding may_bind expanded_at referenced_character
another_encoding = refl

wrong_declaration : reading_answer (codes "<?xml version='2.0' encoding='utf-8'?><a/>") ≡ Err (NotWellFormed 0)
unfolding chars is_utf8 encode_utf8 reading_answer characters_answer content_answer nodes_answer read_on declaration_answer declaration_at fields_at are_fields is_version is_version_info is_utf8_declaration is_standalone many sequence step piece_at markup_at start_tag_at end_tag_at comment_at cdata_at instruction_at declared_at attribute_at characters_at qname_at ncname_at with_start_tag with_end_tag with_tag with_characters with_cdata content_of started_of with_binding element_name prefixed_name attribute_name bound_attribute are_distinct declares bound_namespace declared_binding may_bind expanded_at referenced_character
wrong_declaration = refl

mark_of_utf16 : reading_answer (254 ∷ 255 ∷ []) ≡ Err Encoding
unfolding chars is_utf8 encode_utf8 reading_answer characters_answer content_answer nodes_answer read_on declaration_answer declaration_at fields_at are_fields is_version is_version_info is_utf8_declaration is_standalone many sequence step piece_at markup_at start_tag_at end_tag_at comment_at cdata_at instruction_at declared_at attribute_at characters_at qname_at ncname_at with_start_tag with_end_tag with_tag with_characters with_cdata content_of started_of with_binding element_name prefixed_name attribute_name bound_attribute are_distinct declares bound_namespace declared_binding may_bind expanded_at referenced_character
mark_of_utf16 = refl

no_character : reading_answer (codes "<a>" ++ 1 ∷ codes "</a>") ≡ Err (NotWellFormed 3)
unfolding chars is_utf8 encode_utf8 reading_answer characters_answer content_answer nodes_answer read_on declaration_answer declaration_at fields_at are_fields is_version is_version_info is_utf8_declaration is_standalone many sequence step piece_at markup_at start_tag_at end_tag_at comment_at cdata_at instruction_at declared_at attribute_at characters_at qname_at ncname_at with_start_tag with_end_tag with_tag with_characters with_cdata content_of started_of with_binding element_name prefixed_name attribute_name bound_attribute are_distinct declares bound_namespace declared_binding may_bind expanded_at referenced_character
no_character = refl

open_tag : reading_answer (codes "<a>" ++ 13 ∷ 10 ∷ codes "<b") ≡ Err (NotWellFormed 5)
unfolding chars is_utf8 encode_utf8 reading_answer characters_answer content_answer nodes_answer read_on declaration_answer declaration_at fields_at are_fields is_version is_version_info is_utf8_declaration is_standalone many sequence step piece_at markup_at start_tag_at end_tag_at comment_at cdata_at instruction_at declared_at attribute_at characters_at qname_at ncname_at with_start_tag with_end_tag with_tag with_characters with_cdata content_of started_of with_binding element_name prefixed_name attribute_name bound_attribute are_distinct declares bound_namespace declared_binding may_bind expanded_at referenced_character
open_tag = refl

not_ended : reading_answer (codes "<a>") ≡ Err (NotWellFormed 3)
unfolding chars is_utf8 encode_utf8 reading_answer characters_answer content_answer nodes_answer read_on declaration_answer declaration_at fields_at are_fields is_version is_version_info is_utf8_declaration is_standalone many sequence step piece_at markup_at start_tag_at end_tag_at comment_at cdata_at instruction_at declared_at attribute_at characters_at qname_at ncname_at with_start_tag with_end_tag with_tag with_characters with_cdata content_of started_of with_binding element_name prefixed_name attribute_name bound_attribute are_distinct declares bound_namespace declared_binding may_bind expanded_at referenced_character
not_ended = refl

wide_before : reading_answer (codes "<a>" ++ 195 ∷ 169 ∷ codes "<!-- -- --></a>") ≡ Err (NotWellFormed 5)
unfolding chars is_utf8 encode_utf8 reading_answer characters_answer content_answer nodes_answer read_on declaration_answer declaration_at fields_at are_fields is_version is_version_info is_utf8_declaration is_standalone many sequence step piece_at markup_at start_tag_at end_tag_at comment_at cdata_at instruction_at declared_at attribute_at characters_at qname_at ncname_at with_start_tag with_end_tag with_tag with_characters with_cdata content_of started_of with_binding element_name prefixed_name attribute_name bound_attribute are_distinct declares bound_namespace declared_binding may_bind expanded_at referenced_character
wide_before = refl
