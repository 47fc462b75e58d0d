use Rattle.std.proofs.Common.{◌≡◌, drop, map}
use Rattle.std.specs.Prelude.{option_map}
use Rattle.dav_xml_core.specs.Namespaces.{attribute_names}
use Rattle.dav_xml_core.specs.Scopes.{numbered_name}
use Rattle.dav_xml_core.specs.Views.{raw_attribute_of, attribute_key_of}
use Rattle.dav_xml_core.proofs.Fronts.{list_front}
use Rattle.dav_xml_core.proofs.davxml.namespaces.keys_of.Given as goal

abbrev pub invariant-loop-attribute : goal.invariant-loop-attribute
invariant-loop-attribute l = list_front (map attribute_key_of l.keys.items) (option_map (map (numbered_name l.scope)) (attribute_names l.scope (map raw_attribute_of (drop l.attribute-index l.attributes)))) ≡ option_map (map (numbered_name l.scope)) (attribute_names l.scope (map raw_attribute_of l.attributes))
