use Rattle.std.proofs.Common.{◌≡◌, drop, map}
use Rattle.dav_xml_core.specs.Namespaces.{attributes_of}
use Rattle.dav_xml_core.specs.Views.{raw_attribute_of}
use Rattle.dav_xml_core.specs.Views as view
use Rattle.dav_xml_core.proofs.Fronts.{list_front}
use Rattle.dav_xml_core.proofs.davxml.namespaces.attributes_of.Given as goal

abbrev pub invariant-loop-attribute : goal.invariant-loop-attribute
invariant-loop-attribute l = list_front (map view.attribute_of l.all.items) (attributes_of l.scope (map raw_attribute_of (drop l.attribute-index l.attributes))) ≡ attributes_of l.scope (map raw_attribute_of l.attributes)
