use Rattle.std.proofs.Common.{◌≡◌, drop, map}
use Rattle.dav_xml_core.specs.Namespaces.{with_bindings}
use Rattle.dav_xml_core.specs.Views.{raw_attribute_of}
use Rattle.dav_xml_core.proofs.davxml.namespaces.bind_all.Given as goal

abbrev pub invariant-loop-attribute : goal.invariant-loop-attribute
invariant-loop-attribute l = with_bindings l.scope (map raw_attribute_of (drop l.attribute-index l.attributes)) ≡ with_bindings l.fn.scope (map raw_attribute_of l.attributes)
