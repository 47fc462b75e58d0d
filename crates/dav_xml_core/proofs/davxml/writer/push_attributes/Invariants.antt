use Rattle.std.proofs.Common.{◌≡◌, ◌++◌, drop, map}
use Rattle.dav_xml_core.specs.Views.{attribute_of}
use Rattle.dav_xml_core.specs.Writing.{attributes_text}
use Rattle.dav_xml_core.proofs.davxml.writer.push_attributes.Given as goal

abbrev pub invariant-loop-number : goal.invariant-loop-number
invariant-loop-number l = l.out.items ++ attributes_text l.number (map attribute_of (drop l.number l.attributes)) ≡ l.fn.out.items ++ attributes_text 0 (map attribute_of l.attributes)
