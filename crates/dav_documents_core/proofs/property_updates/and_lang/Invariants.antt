use Rattle.std.proofs.Common.{◌≡◌, map, take}
use Rattle.dav_xml_core.specs.Views.{attribute_of}
use Rattle.dav_documents_core.proofs.property_updates.and_lang.Given as goal

abbrev pub invariant-loop-attribute : goal.invariant-loop-attribute
invariant-loop-attribute l = map attribute_of l.all.items ≡ map attribute_of (take l.attribute-index l.attributes)
