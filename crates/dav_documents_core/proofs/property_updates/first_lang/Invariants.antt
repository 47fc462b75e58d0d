use Rattle.std.proofs.Common.{◌≡◌, drop, map}
use Rattle.dav_xml_core.specs.Views.{attribute_of}
use Rattle.dav_documents_core.specs.PropertyUpdates.{first_lang}
use Rattle.dav_documents_core.proofs.property_updates.first_lang.Given as goal

abbrev pub invariant-loop-attribute : goal.invariant-loop-attribute
invariant-loop-attribute l = first_lang (map attribute_of (drop l.attribute-index l.attributes)) ≡ first_lang (map attribute_of l.attributes)
