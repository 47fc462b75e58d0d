use Rattle.std.proofs.Common.{◌≡◌, sym, ap, ◌∙◌, [], map, Some}
use Rattle.std.specs.Prelude.{option_map}
use Rattle.dav_xml_core.specs.Namespaces.{are_distinct, attribute_names}
use Rattle.dav_xml_core.specs.Scopes.{distinct_keys}
use Rattle.dav_xml_core.specs.Views.{attribute_key_of, raw_attribute_of}
use Rattle.dav_xml_core.proofs.NumberLemmas.{keys_distinct, answered}
use Rattle.dav_xml_core.proofs.davxml.namespaces.have_distinct_names.Goals as goal

pub returns : goal.returns
returns c =
    let raws = map raw_attribute_of c.args.attributes.now in
    let keys = map attribute_key_of c.in_ok-keys.keys.items in
    let expected : option_map are_distinct (attribute_names c.args.scope.now raws) ≡ Some (distinct_keys [] keys) = sym (keys_distinct c.args.scope.now raws) ∙ ap (option_map (distinct_keys [])) c.in_ok-keys.ensures in
    answered c.are_distinct.result keys _ expected (rw c.deref.ensures.value at c.are_distinct.ensures.value) c.are_distinct.ensures.refused
