use Rattle.std.proofs.Common.{◌≡◌, ℕ, List, [], drop, take, map, Bor}
use Rattle.std.specs.List.{list_any}
use Rattle.std.specs.BTreeSet.{contains}
use Rattle.dav_xml_core.specs.Scopes.{distinct_keys, same_key}
use Rattle.dav_xml_core.specs.Views.{attribute_key_of}
use Rattle.dav_xml_core.proofs.DistinctLemmas.{key_cmp}
use Rattle.dav_xml_core.proofs.davxml.namespaces.are_distinct.Given as goal

abbrev pub invariant-loop-key : goal.invariant-loop-key
invariant-loop-key l = record {
  rest : distinct_keys (map attribute_key_of (take l.key-index l.keys)) (map attribute_key_of (drop l.key-index l.keys)) ≡ distinct_keys [] (map attribute_key_of l.keys);
  keys : (key : ℕ × Bor (List ℕ)) → contains key_cmp l.seen key ≡ list_any (same_key (attribute_key_of key)) (map attribute_key_of (take l.key-index l.keys));
}
