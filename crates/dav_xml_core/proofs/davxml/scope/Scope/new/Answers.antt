use Rattle.dav_xml_core.proofs.NumberLemmas.{numbered_none}
use Rattle.dav_xml_core.proofs.ScopeLemmas.{found_none}
use Rattle.dav_xml_core.proofs.davxml.scope.Scope.new.Goals as goal

pub invariant_of-result : goal.invariant_of-result
invariant_of-result c = rw c.new.ensures.items (record {
  found = found_none c.new-2.result c.new-2.ensures.empty;
  numbered = numbered_none c.new-3.result;
  no_namespace = c.in_ok-no_namespace.ensures.ok;
})
