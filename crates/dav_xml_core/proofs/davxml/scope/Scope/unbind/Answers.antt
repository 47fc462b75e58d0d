use Rattle.dav_xml_core.specs.ScopeTrees.{IsFound, IsNumbered}
use Rattle.std.proofs.Common.{◌++◌, ◌∷◌, []}
use Rattle.dav_xml_core.proofs.NumberLemmas.{numbered_pop}
use Rattle.dav_xml_core.proofs.ScopeLemmas.{found_last, found_pop}
use Rattle.dav_xml_core.proofs.davxml.scope.Scope.unbind.Goals as goal

pub put_back-requires : goal.put_back-requires
put_back-requires c =
    let was : IsFound (c.pop.new.self.items ++ c.in-Some.binding ∷ []) c.self.inside.innermost = rw c.in-Some.ensures.items at c.self.invariant.found in
    found_last c.pop.new.self.items c.in-Some.binding c.self.inside.innermost was

pub invariant_of-self : goal.invariant_of-self
invariant_of-self c =
    let was : IsFound (c.pop.new.self.items ++ c.in-Some.binding ∷ []) c.self.inside.innermost = rw c.in-Some.ensures.items at c.self.invariant.found in
    let numbered : IsNumbered (c.pop.new.self.items ++ c.in-Some.binding ∷ []) c.self.inside.numbers = rw c.in-Some.ensures.items at c.self.invariant.numbered in
    record {
      found = found_pop c.pop.new.self.items c.in-Some.binding c.self.inside.innermost _ was c.put_back.ensures;
      numbered = numbered_pop c.pop.new.self.items c.in-Some.binding c.self.inside.numbers numbered;
      no_namespace = c.self.invariant.no_namespace;
    }
