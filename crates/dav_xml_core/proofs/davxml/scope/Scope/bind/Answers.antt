use Rattle.std.proofs.Common.{Some, ◌≡◌, ap, ◌∙◌, subst, arith, rules, length, map, take, List, [], ◌∷◌, ◌++◌, ℕ}
use Rattle.std.proofs.Math.Seq.{take-append_seam}
use Rattle.std.specs.Rc.{rc_str_bytes}
use Rattle.dav_xml_core.specs.declared.davxml.scope.Binding as code
use Rattle.dav_xml_core.specs.Scopes.{PutsPlace, namespace_number, number_at}
use Rattle.dav_xml_core.specs.ScopeTrees.{binding_of, IsNumbered}
use Rattle.dav_xml_core.proofs.NumberLemmas.{numbered_put, numbered_push}
use Rattle.dav_xml_core.proofs.ScopeLemmas.{found_push, found_unchanged, puts_from}
use Rattle.dav_xml_core.proofs.davxml.scope.Scope.bind.Goals as goal

pop_back : (pushed popped items : List code.Binding) (b : code.Binding) (n : ℕ) → pushed ≡ items ++ b ∷ [] → n ≡ length items → popped ≡ take n pushed → popped ≡ items
pop_back pushed popped items b n e k h = h ∙ ap (λ i. take i pushed) k ∙ ap (take (length items)) e ∙ take-append_seam items (b ∷ [])

pub invariant_of-self-in-Ok : goal.invariant_of-self-in-Ok
invariant_of-self-in-Ok c =
    let items = c.self.inside.bindings.items in
    let key : rc_str_bytes c.in_ok-key.key ≡ rc_str_bytes c.args.namespace = c.in_ok-key.ensures.cases in
    let own : c.number-number.result ≡ namespace_number (rc_str_bytes c.args.namespace) (map binding_of items) = rw (c.self.view_is, ← c.as_str.ensures.value) c.number-number.ensures in
    let numbered : IsNumbered items c.insert.new.self = numbered_put items c.in_ok-key.key c.self.inside.numbers c.insert.new.self c.number-number.result c.self.invariant.numbered (rw key own) c.in_ok-insert.ensures.updates in
    let put : number_at c.insert.new.self (rc_str_bytes c.args.namespace) ≡ Some c.number-number.result = subst (λ (t : List ℕ). number_at c.insert.new.self t ≡ Some c.number-number.result) key c.in_ok-insert.ensures.updates.1 in
    let puts : PutsPlace c.self.inside.innermost c.insert-2.new.self c.args.prefix.now (Some c.len-place.result) = puts_from c.args.prefix.now c.self.inside.innermost c.insert-2.new.self (Some c.len-place.result) c.in-Ok.ensures.updates in
    let all : c.len-place.result ≡ length items = omega arith in
    rw c.in_ok-push.ensures.items (record {
      found = found_push items _ _ _ c.self.invariant.found c.place_of-covered.ensures (rw all at puts);
      numbered = numbered_push items _ _ numbered own put;
      no_namespace = c.self.invariant.no_namespace;
    })

pub invariant_of-self-in_err-push : goal.invariant_of-self-in_err-push
invariant_of-self-in_err-push c =
    let items = c.self.inside.bindings.items in
    let key : rc_str_bytes c.in_ok-key.key ≡ rc_str_bytes c.args.namespace = c.in_ok-key.ensures.cases in
    let own : c.number-number.result ≡ namespace_number (rc_str_bytes c.args.namespace) (map binding_of items) = rw (c.self.view_is, ← c.as_str.ensures.value) c.number-number.ensures in
    let numbered : IsNumbered items c.insert.new.self = numbered_put items c.in_ok-key.key c.self.inside.numbers c.insert.new.self c.number-number.result c.self.invariant.numbered (rw key own) c.in_ok-insert.ensures.updates in
    let same : c.push.new.self.items ≡ items = search rules in
    rw same (record { found = c.self.invariant.found; numbered = numbered; no_namespace = c.self.invariant.no_namespace })

pub invariant_of-self-in-Err : goal.invariant_of-self-in-Err
invariant_of-self-in-Err c =
    let items = c.self.inside.bindings.items in
    let key : rc_str_bytes c.in_ok-key.key ≡ rc_str_bytes c.args.namespace = c.in_ok-key.ensures.cases in
    let own : c.number-number.result ≡ namespace_number (rc_str_bytes c.args.namespace) (map binding_of items) = rw (c.self.view_is, ← c.as_str.ensures.value) c.number-number.ensures in
    let numbered : IsNumbered items c.insert.new.self = numbered_put items c.in_ok-key.key c.self.inside.numbers c.insert.new.self c.number-number.result c.self.invariant.numbered (rw key own) c.in_ok-insert.ensures.updates in
    let same : c.pop.new.self.items ≡ items = pop_back c.push.new.self.items c.pop.new.self.items items _ _ c.in_ok-push.ensures.items (omega (arith, c.in_ok-push.ensures.len)) c.pop.ensures.rest in
    rw same (record { found = found_unchanged items c.self.inside.innermost c.insert-2.new.self c.in-Err.ensures.err c.self.invariant.found; numbered = numbered; no_namespace = c.self.invariant.no_namespace })
