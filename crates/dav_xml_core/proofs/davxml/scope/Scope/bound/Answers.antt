use Rattle.std.proofs.Common.{◌≡◌, refl, sym, ap, ◌∙◌, ◌<◌, ◌≤◌, length, Some, None}
use borrow.Author.Tests.{ltb-true, ltb-false}
use Rattle.std.specs.Prelude.{option_map, option_and_then, slice_get}
use Rattle.std.specs.Rc.{rc_str_bytes}
use Rattle.std.proofs.lemmas.Option.{slice_get_read, slice_get_past}
use Rattle.dav_xml_core.specs.Scopes.{place_at}
use Rattle.dav_xml_core.proofs.ScopeLemmas.{found_bound}
use Rattle.dav_xml_core.proofs.davxml.scope.Scope.bound.Goals as goal

pub returns-in_err-place-clause-namespace : goal.returns-in_err-place-clause-namespace
returns-in_err-place-clause-namespace c =
    let none : place_at c.self.inside.innermost c.args.prefix.now ≡ None = sym c.place_of.ensures ∙ c.in_err-place.was in
    rw (c.from_residual.ensures, ← c.self.view_is) (sym (found_bound c.self.inside.bindings.items c.self.inside.innermost c.self.invariant.found c.args.prefix.now ∙ ap (option_and_then (λ i. option_map (λ b. rc_str_bytes b.namespace) (slice_get c.self.inside.bindings.items i))) none))

pub returns-in_err-binding-clause-namespace : goal.returns-in_err-binding-clause-namespace
returns-in_err-binding-clause-namespace c =
    let there : place_at c.self.inside.innermost c.args.prefix.now ≡ Some c.in_ok-place.place = sym c.place_of.ensures ∙ c.in_ok-place.was in
    let past : length c.self.inside.bindings.items ≤ c.in_ok-place.place = rw c.deref.ensures.value at (ltb-false _ _ (sym c.in_err-binding.ensures.lookup.0)) in
    rw (c.from_residual-in_err-binding.ensures, ← c.self.view_is) (sym (
    found_bound c.self.inside.bindings.items c.self.inside.innermost c.self.invariant.found c.args.prefix.now
    ∙ ap (option_and_then (λ i. option_map (λ b. rc_str_bytes b.namespace) (slice_get c.self.inside.bindings.items i))) there
    ∙ ap (option_map (λ b. rc_str_bytes b.namespace)) (slice_get_past c.self.inside.bindings.items c.in_ok-place.place past)))

pub returns-clause-namespace : goal.returns-clause-namespace
returns-clause-namespace c =
    let there : place_at c.self.inside.innermost c.args.prefix.now ≡ Some c.in_ok-place.place = sym c.place_of.ensures ∙ c.in_ok-place.was in
    let lookup = rw c.deref.ensures.value at c.in_ok-binding.ensures.lookup in
    let within : c.in_ok-place.place < length c.self.inside.bindings.items = ltb-true _ _ (sym lookup.0) in
    let got : slice_get c.self.inside.bindings.items c.in_ok-place.place ≡ Some c.in_ok-binding.binding.now = slice_get_read _ _ _ _ refl within lookup.1 in
    rw (← c.self.view_is) (sym (
    found_bound c.self.inside.bindings.items c.self.inside.innermost c.self.invariant.found c.args.prefix.now
    ∙ ap (option_and_then (λ i. option_map (λ b. rc_str_bytes b.namespace) (slice_get c.self.inside.bindings.items i))) there
    ∙ ap (option_map (λ b. rc_str_bytes b.namespace)) got))

pub returns-clause-number : goal.returns-clause-number
returns-clause-number c =
    let lookup = rw c.deref.ensures.value at c.in_ok-binding.ensures.lookup in
    let got : slice_get c.self.inside.bindings.items c.in_ok-place.place ≡ Some c.in_ok-binding.binding.now = slice_get_read _ _ _ _ refl (ltb-true _ _ (sym lookup.0)) lookup.1 in
    rw (← c.self.view_is) (c.self.invariant.numbered.each c.in_ok-place.place c.in_ok-binding.binding.now got)
