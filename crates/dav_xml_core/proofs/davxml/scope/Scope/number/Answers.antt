use Rattle.std.proofs.Common.{◌≡◌, refl, sym, ap, ◌∙◌, length, Some, None, false}
use borrow.Author.Tests.{ltb-true, ltb-false}
use Rattle.std.specs.Prelude.{slice_get, unwrap_or, bytes_eq}
use Rattle.std.specs.Rc.{rc_str_bytes}
use Rattle.std.proofs.lemmas.Bool.{false≢true}
use Rattle.std.proofs.lemmas.Option.{none-some, slice_get_read, slice_get_past}
use Rattle.std.proofs.lemmas.Slice.Eq.{bytes_eq-Decides}
use Rattle.dav_xml_core.specs.Scopes.{number_at}
use Rattle.dav_xml_core.proofs.NumberLemmas.{number_found, number_other}
use Rattle.dav_xml_core.proofs.davxml.scope.Scope.number.Goals as goal

pub returns-then-eq : goal.returns-then-eq
returns-then-eq c =
    let items = c.self.inside.bindings.items in
    let t = c.args.namespace.now in
    let is : c.unwrap_or-place.result ≡ unwrap_or (number_at c.self.inside.numbers t) (length items) = cc in
    let lookup = rw c.deref.ensures.value at c.in-Some.ensures.lookup in
    let got : slice_get items c.unwrap_or-place.result ≡ Some c.in-Some.binding.now = slice_get_read _ _ _ _ refl (ltb-true _ _ (sym lookup.0)) lookup.1 in
    let same : rc_str_bytes c.in-Some.binding.now.namespace ≡ t = sym c.as_str.ensures.value ∙ (bytes_eq-Decides c.as_str.result.now t).0 (sym c.eq.ensures ∙ c.if-eq.true) in
    rw (← c.self.view_is) (number_found items c.self.inside.numbers c.self.invariant.numbered t c.unwrap_or-place.result c.in-Some.binding.now is got same)

pub returns : goal.returns
returns c =
    let items = c.self.inside.bindings.items in
    let t = c.args.namespace.now in
    let is : c.unwrap_or-place.result ≡ unwrap_or (number_at c.self.inside.numbers t) (length items) = cc in
    let lookup = rw c.deref.ensures.value at c.in-Some.ensures.lookup in
    let got : slice_get items c.unwrap_or-place.result ≡ Some c.in-Some.binding.now = slice_get_read _ _ _ _ refl (ltb-true _ _ (sym lookup.0)) lookup.1 in
    let last : c.len-last.result ≡ length items = cc in
    let test : bytes_eq c.as_str.result.now t ≡ false = sym c.eq.ensures ∙ c.if-eq.false in
    last ∙ rw (← c.self.view_is) (number_other items c.self.inside.numbers c.self.invariant.numbered t c.unwrap_or-place.result is
    (λ b read same.
    let is_b : b ≡ c.in-Some.binding.now = cc in
    let text : c.as_str.result.now ≡ t = c.as_str.ensures.value ∙ ap (λ x. rc_str_bytes x.namespace) (sym is_b) ∙ same in
    false≢true (sym test ∙ (bytes_eq-Decides c.as_str.result.now t).1 text)))

pub returns-in_default : goal.returns-in_default
returns-in_default c =
    let items = c.self.inside.bindings.items in
    let t = c.args.namespace.now in
    let is : c.unwrap_or-place.result ≡ unwrap_or (number_at c.self.inside.numbers t) (length items) = cc in
    let lookup = rw (c.deref.ensures.value, c.in_default.is) at c.get.ensures.lookup in
    let last : c.len-last.result ≡ length items = cc in
    let past : slice_get items c.unwrap_or-place.result ≡ None = slice_get_past items c.unwrap_or-place.result (ltb-false _ _ (sym lookup.0)) in
    last ∙ rw (← c.self.view_is) (number_other items c.self.inside.numbers c.self.invariant.numbered t c.unwrap_or-place.result is (λ b read same. none-some b (sym past ∙ read)))
