use Rattle.std.proofs.Common.{◌≡◌, sym, ap, ◌∙◌, ◌<◌, ◌≤◌, ◌∷◌, ◌++◌, [], suc, arith, length, map, Some, None, ℕ, List, Option}
use Rattle.std.specs.Prelude.{codes}
use Rattle.std.proofs.lemmas.List.{map_push}
use Rattle.dav_xml_core.specs.Markup.{RawAttribute, attribute_at}
use Rattle.dav_xml_core.specs.Scanning.{skip_white, after_mark}
use Rattle.dav_xml_core.specs.Declarations.{fields_at}
use Rattle.dav_xml_core.specs.Views.{raw_attribute_of}
use Rattle.dav_xml_core.proofs.SequenceLemmas.{starts, ends, goes_on, fails, exhausted}
use Rattle.dav_xml_core.proofs.davxml.declarations.fields_at.Goals as goal

abbrev ending : List ℕ → Option (List ℕ)
ending rest = after_mark (codes "?>") (skip_white rest)

pub loop-init : goal.loop-init
loop-init c = rw c.new-fields.ensures.items (starts {A = RawAttribute} {E = List ℕ} ending attribute_at c.args.text.now)

pub returns-in-Some : goal.returns-in-Some
unfolding fields_at
returns-in-Some c =
    let n = suc (length c.args.text.now) in
    let lt : c.loop.counter < n = omega arith in
    let at : ending c.loop.rest.now ≡ Some c.in-Some.after.now = ap (after_mark (codes "?>")) (sym c.skip_white.ensures) ∙ sym c.in-Some.ensures in
    ends {A = RawAttribute} {E = List ℕ} ending attribute_at (map raw_attribute_of c.loop.fields.items) n c.loop.counter c.loop.rest.now c.in-Some.after.now _ lt at c.loop.invariant

pub loop-preserved : goal.loop-preserved
loop-preserved c =
    let n = suc (length c.args.text.now) in
    let lt : c.loop.counter < n = omega arith in
    let one = raw_attribute_of c.in-Some-attribute_at.field in
    let pushed : map raw_attribute_of c.push.new.self.items ≡ map raw_attribute_of c.loop.fields.items ++ one ∷ [] = rw c.in_ok-push.ensures.items (map_push _ c.loop.fields.items c.in-Some-attribute_at.field) in
    let at : ending c.loop.rest.now ≡ None = ap (after_mark (codes "?>")) (sym c.skip_white.ensures) ∙ sym c.in_default.ensures in
    rw pushed (goes_on {A = RawAttribute} {E = List ℕ} ending attribute_at (map raw_attribute_of c.loop.fields.items) n c.loop.counter c.loop.rest.now one c.in-Some-attribute_at.after.now _ lt at (sym c.in-Some-attribute_at.ensures) c.loop.invariant)

pub returns-in_default-attribute_at : goal.returns-in_default-attribute_at
unfolding fields_at
returns-in_default-attribute_at c =
    let n = suc (length c.args.text.now) in
    let lt : c.loop.counter < n = omega arith in
    let at : ending c.loop.rest.now ≡ None = ap (after_mark (codes "?>")) (sym c.skip_white.ensures) ∙ sym c.in_default.ensures in
    fails {A = RawAttribute} {E = List ℕ} ending attribute_at (map raw_attribute_of c.loop.fields.items) n c.loop.counter c.loop.rest.now _ lt at (sym c.in_default-attribute_at.ensures) c.loop.invariant

pub returns : goal.returns
unfolding fields_at
returns c =
    let n = suc (length c.args.text.now) in
    let le : n ≤ c.loop.counter = omega arith in
    exhausted {A = RawAttribute} {E = List ℕ} ending attribute_at (map raw_attribute_of c.loop.fields.items) n c.loop.counter c.loop.rest.now _ le c.loop.invariant
