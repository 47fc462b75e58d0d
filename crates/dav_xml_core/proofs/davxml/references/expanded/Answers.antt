use Rattle.std.proofs.Common.{◌≡◌, sym, ap, ◌∙◌, ◌<◌, ◌≤◌, [], suc, arith, length, Some, ℕ, List, Option}
use Rattle.std.proofs.lemmas.Bool.{eqb-true, eqb-false}
use Rattle.dav_xml_core.specs.Optional.{◌>>=◌}
use Rattle.dav_xml_core.specs.References.{expanded_at}
use Rattle.dav_xml_core.specs.Sequences.{at_end}
use Rattle.dav_xml_core.proofs.SequenceLemmas.{starts, ends, goes_on, fails, exhausted, at_end_empty, at_end_not}
use Rattle.dav_xml_core.proofs.davxml.references.expanded.Goals as goal

abbrev parts : Option (List ℕ × List ℕ) → Option (List ℕ)
parts found = found >>= λ x. Some x.0

pub loop-init : goal.loop-init
loop-init c = rw c.new-all.ensures.items (starts {A = ℕ} {E = List ℕ} at_end expanded_at c.args.text.now)

pub returns-then-is_empty : goal.returns-then-is_empty
returns-then-is_empty c =
    let n = suc (length c.args.text.now) in
    let lt : c.loop.counter < n = omega arith in
    let empty : length c.loop.rest.now ≡ 0 = eqb-true _ 0 (sym c.is_empty.ensures ∙ c.if-is_empty.true) in
    ap parts (ends {A = ℕ} at_end expanded_at c.loop.all.items n c.loop.counter c.loop.rest.now [] _ lt (at_end_empty c.loop.rest.now empty) c.loop.invariant)

pub loop-preserved : goal.loop-preserved
loop-preserved c =
    let n = suc (length c.args.text.now) in
    let lt : c.loop.counter < n = omega arith in
    let more : length c.loop.rest.now ≡ 0 → ⊥ = eqb-false _ 0 (sym c.is_empty.ensures ∙ c.if-is_empty.false) in
    rw c.in_ok-push.ensures.items (goes_on {A = ℕ} at_end expanded_at c.loop.all.items n c.loop.counter c.loop.rest.now c.in-Some.c c.in-Some.after.now _ lt (at_end_not c.loop.rest.now more) (sym c.in-Some.ensures) c.loop.invariant)

pub returns-in_default : goal.returns-in_default
returns-in_default c =
    let n = suc (length c.args.text.now) in
    let lt : c.loop.counter < n = omega arith in
    let more : length c.loop.rest.now ≡ 0 → ⊥ = eqb-false _ 0 (sym c.is_empty.ensures ∙ c.if-is_empty.false) in
    ap parts (fails {A = ℕ} at_end expanded_at c.loop.all.items n c.loop.counter c.loop.rest.now _ lt (at_end_not c.loop.rest.now more) (sym c.in_default.ensures) c.loop.invariant)

pub returns : goal.returns
returns c =
    let n = suc (length c.args.text.now) in
    let le : n ≤ c.loop.counter = omega arith in
    ap parts (exhausted {A = ℕ} at_end expanded_at c.loop.all.items n c.loop.counter c.loop.rest.now _ le c.loop.invariant)
