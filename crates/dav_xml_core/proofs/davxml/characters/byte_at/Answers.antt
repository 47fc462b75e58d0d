use Rattle.std.proofs.Common.{ap, ◌∙◌, ℕ, ◌+◌, ◌-◌, false, nat_eq, length, arith}
use Rattle.std.specs.Prelude.{chars}
use Rattle.std.specs.Str.Iter.{char_indices_rest}
use Rattle.std.proofs.lemmas.Str.{IsUtf8-past_char}
use Rattle.dav_xml_core.specs.Refusals.{bytes_before}
use Rattle.dav_xml_core.proofs.CharacterLemmas.{no_second, past_second, past_other, at_place, at_length, within_more}
use Rattle.dav_xml_core.proofs.davxml.characters.byte_at.Goals as goal

pub returns-then-before-eq0 : goal.returns-then-before-eq0
returns-then-before-eq0 c =
    let held = c.loop-at.invariant in
    let steps = c.in-Some.ensures.steps in
    steps.0 ∙ at_place _ _ _ _ _ _ _ held.text steps.1 c.if-before-eq0.true (no_second _ _ c.else-c-eq10.either) held.place

pub loop-at-preserved-then-after_return : goal.loop-at-preserved-then-after_return
loop-at-preserved-then-after_return c =
    let held = c.loop-at.invariant in
    let steps = c.in-Some.ensures.steps in
    let rest = char_indices_rest c.next.new.self in
    record {
      text = IsUtf8-past_char _ _ c.in-Some.c held.text steps.1;
      within = ap (λ (n : ℕ). n + length rest) steps.2 ∙ within_more _ _ _ _ _ steps.1 held.within;
      place = ap (λ (n : ℕ). n + bytes_before false c.loop-at.before (chars rest)) steps.2 ∙ past_second _ _ _ _ _ _ _ held.text steps.1 c.if-c-eq10.true c.if-after_return.true held.place;
    }

pub loop-at-preserved : goal.loop-at-preserved
loop-at-preserved c =
    let held = c.loop-at.invariant in
    let steps = c.in-Some.ensures.steps in
    let rest = char_indices_rest c.next.new.self in
    record {
      text = IsUtf8-past_char _ _ c.in-Some.c held.text steps.1;
      within = ap (λ (n : ℕ). n + length rest) steps.2 ∙ within_more _ _ _ _ _ steps.1 held.within;
      place = ap (λ (n : ℕ). n + bytes_before (nat_eq c.in-Some.c 13) (c.loop-at.before - 1) (chars rest)) steps.2 ∙ past_other _ _ _ _ _ _ _ held.text steps.1 c.if-before-eq0.false (no_second _ _ c.else-c-eq10.either) held.place;
    }

pub returns : goal.returns
returns c =
    let held = c.loop-at.invariant in
    let within = held.within in
    let none = c.in-None.ensures.steps.0 in
    let end = at_length _ _ _ _ _ none held.place in
    omega arith
