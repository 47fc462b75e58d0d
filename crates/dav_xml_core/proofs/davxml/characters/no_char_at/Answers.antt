use Rattle.std.proofs.Common.{sym, ap, ◌∙◌, ℕ, Some}
use Rattle.std.proofs.lemmas.Str.{IsUtf8-past_char}
use Rattle.dav_xml_core.specs.Refusals.{no_char_at}
use Rattle.std.specs.Prelude.{chars}
use Rattle.std.specs.Str.Iter.{char_indices_rest}
use Rattle.dav_xml_core.proofs.CharacterLemmas.{all_are, is_next, is_here}
use Rattle.dav_xml_core.proofs.davxml.characters.no_char_at.Goals as goal

pub returns-then-not-is_char : goal.returns-then-not-is_char
returns-then-not-is_char c =
    let held = c.loop-at.invariant in
    let steps = c.in-Some.ensures.steps in
    ap (λ (n : ℕ). Some n) steps.0 ∙ is_here _ _ _ _ _ held.0 steps.1 (sym c.is_char.ensures ∙ c.if-not-is_char.true) held.1

pub loop-at-preserved : goal.loop-at-preserved
loop-at-preserved c =
    let held = c.loop-at.invariant in
    let steps = c.in-Some.ensures.steps in (
      IsUtf8-past_char _ _ c.in-Some.c held.0 steps.1,
      ap (λ (n : ℕ). no_char_at n (chars (char_indices_rest c.next.new.self))) steps.2 ∙ is_next _ _ _ _ _ held.0 steps.1 (sym c.is_char.ensures ∙ c.if-not-is_char.false) held.1,
    )

pub returns : goal.returns
returns c = sym (all_are _ _ _ c.in-None.ensures.steps.0 c.loop-at.invariant.1)
