use Rattle.std.proofs.Common.{ap, ◌∙◌, List, ℕ, ◌++◌, true, false}
use Rattle.std.specs.Prelude.{chars}
use Rattle.std.specs.Str.Iter.{chars_rest}
use Rattle.std.proofs.lemmas.Bool.{ne_eqb}
use Rattle.std.proofs.lemmas.Str.{IsUtf8-past_char}
use Rattle.dav_xml_core.specs.Characters.{lines_from}
use Rattle.dav_xml_core.proofs.CharacterLemmas.{no_second, at_return, at_second, at_other, lines_end}
use Rattle.dav_xml_core.proofs.davxml.characters.lines_of.Goals as goal

pub loop-c-preserved-then-c-eq13 : goal.loop-c-preserved-then-c-eq13
loop-c-preserved-then-c-eq13 c =
    let held = c.loop-c.invariant in
    let step = c.in-Some.ensures.steps.0 in (
      IsUtf8-past_char _ _ c.in-Some.c held.0 step,
      ap (λ (x : List ℕ). x ++ lines_from true (chars (chars_rest c.next.new.self))) c.in_ok-push.ensures.items ∙ at_return _ _ _ _ _ _ held.0 step c.if-c-eq13.true held.1,
    )

pub loop-c-preserved-then-after_return : goal.loop-c-preserved-then-after_return
loop-c-preserved-then-after_return c =
    let held = c.loop-c.invariant in
    let step = c.in-Some.ensures.steps.0 in
    (IsUtf8-past_char _ _ c.in-Some.c held.0 step, at_second _ _ _ _ _ _ held.0 step c.if-c-eq10.true c.if-after_return.true held.1)

pub loop-c-preserved : goal.loop-c-preserved
loop-c-preserved c =
    let held = c.loop-c.invariant in
    let step = c.in-Some.ensures.steps.0 in (
      IsUtf8-past_char _ _ c.in-Some.c held.0 step,
      ap (λ (x : List ℕ). x ++ lines_from false (chars (chars_rest c.next.new.self))) c.in_ok-push-2.ensures.items
          ∙ at_other _ _ _ _ _ _ held.0 step (ne_eqb _ 13 c.if-c-eq13.false) (no_second _ _ c.else-c-eq10.either) held.1,
    )

pub returns : goal.returns
returns c = lines_end _ _ _ _ c.in-None.ensures.steps.0.0 c.loop-c.invariant.1
