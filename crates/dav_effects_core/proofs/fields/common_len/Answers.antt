use Rattle.std.proofs.Common.{drop, arith}
use Rattle.dav_effects_core.specs.ByteForms.{common_len}
use Rattle.dav_effects_core.proofs.Fronts.{common_one, common_end_text}
use Rattle.dav_effects_core.proofs.fields.common_len.Goals as goal

pub comparing-preserved : goal.comparing-preserved
comparing-preserved c =
    let more = common_one c.args.before.now c.args.text.now c.comparing.count c.comparing-test.true c.if-count-text.true c.if-before-count.false in
    record { before = omega arith; text = omega arith; same = omega (arith, c.comparing.invariant.same, more) }

pub returns-else-count-text-clause-value : goal.returns-else-count-text-clause-value
returns-else-count-text-clause-value c =
    omega (arith, c.comparing.invariant.same, common_end_text (drop c.comparing.count c.args.before.now) c.args.text.now c.comparing.count (omega arith))
