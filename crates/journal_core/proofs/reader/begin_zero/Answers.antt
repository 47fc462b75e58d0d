use Rattle.std.proofs.Common.{rules, ◌<◌, arith}
use Rattle.journal_core.proofs.reader.begin_zero.Goals as goal

pub returns-clause-new : goal.returns-clause-new
returns-clause-new g c = λ file at honest short most.
    let few : c.in_ok-fill.field-0 < 9 = search rules in
    let long = c.in_ok-fill.ensures.ends file c.args.count at honest few in
    omega (arith, few, long, short, most)
