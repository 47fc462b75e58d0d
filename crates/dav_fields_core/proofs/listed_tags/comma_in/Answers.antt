use Rattle.std.proofs.Common.{get_or, false}
use Rattle.dav_fields_core.proofs.ListedTagLemmas.{begins, stays, at_quote, at_other, ends_at, all_gone}
use Rattle.dav_fields_core.proofs.listed_tags.comma_in.Goals.{then-b-eq34, else-b-eq34}
use Rattle.dav_fields_core.proofs.listed_tags.comma_in.Goals as goal

pub loop-i-init : goal.loop-i-init
loop-i-init c = begins false c.args.bytes.now

pub loop-i-preserved : goal.loop-i-preserved
loop-i-preserved c =
    let bytes = c.args.bytes.now in
    let b = get_or bytes c.loop-i.i 0 in
    stays bytes c.loop-i.i c.loop-i.inside c.if-b-eq34.inside c.loop-i-test.true c.else-b-eq44.either
    (elim c.if-b-eq34.branch [
      | then-b-eq34 w ↦ at_quote b c.loop-i.inside c.if-b-eq34.inside w.if-b-eq34.true w.inside-is
      | else-b-eq34 w ↦ at_other b c.loop-i.inside c.if-b-eq34.inside w.if-b-eq34.false w.inside-is
    ])
    c.loop-i.invariant

pub returns-then-not-inside : goal.returns-then-not-inside
returns-then-not-inside c =
    (c.loop-i-test.true, ends_at c.args.bytes.now c.loop-i.i c.loop-i.inside c.loop-i-test.true c.if-b-eq44.true c.if-not-inside.true c.loop-i.invariant)

pub returns : goal.returns
returns c = all_gone c.args.bytes.now c.loop-i.i c.loop-i.inside c.loop-i-test.false c.loop-i.invariant
