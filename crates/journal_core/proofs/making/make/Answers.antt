-- The zero byte is there already, or it is written first.
use Rattle.std.proofs.Common.{◌≤◌, ℕ, List, [], length, subst, arith}
use Rattle.sqlite_disk.specs.Disk.{Torn}
use Rattle.journal_core.specs.Clocked.{disk_of, CrashLeaves}
use Rattle.journal_core.specs.Private.DiskMoments.{joined, leaves_weaker}
use Rattle.journal_core.specs.Format.{StandsFor}
use Rattle.journal_core.specs.Private.Stages.{Wrote}
use Rattle.journal_core.proofs.NewFile.{new_stands, first_new, first_zero, new_zero}
use Rattle.journal_core.proofs.making.make.Goals as goal

pub returns-then-len-gt1-clause-made : goal.returns-then-len-gt1-clause-made
returns-then-len-gt1-clause-made g c = λ h fits text_is len new.
    let seen = g.D.Disk.seen in
    let may_leave = g.D.Disk.may_leave in
    let before = disk_of c.args.disk.now in
    let begun = new_zero (seen before) (omega (arith, len, c.if-len-gt1.true)) new in
    c.finish.ensures.made h fits text_is begun

pub returns-then-len-gt1-clause-any_moment : goal.returns-then-len-gt1-clause-any_moment
returns-then-len-gt1-clause-any_moment g c = λ h fits text_is len new only.
    let seen = g.D.Disk.seen in
    let may_leave = g.D.Disk.may_leave in
    let before = disk_of c.args.disk.now in
    let begun = new_zero (seen before) (omega (arith, len, c.if-len-gt1.true)) new in
    c.finish.ensures.any_moment h fits text_is begun only

pub returns-then-len-gt1-clause-crash : goal.returns-then-len-gt1-clause-crash
returns-then-len-gt1-clause-crash g c = λ h fits text_is len new only f left.
    let seen = g.D.Disk.seen in
    let may_leave = g.D.Disk.may_leave in
    let before = disk_of c.args.disk.now in
    let begun = new_zero (seen before) (omega (arith, len, c.if-len-gt1.true)) new in
    c.finish.ensures.crash h fits text_is begun only f left

pub returns-in_err-put-clause-any_moment : goal.returns-in_err-put-clause-any_moment
returns-in_err-put-clause-any_moment g c = λ h fits text_is len new only.
    let seen = g.D.Disk.seen in
    let may_leave = g.D.Disk.may_leave in
    let before = disk_of c.args.disk.now in
    let few : length (seen before) ≤ 1 = omega (arith, len, c.if-len-gt1.false) in
    let P : List ℕ → Type 0 = λ f. StandsFor h f [] in
    let first = leaves_weaker may_leave c.args.note.now (Wrote 0 1 (may_leave before)) P (λ f w. new_stands h f (first_new (seen before) f few (subst (λ (d : List ℕ). Torn 0 1 d f) (only w.0 w.1) w.2))) c.args.disk.now c.put.new.disk c.put.ensures.any_moment in
    first

pub returns-in_err-put-clause-crash : goal.returns-in_err-put-clause-crash
returns-in_err-put-clause-crash g c = λ h fits text_is len new only f left.
    let seen = g.D.Disk.seen in
    let may_leave = g.D.Disk.may_leave in
    let before = disk_of c.args.disk.now in
    let few : length (seen before) ≤ 1 = omega (arith, len, c.if-len-gt1.false) in
    let w = c.put.ensures.crash f left in
    new_stands h f (first_new (seen before) f few (subst (λ (d : List ℕ). Torn 0 1 d f) (only w.0 w.1) w.2))

pub returns-clause-made : goal.returns-clause-made
returns-clause-made g c = λ h fits text_is len new.
    let seen = g.D.Disk.seen in
    let may_leave = g.D.Disk.may_leave in
    let before = disk_of c.args.disk.now in
    let few : length (seen before) ≤ 1 = omega (arith, len, c.if-len-gt1.false) in
    let mid = disk_of c.put.new.disk in
    let begun = first_zero (seen before) (seen mid) few c.in_ok-put.ensures.others c.in_ok-put.ensures.holds in
    c.finish-2.ensures.made h fits text_is begun

pub returns-clause-any_moment : goal.returns-clause-any_moment
returns-clause-any_moment g c = λ h fits text_is len new only.
    let seen = g.D.Disk.seen in
    let may_leave = g.D.Disk.may_leave in
    let before = disk_of c.args.disk.now in
    let few : length (seen before) ≤ 1 = omega (arith, len, c.if-len-gt1.false) in
    let mid = disk_of c.put.new.disk in
    let begun = first_zero (seen before) (seen mid) few c.in_ok-put.ensures.others c.in_ok-put.ensures.holds in
    let P : List ℕ → Type 0 = λ f. StandsFor h f [] in
    let first = leaves_weaker may_leave c.args.note.now (Wrote 0 1 (may_leave before)) P (λ f w. new_stands h f (first_new (seen before) f few (subst (λ (d : List ℕ). Torn 0 1 d f) (only w.0 w.1) w.2))) c.args.disk.now c.put.new.disk c.put.ensures.any_moment in
    joined (CrashLeaves may_leave c.args.note.now P) c.args.disk.now c.put.new.disk c.finish-2.new.disk first (c.finish-2.ensures.any_moment h fits text_is begun c.in_ok-put.ensures.durable)

pub returns-clause-crash : goal.returns-clause-crash
returns-clause-crash g c = λ h fits text_is len new only f left.
    let seen = g.D.Disk.seen in
    let may_leave = g.D.Disk.may_leave in
    let before = disk_of c.args.disk.now in
    let few : length (seen before) ≤ 1 = omega (arith, len, c.if-len-gt1.false) in
    let mid = disk_of c.put.new.disk in
    let begun = first_zero (seen before) (seen mid) few c.in_ok-put.ensures.others c.in_ok-put.ensures.holds in
    c.finish-2.ensures.crash h fits text_is begun c.in_ok-put.ensures.durable f left
