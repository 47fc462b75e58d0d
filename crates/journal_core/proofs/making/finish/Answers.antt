-- The header, and then the first byte.
use Rattle.std.proofs.Common.{ℕ, List, [], length, subst}
use Rattle.sqlite_disk.specs.Disk.{Torn}
use Rattle.journal_core.specs.Clocked.{disk_of, CrashLeaves}
use Rattle.journal_core.specs.Private.DiskMoments.{joined, leaves_weaker}
use Rattle.journal_core.specs.Format.{StandsFor}
use Rattle.journal_core.specs.Private.Stages.{Wrote}
use Rattle.journal_core.proofs.NewFile.{new_stands, header_new, header_made, last_stands, last_made}
use Rattle.journal_core.proofs.making.finish.Goals as goal

pub returns-in_err-put-clause-crash : goal.returns-in_err-put-clause-crash
returns-in_err-put-clause-crash g c = λ h fits text_is begun only f left.
    let seen = g.D.Disk.seen in
    let text = c.args.text.now in
    let may_leave = g.D.Disk.may_leave in
    let before = disk_of c.args.disk.now in
    let w = c.put.ensures.crash f left in
    new_stands h f (header_new h fits text text_is (seen before) f begun (subst (λ (d : List ℕ). Torn 1 (length text) d f) (only w.0 w.1) w.2))

pub returns-in_err-put-2-clause-crash : goal.returns-in_err-put-2-clause-crash
returns-in_err-put-2-clause-crash g c = λ h fits text_is begun only f left.
    let seen = g.D.Disk.seen in
    let text = c.args.text.now in
    let may_leave = g.D.Disk.may_leave in
    let before = disk_of c.args.disk.now in
    let mid = disk_of c.put.new.disk in
    let is = header_made h fits text text_is (seen before) (seen mid) begun c.in_ok-put.ensures.others c.in_ok-put.ensures.holds in
    let w = c.put-2.ensures.crash f left in
    last_stands h fits text text_is (seen mid) f is (subst (λ (d : List ℕ). Torn 0 1 d f) (c.in_ok-put.ensures.durable w.0 w.1) w.2)

pub returns-clause-crash : goal.returns-clause-crash
returns-clause-crash g c = λ h fits text_is begun only f left.
    let seen = g.D.Disk.seen in
    let text = c.args.text.now in
    let may_leave = g.D.Disk.may_leave in
    let before = disk_of c.args.disk.now in
    let mid = disk_of c.put.new.disk in
    let is = header_made h fits text text_is (seen before) (seen mid) begun c.in_ok-put.ensures.others c.in_ok-put.ensures.holds in
    let w = c.put-2.ensures.crash f left in
    last_stands h fits text text_is (seen mid) f is (subst (λ (d : List ℕ). Torn 0 1 d f) (c.in_ok-put.ensures.durable w.0 w.1) w.2)

pub returns-in_err-put-clause-any_moment : goal.returns-in_err-put-clause-any_moment
returns-in_err-put-clause-any_moment g c = λ h fits text_is begun only.
    let seen = g.D.Disk.seen in
    let text = c.args.text.now in
    let may_leave = g.D.Disk.may_leave in
    let before = disk_of c.args.disk.now in
    let P : List ℕ → Type 0 = λ f. StandsFor h f [] in
    let first = leaves_weaker may_leave c.args.note.now (Wrote 1 (length text) (may_leave before)) P (λ f w. new_stands h f (header_new h fits text text_is (seen before) f begun (subst (λ (d : List ℕ). Torn 1 (length text) d f) (only w.0 w.1) w.2))) c.args.disk.now c.put.new.disk c.put.ensures.any_moment in
    first

pub returns-in_err-put-2-clause-any_moment : goal.returns-in_err-put-2-clause-any_moment
returns-in_err-put-2-clause-any_moment g c = λ h fits text_is begun only.
    let seen = g.D.Disk.seen in
    let text = c.args.text.now in
    let may_leave = g.D.Disk.may_leave in
    let before = disk_of c.args.disk.now in
    let mid = disk_of c.put.new.disk in
    let is = header_made h fits text text_is (seen before) (seen mid) begun c.in_ok-put.ensures.others c.in_ok-put.ensures.holds in
    let P : List ℕ → Type 0 = λ f. StandsFor h f [] in
    let first = leaves_weaker may_leave c.args.note.now (Wrote 1 (length text) (may_leave before)) P (λ f w. new_stands h f (header_new h fits text text_is (seen before) f begun (subst (λ (d : List ℕ). Torn 1 (length text) d f) (only w.0 w.1) w.2))) c.args.disk.now c.put.new.disk c.put.ensures.any_moment in
    let second = leaves_weaker may_leave c.args.note.now (Wrote 0 1 (may_leave mid)) P (λ f w. last_stands h fits text text_is (seen mid) f is (subst (λ (d : List ℕ). Torn 0 1 d f) (c.in_ok-put.ensures.durable w.0 w.1) w.2)) c.put.new.disk c.put-2.new.disk c.put-2.ensures.any_moment in
    joined (CrashLeaves may_leave c.args.note.now P) c.args.disk.now c.put.new.disk c.put-2.new.disk first second

pub returns-clause-any_moment : goal.returns-clause-any_moment
returns-clause-any_moment g c = λ h fits text_is begun only.
    let seen = g.D.Disk.seen in
    let text = c.args.text.now in
    let may_leave = g.D.Disk.may_leave in
    let before = disk_of c.args.disk.now in
    let mid = disk_of c.put.new.disk in
    let is = header_made h fits text text_is (seen before) (seen mid) begun c.in_ok-put.ensures.others c.in_ok-put.ensures.holds in
    let P : List ℕ → Type 0 = λ f. StandsFor h f [] in
    let first = leaves_weaker may_leave c.args.note.now (Wrote 1 (length text) (may_leave before)) P (λ f w. new_stands h f (header_new h fits text text_is (seen before) f begun (subst (λ (d : List ℕ). Torn 1 (length text) d f) (only w.0 w.1) w.2))) c.args.disk.now c.put.new.disk c.put.ensures.any_moment in
    let second = leaves_weaker may_leave c.args.note.now (Wrote 0 1 (may_leave mid)) P (λ f w. last_stands h fits text text_is (seen mid) f is (subst (λ (d : List ℕ). Torn 0 1 d f) (c.in_ok-put.ensures.durable w.0 w.1) w.2)) c.put.new.disk c.put-2.new.disk c.put-2.ensures.any_moment in
    joined (CrashLeaves may_leave c.args.note.now P) c.args.disk.now c.put.new.disk c.put-2.new.disk first second

pub returns-clause-made : goal.returns-clause-made
returns-clause-made g c = λ h fits text_is begun.
    let seen = g.D.Disk.seen in
    let text = c.args.text.now in
    let may_leave = g.D.Disk.may_leave in
    let before = disk_of c.args.disk.now in
    let mid = disk_of c.put.new.disk in
    let is = header_made h fits text text_is (seen before) (seen mid) begun c.in_ok-put.ensures.others c.in_ok-put.ensures.holds in
    last_made h fits text text_is seen may_leave (disk_of c.put-2.new.disk) (seen mid) is c.in_ok-put-2.ensures.others c.in_ok-put-2.ensures.holds c.in_ok-put-2.ensures.durable
