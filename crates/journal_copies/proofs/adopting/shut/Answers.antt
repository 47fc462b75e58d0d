use Rattle.std.proofs.Common.{rules, ◌≡◌, sym, subst, List, ℕ}
use Rattle.std.proofs.lemmas.Result.{on_ok_weaker}
use Rattle.sqlite_disk.specs.Disk.{Torn, Holds, Only}
use Rattle.journal_core.specs.Clocked.{CrashLeaves, disk_of}
use Rattle.journal_core.specs.Format.{Lies, shut_word}
use Rattle.journal_core.proofs.MomentLaws.{joined}
use Rattle.journal_copies.specs.Broken.{IsAdopting}
use Rattle.journal_copies.specs.DiskLooks.{disk_in, disk_looked_at}
use Rattle.journal_copies.proofs.Breaking.{after_write, call_leaves, gate_shut, not_yet}
use Rattle.journal_copies.proofs.adopting.shut.Goals as goal

pub returns-in_err-write_at-clause-any_moment : goal.returns-in_err-write_at-clause-any_moment
returns-in_err-write_at-clause-any_moment g c = λ rounds it here only.
    let may_leave = g.D.Disk.may_leave in
    let file = g.D.Disk.seen (disk_in c.args.file.now) in
    let h = c.args.broken.now.header in
    let before = may_leave (disk_in c.args.file.now) in
    call_leaves may_leave c.args.note.now (IsAdopting h rounds file) (disk_looked_at c.args.file.now) c.write_at.new.self c.write_at.ensures.noted
    (not_yet h file rounds it before only) (after_write h file rounds it before (may_leave (disk_of c.write_at.new.self)) c.args.broken.now.place here only c.write_at.ensures.crash)

pub returns-in_err-write_at-clause-crash : goal.returns-in_err-write_at-clause-crash
returns-in_err-write_at-clause-crash g c = λ rounds it here only.
    let may_leave = g.D.Disk.may_leave in
    after_write c.args.broken.now.header (g.D.Disk.seen (disk_in c.args.file.now)) rounds it (may_leave (disk_in c.args.file.now)) (may_leave (disk_of c.write_at.new.self)) c.args.broken.now.place here only c.write_at.ensures.crash

pub returns-clause-adopts : goal.returns-clause-adopts
returns-clause-adopts g c =
    on_ok_weaker c.sync.result
    (λ durable rounds it here.
    let seen = g.D.Disk.seen in
    let file = seen (disk_in c.args.file.now) in
    let h = c.args.broken.now.header in
    let mid = seen (disk_of c.write_at.new.self) in
    let now = seen (disk_of c.sync.new.self) in
    let same : now ≡ mid = c.sync.ensures.seen in
    let torn = subst (λ k. Torn k 8 file mid) here c.write_at.ensures.others in
    let holds = subst (λ k. Holds mid k shut_word) here (c.in_ok-write_at.ensures.written (search rules)) in
    let lies = gate_shut h file rounds it mid torn holds in
    (subst (λ (f : List ℕ). Lies h f rounds) (sym same) lies, subst (λ (f : List ℕ). Only f (g.D.Disk.may_leave (disk_of c.sync.new.self))) (sym same) durable))
    c.sync.ensures.durable

pub returns-clause-any_moment : goal.returns-clause-any_moment
returns-clause-any_moment g c = λ rounds it here only.
    let may_leave = g.D.Disk.may_leave in
    let file = g.D.Disk.seen (disk_in c.args.file.now) in
    let h = c.args.broken.now.header in
    let before = may_leave (disk_in c.args.file.now) in
    let P = IsAdopting h rounds file in
    let after = after_write h file rounds it before (may_leave (disk_of c.write_at.new.self)) c.args.broken.now.place here only c.write_at.ensures.crash in
    let first = call_leaves may_leave c.args.note.now P (disk_looked_at c.args.file.now) c.write_at.new.self c.write_at.ensures.noted (not_yet h file rounds it before only) after in
    let second = call_leaves may_leave c.args.note.now P c.write_at.new.self c.sync.new.self c.sync.ensures.noted after (λ f left. after f (c.sync.ensures.crash f left)) in
    joined (CrashLeaves may_leave c.args.note.now P) (disk_looked_at c.args.file.now) c.write_at.new.self c.sync.new.self first second

pub returns-clause-crash : goal.returns-clause-crash
returns-clause-crash g c = λ rounds it here only f left.
    let may_leave = g.D.Disk.may_leave in
    after_write c.args.broken.now.header (g.D.Disk.seen (disk_in c.args.file.now)) rounds it (may_leave (disk_in c.args.file.now)) (may_leave (disk_of c.write_at.new.self)) c.args.broken.now.place here only c.write_at.ensures.crash f (c.sync.ensures.crash f left)
