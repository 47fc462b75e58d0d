-- Each call, whether it is done or torn.
use Rattle.std.proofs.Common.{inl, inr, length, refl, sym}
use Rattle.journal_core.specs.Clocked.{disk_of, CrashLeaves}
use Rattle.journal_core.specs.Private.DiskMoments.{joined, one_call, goes_call, goes_two}
use Rattle.journal_core.specs.Private.Stages.{ChangesOnce, Wrote}
use Rattle.journal_core.proofs.Staging.{torn_same}
use Rattle.journal_core.proofs.writing.put.Goals as goal

pub returns-in_err-write_at-clause-any_moment : goal.returns-in_err-write_at-clause-any_moment
returns-in_err-write_at-clause-any_moment g c =
    let may_leave = g.D.Disk.may_leave in
    let P = Wrote c.args.at (length c.args.bytes.now) (may_leave (disk_of c.args.disk.now)) in
    one_call may_leave c.args.note.now P c.args.disk.now c.write_at.new.self c.write_at.ensures.noted (λ f left. (f, left, torn_same c.args.at (length c.args.bytes.now) f)) c.write_at.ensures.crash

pub returns-in_err-sync-clause-any_moment : goal.returns-in_err-sync-clause-any_moment
returns-in_err-sync-clause-any_moment g c =
    let may_leave = g.D.Disk.may_leave in
    let P = Wrote c.args.at (length c.args.bytes.now) (may_leave (disk_of c.args.disk.now)) in
    let first = one_call may_leave c.args.note.now P c.args.disk.now c.write_at.new.self c.write_at.ensures.noted (λ f left. (f, left, torn_same c.args.at (length c.args.bytes.now) f)) c.write_at.ensures.crash in
    let second = one_call may_leave c.args.note.now P c.write_at.new.self c.sync.new.self c.sync.ensures.noted c.write_at.ensures.crash (λ f left. c.write_at.ensures.crash f (c.sync.ensures.crash f left)) in
    joined (CrashLeaves may_leave c.args.note.now P) c.args.disk.now c.write_at.new.self c.sync.new.self first second

pub returns-clause-any_moment : goal.returns-clause-any_moment
returns-clause-any_moment g c =
    let may_leave = g.D.Disk.may_leave in
    let P = Wrote c.args.at (length c.args.bytes.now) (may_leave (disk_of c.args.disk.now)) in
    let first = one_call may_leave c.args.note.now P c.args.disk.now c.write_at.new.self c.write_at.ensures.noted (λ f left. (f, left, torn_same c.args.at (length c.args.bytes.now) f)) c.write_at.ensures.crash in
    let second = one_call may_leave c.args.note.now P c.write_at.new.self c.sync.new.self c.sync.ensures.noted c.write_at.ensures.crash (λ f left. c.write_at.ensures.crash f (c.sync.ensures.crash f left)) in
    joined (CrashLeaves may_leave c.args.note.now P) c.args.disk.now c.write_at.new.self c.sync.new.self first second

pub returns-clause-moments : goal.returns-clause-moments
returns-clause-moments g c =
    let seen = g.D.Disk.seen in
    let R = ChangesOnce (seen (disk_of c.args.disk.now)) (seen (disk_of c.sync.new.self)) in
    let first = goes_call R seen c.args.note.now c.args.disk.now c.write_at.new.self c.write_at.ensures.noted (inr refl) (inl (refl, sym c.sync.ensures.seen)) in
    let second = goes_call R seen c.args.note.now c.write_at.new.self c.sync.new.self c.sync.ensures.noted (inr refl) (inr c.sync.ensures.seen) in
    goes_two R seen c.args.disk.now c.write_at.new.self c.sync.new.self first second
