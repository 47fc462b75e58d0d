use Rattle.std.proofs.Common.{rules, ◌<◌, length}
use Rattle.sqlite_disk.specs.Disk.{Holds}
use Rattle.journal_core.specs.Clocked.{disk_of}
use Rattle.journal_core.proofs.Staging.{torn_begins, piece_there, behind_write}
use Rattle.journal_core.proofs.writing.write_piece.Goals as goal

pub returns-in_err-write_at-clause-behind : goal.returns-in_err-write_at-clause-behind
returns-in_err-write_at-clause-behind g c = behind_write g.D.Disk.seen g.D.Disk.may_leave c.args.note.now c.args.at (length c.args.bytes.now) c.args.disk.now c.write_at.new.self c.write_at.ensures.noted c.write_at.ensures.others c.write_at.ensures.crash

pub returns-clause-behind : goal.returns-clause-behind
returns-clause-behind g c = behind_write g.D.Disk.seen g.D.Disk.may_leave c.args.note.now c.args.at (length c.args.bytes.now) c.args.disk.now c.write_at.new.self c.write_at.ensures.noted c.write_at.ensures.others c.write_at.ensures.crash

pub returns-in_err-write_at-clause-seen : goal.returns-in_err-write_at-clause-seen
returns-in_err-write_at-clause-seen g c = λ front low it. torn_begins front c.args.at (length c.args.bytes.now) (g.D.Disk.seen (disk_of c.args.disk.now)) (g.D.Disk.seen (disk_of c.write_at.new.self)) low it c.write_at.ensures.others

pub returns-clause-seen : goal.returns-clause-seen
returns-clause-seen g c = λ front low it. torn_begins front c.args.at (length c.args.bytes.now) (g.D.Disk.seen (disk_of c.args.disk.now)) (g.D.Disk.seen (disk_of c.write_at.new.self)) low it c.write_at.ensures.others

pub returns-clause-writes : goal.returns-clause-writes
returns-clause-writes g c = λ front place it.
    let some : 0 < length c.args.bytes.now = search rules in
    let holds : Holds (g.D.Disk.seen (disk_of c.write_at.new.self)) c.args.at c.args.bytes.now = c.in_ok-write_at.ensures.written some in
    piece_there front c.args.bytes.now (g.D.Disk.seen (disk_of c.args.disk.now)) (g.D.Disk.seen (disk_of c.write_at.new.self)) c.args.at place it c.write_at.ensures.others holds
