-- The text, a gate that is shut, and a sync.
use Rattle.std.proofs.Common.{◌≡◌, ◌++◌, length, sym, arith, append_assoc, length-append}
use Rattle.journal_core.specs.Clocked.{disk_of}
use Rattle.journal_core.specs.Format.{shut_word}
use Rattle.journal_core.proofs.Staging.{begins_as, begins_in, behind_next, behind_sync, behind_two}
use Rattle.journal_core.proofs.writing.write_behind.Goals as goal

pub returns-in_err-_end-clause-behind : goal.returns-in_err-_end-clause-behind
returns-in_err-_end-clause-behind g c = behind_next _ c.in_ok-next.ensures.next c.write_piece.ensures.behind c.write_piece-2.ensures.behind

pub returns-in_err-sync-clause-behind : goal.returns-in_err-sync-clause-behind
returns-in_err-sync-clause-behind g c =
    behind_next _ c.in_ok-next.ensures.next c.write_piece.ensures.behind
    (behind_two g.D.Disk.seen g.D.Disk.may_leave c.args.note.now c.in_ok-next.next c.write_piece.new.disk c.write_piece-2.new.disk c.sync.new.self c.write_piece-2.ensures.behind
    (behind_sync g.D.Disk.seen g.D.Disk.may_leave c.args.note.now c.in_ok-next.next c.write_piece-2.new.disk c.sync.new.self c.sync.ensures.noted c.sync.ensures.seen c.sync.ensures.crash))

pub returns-clause-behind : goal.returns-clause-behind
returns-clause-behind g c =
    behind_next _ c.in_ok-next.ensures.next c.write_piece.ensures.behind
    (behind_two g.D.Disk.seen g.D.Disk.may_leave c.args.note.now c.in_ok-next.next c.write_piece.new.disk c.write_piece-2.new.disk c.sync.new.self c.write_piece-2.ensures.behind
    (behind_sync g.D.Disk.seen g.D.Disk.may_leave c.args.note.now c.in_ok-next.next c.write_piece-2.new.disk c.sync.new.self c.sync.ensures.noted c.sync.ensures.seen c.sync.ensures.crash))

pub returns-clause-writes : goal.returns-clause-writes
returns-clause-writes g c = λ front place it.
    let seen = g.D.Disk.seen in
    let text = c.args.text.now in
    let first = c.in_ok-next.ensures.writes front place it in
    let len : length (front ++ text) ≡ c.in_ok-next.next = omega (arith, length-append front text, place, c.in_ok-next.ensures.next) in
    let both = c.in_ok-_end.ensures.writes (front ++ text) len first in
    begins_in (front ++ (text ++ shut_word)) (seen (disk_of c.write_piece-2.new.disk)) (seen (disk_of c.sync.new.self)) (sym c.sync.ensures.seen)
    (begins_as ((front ++ text) ++ shut_word) (front ++ (text ++ shut_word)) (seen (disk_of c.write_piece-2.new.disk)) (append_assoc front text shut_word) both)
