use Rattle.kept_frames.proofs.Standings.{kept_stays}
use Rattle.kept_frames.proofs.Steps.{breaks_then, fails}
use Rattle.kept_frames.proofs.Taking.{unturned_broken}
use Rattle.kept_frames.proofs.TouchLemmas.{standing_taken, standing_touched, standing_untouched}
use Rattle.kept_frames.proofs.serving.take_next.Goals as goal

pub returns-in_err-touch_for-clause-err : goal.returns-in_err-touch_for-clause-err
returns-in_err-touch_for-clause-err g c = fails c.from_residual.result (standing_untouched c.args.clients.now c.args.service.now.service c.touch_for.ensures.keeps)

pub returns-in_err-right-clause-err : goal.returns-in_err-right-clause-err
returns-in_err-right-clause-err g c =
    fails c.from_residual-in_err-right.result
    (breaks_then (standing_touched c.args.clients.now c.args.service.now.service c.touch_for.ensures.keeps c.in_ok-touch_for.ensures.stays)
    (unturned_broken kept_stays g.met.S.Recording.clocks g.met.S.Recording.lists c.in_err-right.ensures.err tt))

pub returns-clause-ok : goal.returns-clause-ok
returns-clause-ok g c =
    standing_taken g.S.TurnService.begins g.S.Service.answers g.S.TurnService.clocked g.S.TurnService.listed g.S.Recording.stands g.D.Disk.seen g.D.Disk.may_leave g.D.Disk.is_clean g.O.Write.contents g.met.S.Recording.clocks
    g.met.S.Recording.lists c.args.clients.now c.take_frame.new.clients c.args.service.now.service c.take_frame.new.service.service c.args.journal.now c.touch_for.new.journal c.note.new.self c.args.output.now
    c.take_frame.new.output c.args.head c.args.bytes.now c.touch_for.ensures.keeps c.in_ok-touch_for.ensures.stays c.in_ok-right.right c.in_ok-right.ensures.ok c.note.ensures.noted c.note.ensures.header c.note.ensures.settled
