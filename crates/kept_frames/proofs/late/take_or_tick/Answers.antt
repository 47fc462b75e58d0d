use Rattle.std.proofs.Common.{refl, sym, true≢false, ◌∙◌}
use Rattle.http_frames.specs.ConnectionEvents.{IsNoTick}
use Rattle.journal_core.specs.Resting.{Carries}
use Rattle.kept_frames.proofs.Giving.{append_broken, appended}
use Rattle.kept_frames.proofs.Standings.{tick_stays, waiting_stays}
use Rattle.kept_frames.proofs.Steps.{breaks_then, fails}
use Rattle.kept_frames.proofs.Taking.{unturned_broken}
use Rattle.kept_frames.proofs.TouchLemmas.{waiting_touched}
use Rattle.kept_frames.proofs.Waits.{other_taken, tick_taken, waits_roomless, waits_roomy}
use Rattle.kept_frames.proofs.late.take_or_tick.Goals as goal

pub returns-in_err-keep-clause-err : goal.returns-in_err-keep-clause-err
returns-in_err-keep-clause-err g c = fails c.from_residual.result (append_broken IsNoTick (Carries c.args.waiting.now) c.args.clients.now c.args.service.now.service c.keep.ensures.keeps)

pub returns-in_err-right-clause-err : goal.returns-in_err-right-clause-err
returns-in_err-right-clause-err g c =
    fails c.from_residual-in_err-right.result
    (breaks_then (appended IsNoTick (Carries c.args.waiting.now) c.args.clients.now c.args.service.now.service c.keep.ensures.keeps c.in_ok-keep.ensures.settles)
    (unturned_broken tick_stays g.met.S.Recording.clocks g.met.S.Recording.lists c.in_err-right.ensures.err tt))

pub returns-then-is_tick-clause-ok : goal.returns-then-is_tick-clause-ok
returns-then-is_tick-clause-ok g c =
    tick_taken g.S.TurnService.begins g.S.Service.answers g.S.TurnService.clocked g.S.TurnService.listed g.S.Recording.stands g.D.Disk.seen g.D.Disk.may_leave g.D.Disk.is_clean g.O.Write.contents g.met.S.Recording.clocks g.met.S.Recording.lists c.args.clients.now
    c.take_frame.new.clients c.args.service.now.service c.take_frame.new.service.service c.args.journal.now c.note.new.self c.args.output.now c.take_frame.new.output c.args.head c.args.bytes.now c.keep.new.journal c.in_ok-right.right
    c.args.waiting.now c.keep.new.waiting c.keep.ensures.keeps c.in_ok-keep.ensures.settles c.in_ok-keep.ensures.begins c.in_ok-right.ensures.ok c.note.ensures.noted c.note.ensures.header c.note.ensures.settled

pub returns-in_err-touch_for-clause-err : goal.returns-in_err-touch_for-clause-err
returns-in_err-touch_for-clause-err g c = fails c.from_residual-in_err-touch_for.result (waits_roomless c.args.clients.now c.args.waiting.now refl c.touch_for.ensures.keeps)

pub returns-in_err-right-2-clause-err : goal.returns-in_err-right-2-clause-err
returns-in_err-right-2-clause-err g c =
    let x = c.in_err-right-2.ensures.err in
    fails c.from_residual-in_err-right-2.result
    (breaks_then (waits_roomy c.args.clients.now c.args.waiting.now refl c.touch_for.ensures.keeps c.in_ok-touch_for.ensures.stays)
    (unturned_broken (waiting_stays (Carries c.args.waiting.now)) g.met.S.Recording.clocks g.met.S.Recording.lists x x.5))

pub returns-clause-ok : goal.returns-clause-ok
returns-clause-ok g c =
    waiting_touched g.S.TurnService.begins g.S.Service.answers g.S.TurnService.clocked g.S.TurnService.listed g.S.Recording.stands g.D.Disk.seen g.D.Disk.may_leave g.D.Disk.is_clean g.O.Write.contents c.args.clients.now c.take_frame-2.new.clients
    c.args.service.now.service c.take_frame-2.new.service.service c.args.journal.now c.touch_for.new.journal c.note-2.new.self c.args.output.now c.take_frame-2.new.output c.args.head c.args.bytes.now c.args.waiting.now
    c.touch_for.ensures.keeps c.in_ok-touch_for.ensures.stays c.in_ok-right-2.right
    (other_taken g.S.TurnService.begins g.S.Service.answers g.S.TurnService.clocked g.S.TurnService.listed g.S.Recording.stands g.D.Disk.seen g.D.Disk.may_leave g.D.Disk.is_clean g.O.Write.contents g.met.S.Recording.clocks g.met.S.Recording.lists
    c.args.clients.now c.take_frame-2.new.clients c.args.service.now.service c.take_frame-2.new.service.service c.touch_for.new.journal c.note-2.new.self c.args.output.now c.take_frame-2.new.output c.args.head c.args.bytes.now
    c.in_ok-right-2.right c.args.waiting.now (λ tells. true≢false (sym (c.is_tick.ensures.1 tells) ∙ c.if-is_tick.false)) c.in_ok-right-2.ensures.ok c.note-2.ensures.noted c.note-2.ensures.header c.note-2.ensures.settled)
