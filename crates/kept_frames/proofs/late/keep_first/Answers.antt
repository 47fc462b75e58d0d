use Rattle.std.proofs.Common.{[]}
use Rattle.journal_core.specs.Resting.{Carries}
use Rattle.http_frames.specs.ConnectionEvents.{IsNoTick}
use Rattle.kept_frames.proofs.Giving.{append_broken}
use Rattle.kept_frames.proofs.Steps.{breaks_then, fails, steps_then}
use Rattle.kept_frames.proofs.Waits.{waits_anew, waits_roomless, waits_roomy}
use Rattle.kept_frames.proofs.late.keep_first.Goals as goal

pub returns-in_err-keep-clause-err : goal.returns-in_err-keep-clause-err
returns-in_err-keep-clause-err g c = fails c.from_residual.result (append_broken IsNoTick (Carries c.args.waiting.now) c.args.clients.now c.args.service.now.service c.keep.ensures.keeps)

pub returns-in_err-set_room-clause-err : goal.returns-in_err-set_room-clause-err
returns-in_err-set_room-clause-err g c =
    fails c.from_residual-in_err-set_room.result
    (breaks_then (waits_anew c.args.clients.now c.args.service.now.service c.args.waiting.now c.keep.new.waiting c.keep.ensures.keeps c.in_ok-keep.ensures.settles c.in_ok-keep.ensures.begins)
    (waits_roomless c.args.clients.now c.keep.new.waiting c.set_room.ensures.same c.set_room.ensures.keeps))

pub returns-clause-ok : goal.returns-clause-ok
returns-clause-ok g c = (
  [],
  steps_then (waits_anew c.args.clients.now c.args.service.now.service c.args.waiting.now c.keep.new.waiting c.keep.ensures.keeps c.in_ok-keep.ensures.settles c.in_ok-keep.ensures.begins)
      (waits_roomy c.args.clients.now c.keep.new.waiting c.set_room.ensures.same c.set_room.ensures.keeps c.in_ok-set_room.ensures.stays),
)
