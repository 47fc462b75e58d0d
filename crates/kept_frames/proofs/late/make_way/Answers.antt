use Rattle.std.proofs.Common.{[]}
use Rattle.http_frames.proofs.Results.{on_err-map, on_ok-map}
use Rattle.kept_frames.proofs.Steps.{breaks_then, fails, steps_then}
use Rattle.kept_frames.proofs.Waits.{waits_roomless, waits_roomy}
use Rattle.kept_frames.proofs.late.make_way.Goals as goal

pub returns-in_err-full-clause-err : goal.returns-in_err-full-clause-err
returns-in_err-full-clause-err g c = fails c.from_residual.result (waits_roomless c.args.clients.now c.args.waiting.now c.set_room.ensures.same c.set_room.ensures.keeps)

pub returns-then-full-clause-ok : goal.returns-then-full-clause-ok
returns-then-full-clause-ok g c =
    on_ok-map c.keep_first-then-full.result
    (λ y. (y.0, steps_then (waits_roomy c.args.clients.now c.args.waiting.now c.set_room.ensures.same c.set_room.ensures.keeps c.in_ok-full.ensures.stays) y.1)) c.keep_first-then-full.ensures.ok

pub returns-then-full-clause-err : goal.returns-then-full-clause-err
returns-then-full-clause-err g c =
    on_err-map c.keep_first-then-full.result
    (λ y. (y.0, breaks_then (waits_roomy c.args.clients.now c.args.waiting.now c.set_room.ensures.same c.set_room.ensures.keeps c.in_ok-full.ensures.stays) y.1)) c.keep_first-then-full.ensures.err

pub returns-clause-ok : goal.returns-clause-ok
returns-clause-ok g c = ([], waits_roomy c.args.clients.now c.args.waiting.now c.set_room.ensures.same c.set_room.ensures.keeps c.in_ok-full.ensures.stays)
