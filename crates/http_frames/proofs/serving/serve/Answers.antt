use Rattle.std.proofs.Common.{Err, refl}
use Rattle.line_streams.specs.declared.Fault.TheVariants.{Io}
use Rattle.http_frames.specs.Frames.{unread}
use Rattle.http_frames.proofs.Following.{broke, ended}
use Rattle.http_frames.proofs.Running.{served_none, served_then, served_then_breaks, serves_breaks, wrote_then_breaks}
use Rattle.http_frames.proofs.serving.serve.Goals as goal

pub loop-step-init : goal.loop-step-init
loop-step-init g c =
    served_none g.S.TurnService.begins g.S.Service.answers g.S.TurnService.clocked g.S.TurnService.listed c.args.clients.now c.args.service.now.service (unread g.I.Read.remaining c.args.frames.now) (g.O.Write.contents c.args.output.now)

pub returns-in_err-ended : goal.returns-in_err-ended
returns-in_err-ended g c = λ has.
    let held = g.O.Write.contents c.args.output.now in
    let s = c.args.service.now.service in
    broke g.S.TurnService.begins g.S.Service.answers g.S.TurnService.clocked g.S.TurnService.listed c.from_residual.result c.args.clients.now c.go_on.new.clients s c.go_on.new.service.service
    (unread g.I.Read.remaining c.args.frames.now) (unread g.I.Read.remaining c.go_on.new.frames) held (g.O.Write.contents c.go_on.new.output) c.from_residual.ensures.0 has
    (served_then_breaks g.S.TurnService.begins g.S.Service.answers g.S.TurnService.clocked g.S.TurnService.listed c.args.clients.now c.loop-step.clients c.go_on.new.clients s c.loop-step.service.service c.go_on.new.service.service
    (unread g.I.Read.remaining c.args.frames.now) (unread g.I.Read.remaining c.loop-step.frames) held (g.O.Write.contents c.loop-step.output) (g.O.Write.contents c.go_on.new.output) c.loop-step.invariant
    c.in_err-ended.ensures.err)

pub returns-in_err-finish : goal.returns-in_err-finish
returns-in_err-finish g c = λ has.
    let held = g.O.Write.contents c.args.output.now in
    let s = c.args.service.now.service in
    let f = rw c.in-Some.is at c.in_ok-ended.ensures.ok in
    broke g.S.TurnService.begins g.S.Service.answers g.S.TurnService.clocked g.S.TurnService.listed c.from_residual-in_err-finish.result c.args.clients.now c.finish.new.clients s c.finish.new.service.service
    (unread g.I.Read.remaining c.args.frames.now) (unread g.I.Read.remaining c.go_on.new.frames) held (g.O.Write.contents c.finish.new.output) c.from_residual-in_err-finish.ensures.0 has
    (served_then_breaks g.S.TurnService.begins g.S.Service.answers g.S.TurnService.clocked g.S.TurnService.listed c.args.clients.now c.loop-step.clients c.finish.new.clients s c.loop-step.service.service c.finish.new.service.service
    (unread g.I.Read.remaining c.args.frames.now) (unread g.I.Read.remaining c.loop-step.frames) held (g.O.Write.contents c.loop-step.output) (g.O.Write.contents c.finish.new.output) c.loop-step.invariant
    (wrote_then_breaks g.S.TurnService.begins g.S.Service.answers g.S.TurnService.clocked g.S.TurnService.listed c.loop-step.clients c.go_on.new.clients c.finish.new.clients c.loop-step.service.service c.go_on.new.service.service
    c.finish.new.service.service (g.O.Write.contents c.loop-step.output) (g.O.Write.contents c.go_on.new.output) (g.O.Write.contents c.finish.new.output) f.0 c.in_err-finish.ensures.err))

pub returns-in-Some : goal.returns-in-Some
returns-in-Some g c = λ has.
    ended g.S.TurnService.begins g.S.Service.answers g.S.TurnService.clocked g.S.TurnService.listed c.in-Some.end c.args.clients.now c.loop-step.clients c.go_on.new.clients c.finish.new.clients c.args.service.now.service
    c.loop-step.service.service c.go_on.new.service.service c.finish.new.service.service (unread g.I.Read.remaining c.args.frames.now) (unread g.I.Read.remaining c.loop-step.frames)
    (unread g.I.Read.remaining c.go_on.new.frames) (g.O.Write.contents c.args.output.now) (g.O.Write.contents c.loop-step.output) (g.O.Write.contents c.go_on.new.output) (g.O.Write.contents c.finish.new.output) has
    c.loop-step.invariant (rw c.in-Some.is at c.in_ok-ended.ensures.ok) c.in_ok-finish.ensures.ok c.finish.ensures.begun

pub loop-step-preserved : goal.loop-step-preserved
loop-step-preserved g c =
    served_then g.S.TurnService.begins g.S.Service.answers g.S.TurnService.clocked g.S.TurnService.listed c.args.clients.now c.loop-step.clients c.go_on.new.clients c.args.service.now.service c.loop-step.service.service
    c.go_on.new.service.service (unread g.I.Read.remaining c.args.frames.now) (unread g.I.Read.remaining c.loop-step.frames) (unread g.I.Read.remaining c.go_on.new.frames) (g.O.Write.contents c.args.output.now)
    (g.O.Write.contents c.loop-step.output) (g.O.Write.contents c.go_on.new.output) c.loop-step.invariant (rw c.in_default.is at c.in_ok-ended.ensures.ok)

pub returns : goal.returns
returns g c = λ has.
    broke g.S.TurnService.begins g.S.Service.answers g.S.TurnService.clocked g.S.TurnService.listed (Err Io) c.args.clients.now c.loop-step.clients c.args.service.now.service c.loop-step.service.service
    (unread g.I.Read.remaining c.args.frames.now) (unread g.I.Read.remaining c.loop-step.frames) (g.O.Write.contents c.args.output.now) (g.O.Write.contents c.loop-step.output) refl has
    (serves_breaks g.S.TurnService.begins g.S.Service.answers g.S.TurnService.clocked g.S.TurnService.listed c.args.clients.now c.loop-step.clients c.args.service.now.service c.loop-step.service.service
    (unread g.I.Read.remaining c.args.frames.now) (unread g.I.Read.remaining c.loop-step.frames) (g.O.Write.contents c.args.output.now) (g.O.Write.contents c.loop-step.output) c.loop-step.invariant)
