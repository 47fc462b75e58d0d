use Rattle.http_frames.specs.Frames.{unread}
use Rattle.http_frames.specs.TurnRuns.{ServesFrames}
use Rattle.http_frames.proofs.serving.serve.Given as goal

abbrev pub invariant-loop-step : goal.invariant-loop-step
invariant-loop-step g l =
    ServesFrames g.S.TurnService.begins g.S.Service.answers g.S.TurnService.clocked g.S.TurnService.listed l.fn.clients l.clients l.fn.service.service l.service.service (unread g.I.Read.remaining l.fn.frames) (unread g.I.Read.remaining l.frames)
    (g.O.Write.contents l.fn.output) (g.O.Write.contents l.output)
