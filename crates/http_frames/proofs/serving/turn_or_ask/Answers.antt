use Rattle.http_frames.proofs.Running.{breaks_same, wrote_ask, wrote_none}
use Rattle.http_frames.proofs.Results.{on_err}
use Rattle.http_frames.proofs.serving.turn_or_ask.Goals as goal

pub returns-in_err-ask-clause-err : goal.returns-in_err-ask-clause-err
returns-in_err-ask-clause-err g c =
    let x = breaks_same g.S.TurnService.begins g.S.Service.answers g.S.TurnService.clocked g.S.TurnService.listed c.args.clients.now c.ask.new.self c.args.service.now.service (g.O.Write.contents c.args.output.now)
    (g.O.Write.contents c.ask.new.output) c.in_err-ask.ensures.fails.0 c.in_err-ask.ensures.fails.1 in
    on_err _ x

pub returns-in_ok-ask-clause-ok : goal.returns-in_ok-ask-clause-ok
returns-in_ok-ask-clause-ok g c =
    wrote_ask g.S.TurnService.begins g.S.Service.answers g.S.TurnService.clocked g.S.TurnService.listed c.args.clients.now c.ask.new.self c.args.service.now.service (g.O.Write.contents c.args.output.now)
    (g.O.Write.contents c.ask.new.output) c.in_ok-ask.ensures.asks.0 c.in_ok-ask.ensures.asks.1 c.ask.ensures.queue c.ask.ensures.settings.config c.ask.ensures.settings.window

pub returns-else-not-is_asked-clause-ok : goal.returns-else-not-is_asked-clause-ok
returns-else-not-is_asked-clause-ok g c =
    wrote_none g.S.TurnService.begins g.S.Service.answers g.S.TurnService.clocked g.S.TurnService.listed c.args.clients.now c.args.service.now.service (g.O.Write.contents c.args.output.now)
