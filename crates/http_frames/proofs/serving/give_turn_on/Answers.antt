use Rattle.http_frames.proofs.Fronts.{whole_kept}
use Rattle.http_frames.proofs.Results.{on_err}
use Rattle.http_frames.proofs.Running.{wrote_breaks}
use Rattle.http_frames.proofs.serving.give_turn_on.Goals as goal

pub returns-in_err-flush-clause-err : goal.returns-in_err-flush-clause-err
returns-in_err-flush-clause-err g c =
    let x = wrote_breaks g.S.TurnService.begins g.S.Service.answers g.S.TurnService.clocked g.S.TurnService.listed c.args.clients.now c.give_turn.new.clients c.args.service.now.service c.give_turn.new.service.service
    (g.O.Write.contents c.args.output.now) (g.O.Write.contents c.give_turn.new.output) (g.O.Write.contents c.flush.new.self) c.in_ok-given.ensures.ok
    (whole_kept (g.O.Write.contents c.give_turn.new.output) (g.O.Write.contents c.flush.new.self) c.flush.ensures.bytes) in
    on_err _ x
