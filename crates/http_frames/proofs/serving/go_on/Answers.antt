use Rattle.std.proofs.Common.{refl}
use Rattle.http_frames.specs.Frames.{unread}
use Rattle.http_frames.proofs.Following.{read_breaks, read_follows, wrong_follows}
use Rattle.http_frames.proofs.Fronts.{whole_kept}
use Rattle.http_frames.proofs.Results.{if_ok-map, on_err, on_err-map}
use Rattle.http_frames.proofs.Running.{wrote_breaks, wrote_kept}
use Rattle.http_frames.proofs.serving.go_on.Goals as goal

pub returns-then-not-branch-clause-ok : goal.returns-then-not-branch-clause-ok
returns-then-not-branch-clause-ok g c =
    wrong_follows g.S.TurnService.begins g.S.Service.answers g.S.TurnService.clocked g.S.TurnService.listed g.I.Read.remaining c.args.frames.now c.in-Some.frame.head c.in-Some.frame.bytes.now c.in-Some.frame.length c.args.clients.now
    c.take_frame.new.clients c.args.service.now.service c.take_frame.new.service.service (g.O.Write.contents c.args.output.now) (g.O.Write.contents c.take_frame.new.output)
    (rw c.if-not-branch.true at c.in_ok-take_frame.ensures.ok) c.in-Some.ensures.some.1

pub returns-in_err-flush-clause-err : goal.returns-in_err-flush-clause-err
returns-in_err-flush-clause-err g c =
    let x = wrote_breaks g.S.TurnService.begins g.S.Service.answers g.S.TurnService.clocked g.S.TurnService.listed c.args.clients.now c.turn_or_ask.new.clients c.args.service.now.service c.turn_or_ask.new.service.service
    (g.O.Write.contents c.args.output.now) (g.O.Write.contents c.turn_or_ask.new.output) (g.O.Write.contents c.flush.new.self) c.in_ok-turn_or_ask.ensures.ok
    (whole_kept (g.O.Write.contents c.turn_or_ask.new.output) (g.O.Write.contents c.flush.new.self) c.flush.ensures.bytes) in
    on_err _ x

pub returns-clause-ok : goal.returns-clause-ok
returns-clause-ok g c =
    if_ok-map _ _ c.read_on.result (λ end. read_follows g.S.TurnService.begins g.S.Service.answers g.S.TurnService.clocked g.S.TurnService.listed end c.args.clients.now c.turn_or_ask.new.clients c.read_on.new.clients
    c.args.service.now.service c.turn_or_ask.new.service.service (unread g.I.Read.remaining c.args.frames.now) (unread g.I.Read.remaining c.read_on.new.frames) (g.O.Write.contents c.args.output.now)
    (g.O.Write.contents c.flush.new.self)
    (wrote_kept g.S.TurnService.begins g.S.Service.answers g.S.TurnService.clocked g.S.TurnService.listed c.args.clients.now c.turn_or_ask.new.clients c.args.service.now.service c.turn_or_ask.new.service.service
    (g.O.Write.contents c.args.output.now) (g.O.Write.contents c.turn_or_ask.new.output) (g.O.Write.contents c.flush.new.self) c.in_ok-turn_or_ask.ensures.ok c.in_ok-flush.ensures.bytes))
    (c.read_on.ensures.ok (c.in_default.ensures.none refl))

pub returns-clause-err : goal.returns-clause-err
returns-clause-err g c =
    on_err-map c.read_on.result (read_breaks g.S.TurnService.begins g.S.Service.answers g.S.TurnService.clocked g.S.TurnService.listed c.args.clients.now c.turn_or_ask.new.clients c.read_on.new.clients
    c.args.service.now.service c.turn_or_ask.new.service.service (g.O.Write.contents c.args.output.now) (g.O.Write.contents c.flush.new.self)
    (wrote_kept g.S.TurnService.begins g.S.Service.answers g.S.TurnService.clocked g.S.TurnService.listed c.args.clients.now c.turn_or_ask.new.clients c.args.service.now.service c.turn_or_ask.new.service.service
    (g.O.Write.contents c.args.output.now) (g.O.Write.contents c.turn_or_ask.new.output) (g.O.Write.contents c.flush.new.self) c.in_ok-turn_or_ask.ensures.ok c.in_ok-flush.ensures.bytes)) c.read_on.ensures.err
