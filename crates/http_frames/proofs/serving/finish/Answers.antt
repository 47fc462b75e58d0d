use Rattle.std.proofs.Common.{◌∙◌}
use Rattle.http_frames.proofs.Fronts.{whole_kept}
use Rattle.http_frames.proofs.Running.{wrote_breaks, wrote_kept, wrote_then, wrote_then_breaks, wrote_told, wrote_told_breaks, writes_breaks}
use Rattle.http_frames.proofs.Results.{on_err}
use Rattle.http_frames.proofs.serving.finish.Goals as goal

pub returns-in_err-tell_all-clause-err : goal.returns-in_err-tell_all-clause-err
returns-in_err-tell_all-clause-err g c =
    let x = wrote_told_breaks g.S.TurnService.begins g.S.Service.answers g.S.TurnService.clocked g.S.TurnService.listed c.args.clients.now c.tell_all.new.clients c.args.service.now.service (g.O.Write.contents c.args.output.now)
    (g.O.Write.contents c.tell_all.new.output) c.in_err-tell_all.ensures.err in
    on_err _ x

pub loop-turn-init : goal.loop-turn-init
loop-turn-init g c = record {
  wrote = wrote_told g.S.TurnService.begins g.S.Service.answers g.S.TurnService.clocked g.S.TurnService.listed c.args.clients.now c.tell_all.new.clients c.args.service.now.service (g.O.Write.contents c.args.output.now)
      (g.O.Write.contents c.tell_all.new.output) c.in_ok-tell_all.ensures.ok;
  begun = c.tell_all.ensures.begun;
}

pub returns-in_err-give_turn-clause-err : goal.returns-in_err-give_turn-clause-err
returns-in_err-give_turn-clause-err g c =
    let x = wrote_then_breaks g.S.TurnService.begins g.S.Service.answers g.S.TurnService.clocked g.S.TurnService.listed c.args.clients.now c.loop-turn.clients c.give_turn.new.clients c.args.service.now.service c.loop-turn.service.service
    c.give_turn.new.service.service (g.O.Write.contents c.args.output.now) (g.O.Write.contents c.loop-turn.output) (g.O.Write.contents c.give_turn.new.output) c.loop-turn.invariant.wrote
    c.in_err-give_turn.ensures.err in
    on_err _ x

pub returns-in_err-flush-clause-err : goal.returns-in_err-flush-clause-err
returns-in_err-flush-clause-err g c =
    let all = wrote_then g.S.TurnService.begins g.S.Service.answers g.S.TurnService.clocked g.S.TurnService.listed c.args.clients.now c.loop-turn.clients c.give_turn.new.clients c.args.service.now.service c.loop-turn.service.service
    c.give_turn.new.service.service (g.O.Write.contents c.args.output.now) (g.O.Write.contents c.loop-turn.output) (g.O.Write.contents c.give_turn.new.output) c.loop-turn.invariant.wrote
    c.in_ok-give_turn.ensures.ok in
    let x = wrote_breaks g.S.TurnService.begins g.S.Service.answers g.S.TurnService.clocked g.S.TurnService.listed c.args.clients.now c.give_turn.new.clients c.args.service.now.service c.give_turn.new.service.service
    (g.O.Write.contents c.args.output.now) (g.O.Write.contents c.give_turn.new.output) (g.O.Write.contents c.flush.new.self) all
    (whole_kept (g.O.Write.contents c.give_turn.new.output) (g.O.Write.contents c.flush.new.self) c.flush.ensures.bytes) in
    on_err _ x

pub returns-then-not-branch-clause-ok : goal.returns-then-not-branch-clause-ok
returns-then-not-branch-clause-ok g c =
    wrote_kept g.S.TurnService.begins g.S.Service.answers g.S.TurnService.clocked g.S.TurnService.listed c.args.clients.now c.give_turn.new.clients c.args.service.now.service c.give_turn.new.service.service
    (g.O.Write.contents c.args.output.now) (g.O.Write.contents c.give_turn.new.output) (g.O.Write.contents c.flush.new.self)
    (wrote_then g.S.TurnService.begins g.S.Service.answers g.S.TurnService.clocked g.S.TurnService.listed c.args.clients.now c.loop-turn.clients c.give_turn.new.clients c.args.service.now.service c.loop-turn.service.service
    c.give_turn.new.service.service (g.O.Write.contents c.args.output.now) (g.O.Write.contents c.loop-turn.output) (g.O.Write.contents c.give_turn.new.output) c.loop-turn.invariant.wrote
    c.in_ok-give_turn.ensures.ok) c.in_ok-flush.ensures.bytes

pub loop-turn-preserved : goal.loop-turn-preserved
loop-turn-preserved g c = record {
  wrote = wrote_then g.S.TurnService.begins g.S.Service.answers g.S.TurnService.clocked g.S.TurnService.listed c.args.clients.now c.loop-turn.clients c.give_turn.new.clients c.args.service.now.service c.loop-turn.service.service
      c.give_turn.new.service.service (g.O.Write.contents c.args.output.now) (g.O.Write.contents c.loop-turn.output) (g.O.Write.contents c.give_turn.new.output) c.loop-turn.invariant.wrote
      c.in_ok-give_turn.ensures.ok;
  begun = c.give_turn.ensures.begun ∙ c.loop-turn.invariant.begun;
}

pub returns-clause-err : goal.returns-clause-err
returns-clause-err g c =
    writes_breaks g.S.TurnService.begins g.S.Service.answers g.S.TurnService.clocked g.S.TurnService.listed c.args.clients.now c.loop-turn.clients c.args.service.now.service c.loop-turn.service.service (g.O.Write.contents c.args.output.now)
    (g.O.Write.contents c.loop-turn.output) c.loop-turn.invariant.wrote
