use Rattle.std.proofs.lemmas.Result.{on_ok_weaker}
use Rattle.turn_fronts.specs.Private.NamedTurns.{once_behind, told_behind}
use Rattle.turn_fronts.proofs.recording.NamedRecording.record.Goals as goal

pub returns-clause-adds : goal.returns-clause-adds
returns-clause-adds g c =
    on_ok_weaker c.record.result
    (λ r. record {
      more = r.more;
      adds = r.adds;
      stand = λ before number calls records stands told.
          r.stand before.service number calls records stands
          (told_behind g.S.TurnService.begins g.S.Service.answers before number calls c.args.self.now told);
      fits = λ before told number calls begun once.
          r.fits before.service told.service number calls begun.begun (once_behind g.S.TurnService.begins g.S.Service.answers told calls c.args.self.now once);
    })
    c.record.ensures.adds
