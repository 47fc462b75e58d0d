use Rattle.std.proofs.lemmas.Result.{on_ok_weaker}
use Rattle.turn_fronts.specs.Looking.{looking}
use Rattle.turn_fronts.specs.Private.LookTurns.{once_looks, told_looks}
use Rattle.turn_fronts.proofs.recording.ReadOnlyRecording.record.Goals as goal

pub returns-clause-adds : goal.returns-clause-adds
returns-clause-adds g c =
    on_ok_weaker c.record.result
    (λ r. record {
      more = r.more;
      adds = r.adds;
      stand = λ before number calls records stands told.
          r.stand before.service number (looking calls) records stands
          (told_looks g.S.TurnService.begins g.S.Service.answers before number calls c.args.self.now told);
      fits = λ before told number calls begun once.
          r.fits before.service told.service number (looking calls) begun (once_looks g.S.TurnService.begins g.S.Service.answers told calls c.args.self.now once);
    })
    c.record.ensures.adds
