use Rattle.std.proofs.lemmas.Result.{on_ok_weaker}
use Rattle.dav_login_core.specs.Private.Turns.{once_behind, turns_behind}
use Rattle.dav_login_core.proofs.recording.LoginRecording.record.Goals as goal

pub returns-clause-adds : goal.returns-clause-adds
returns-clause-adds g c =
    on_ok_weaker c.record.result
    (λ r. record {
      more = r.more;
      adds = r.adds;
      stand = λ before number calls records stands told.
          let turn = turns_behind g.S.TurnService.begins g.S.Service.answers before c.args.self.now number calls told in
          r.stand before.service number turn.inner records stands turn.told;
      fits = λ before told number calls begun once.
          let behind = once_behind g.S.TurnService.begins g.S.Service.answers told c.args.self.now calls once in
          r.fits before.service told.service number behind.0 begun.service behind.1;
    })
    c.record.ensures.adds
