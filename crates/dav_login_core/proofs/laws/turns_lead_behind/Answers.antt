use Rattle.dav_login_core.specs.Private.Turns.{turns_behind}
use Rattle.dav_login_core.proofs.laws.turns_lead_behind.Goals as goal

pub returns : goal.returns
returns g c = λ old new number calls told. turns_behind g.S.TurnService.begins g.S.Service.answers old new number calls told
