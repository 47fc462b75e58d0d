use Rattle.dav_login_core.specs.Private.Turns.{leads_behind}
use Rattle.dav_login_core.proofs.laws.calls_lead_behind.Goals as goal

pub returns : goal.returns
returns g c = λ old new calls chain. leads_behind (λ _ _ _. Unit {0}) g.S.Service.answers old new calls chain
