use Rattle.dav_login_core.proofs.RunLemmas.{run_behind}
use Rattle.dav_login_core.proofs.laws.runs_lead_behind.Goals as goal

pub returns : goal.returns
returns g c = λ old new events leads.
    run_behind g.S.TurnService.begins g.S.Service.answers g.S.TurnService.clocked g.S.TurnService.listed g.H.Host.told events old new leads
