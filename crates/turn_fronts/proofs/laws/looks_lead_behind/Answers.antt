use Rattle.turn_fronts.proofs.LookRuns.{leads_looks}
use Rattle.turn_fronts.proofs.laws.looks_lead_behind.Goals as goal

pub returns : goal.returns
returns g c = λ old new events leads.
    leads_looks g.S.TurnService.begins g.S.Service.answers g.S.TurnService.clocked g.S.TurnService.listed events old new leads
