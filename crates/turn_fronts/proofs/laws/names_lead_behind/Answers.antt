use Rattle.turn_fronts.proofs.NamedRuns.{named_leads}
use Rattle.turn_fronts.proofs.laws.names_lead_behind.Goals as goal

pub returns : goal.returns
returns g c = λ old new events leads.
    named_leads g.S.TurnService.begins g.S.Service.answers g.S.TurnService.clocked g.S.TurnService.listed events old new leads
