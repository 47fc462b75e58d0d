use Rattle.journal_core.proofs.Runs.{runs_live_on}
use Rattle.journal_core.proofs.laws.runs_live_on.Goals as goal

pub returns : goal.returns
returns g c = record { lives = runs_live_on g.row.D.Denot g.row.B.Denot g.D.Disk.seen }
