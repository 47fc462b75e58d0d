use Rattle.dav_kept_core.proofs.LifeLaws.{goes_on}
use Rattle.dav_kept_core.proofs.run_laws.lives_go_on.Goals as goal

pub returns : goal.returns
returns g c = goes_on g.C.Clock.tells
