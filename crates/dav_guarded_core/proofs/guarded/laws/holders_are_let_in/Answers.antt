use Rattle.dav_guarded_core.proofs.AloneLaws.{alone_let_in}
use Rattle.dav_guarded_core.proofs.guarded.laws.holders_are_let_in.Goals as goal

pub returns : goal.returns
returns c = alone_let_in
