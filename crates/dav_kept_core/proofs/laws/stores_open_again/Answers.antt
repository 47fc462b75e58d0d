use Rattle.dav_kept_core.proofs.StandLemmas.{opens_again, opens_one}
use Rattle.dav_kept_core.proofs.laws.stores_open_again.Goals as goal

pub returns-clause-back : goal.returns-clause-back
returns-clause-back g c = opens_again

pub returns-clause-one : goal.returns-clause-one
returns-clause-one g c = opens_one
