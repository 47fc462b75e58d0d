use Rattle.dav_front_core.proofs.FrontLemmas.{kept_login, timed_login}
use Rattle.dav_front_core.proofs.laws.logins_keep_promises.Goals as goal

pub returns : goal.returns
returns g c = record {
  in_memory = λ begun old new events fresh became run. timed_login g.R.Rng.stream g.C.Clock.tells g.H.Host.told begun old new events fresh became run;
  kept = λ begun old new events fresh became run. kept_login g.R.Rng.stream g.C.Clock.tells g.H.Host.told begun old new events fresh became run;
}
