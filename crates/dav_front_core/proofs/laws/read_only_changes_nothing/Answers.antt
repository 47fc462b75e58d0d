use Rattle.dav_front_core.proofs.FrontLemmas.{kept_stays, timed_stays}
use Rattle.dav_front_core.proofs.laws.read_only_changes_nothing.Goals as goal

pub returns : goal.returns
returns g c = record {
  in_memory = λ old new events run. timed_stays g.R.Rng.stream g.C.Clock.tells old new events run;
  kept = λ old new events run. kept_stays g.R.Rng.stream g.C.Clock.tells old new events run;
}
