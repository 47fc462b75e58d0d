use Rattle.dav_store_core.proofs.KeepLemmas.{stand_back, stand_begins, stand_one}
use Rattle.dav_store_core.proofs.SnapshotLemmas.{kept_paths, stand_goes_on}
use Rattle.dav_store_core.proofs.laws.stores_come_back.Goals as goal

pub returns : goal.returns
returns c = record {
  back = stand_back;
  begins = stand_begins;
  goes_on = stand_goes_on;
  one = λ h s t last m records a b. stand_one h.generation h.began s t last m records a b;
  paths = kept_paths;
}
