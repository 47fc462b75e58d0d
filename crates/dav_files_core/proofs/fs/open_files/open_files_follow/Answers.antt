use Rattle.dav_files_core.proofs.laws.FollowingLemmas.{takes_along, takes_place, others_stay}
use Rattle.dav_files_core.proofs.fs.open_files.open_files_follow.Goals as goal

pub returns-clause-along : goal.returns-clause-along
returns-clause-along c = λ m m' from to now is_map h. takes_along m m' from to now is_map h

pub returns-clause-replaced : goal.returns-clause-replaced
returns-clause-replaced c = λ m m' from to now is_map h. takes_place m m' from to now is_map h

pub returns-clause-others : goal.returns-clause-others
returns-clause-others c = λ m m' from to now is_map h. others_stay m m' from to now is_map h
