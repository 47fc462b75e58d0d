use Rattle.dav_notes_core.proofs.AlikeLemmas.{steps_alike}
use Rattle.dav_notes_core.proofs.LiveLemmas.{looks_live, refused_live, same_later}
use Rattle.dav_notes_core.proofs.StreamLemmas.{steps_with}
use Rattle.dav_notes_core.proofs.laws.steps_agree.Goals as goal

pub returns-clause-alike : goal.returns-clause-alike
returns-clause-alike c = steps_alike

pub returns-clause-looks : goal.returns-clause-looks
returns-clause-looks c = looks_live

pub returns-clause-refused : goal.returns-clause-refused
returns-clause-refused c = refused_live

pub returns-clause-later : goal.returns-clause-later
returns-clause-later c = same_later

pub returns-clause-step : goal.returns-clause-step
returns-clause-step c = steps_with
