use Rattle.dav_handler_core.proofs.LockTimeLaws.{finds_none, stands_its_time}
use Rattle.dav_handler_core.proofs.dav.laws.locks_stand_their_time.Goals as goal

pub returns-clause-moment : goal.returns-clause-moment
returns-clause-moment c = λ before after request response h. h.comes

pub returns-clause-stands : goal.returns-clause-stands
returns-clause-stands c = stands_its_time

pub returns-clause-expires : goal.returns-clause-expires
returns-clause-expires c = finds_none
