use Rattle.dav_handler_core.proofs.HoldingLaws.{kept_under_any, kept_unless_held, stands_unless_ended}
use Rattle.dav_handler_core.proofs.dav.laws.locks_are_their_holders.Goals as goal

pub returns-clause-ended : goal.returns-clause-ended
returns-clause-ended c = stands_unless_ended

pub returns-clause-changed : goal.returns-clause-changed
returns-clause-changed c = kept_unless_held

pub returns-clause-any_changed : goal.returns-clause-any_changed
returns-clause-any_changed c = kept_under_any
