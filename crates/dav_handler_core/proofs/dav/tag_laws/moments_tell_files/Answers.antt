use Rattle.dav_handler_core.proofs.MomentLaws.{dates_tell, moments_tell}
use Rattle.dav_handler_core.proofs.dav.tag_laws.moments_tell_files.Goals as goal

pub returns-clause-moments : goal.returns-clause-moments
returns-clause-moments c = moments_tell

pub returns-clause-dates : goal.returns-clause-dates
returns-clause-dates c = dates_tell
