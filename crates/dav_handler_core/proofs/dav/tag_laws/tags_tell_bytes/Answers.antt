use Rattle.dav_handler_core.proofs.TagLaws.{runs_tell, begins, goes_on}
use Rattle.dav_handler_core.proofs.dav.tag_laws.tags_tell_bytes.Goals as goal

pub returns-clause-tags : goal.returns-clause-tags
returns-clause-tags c = runs_tell

pub returns-clause-begins : goal.returns-clause-begins
returns-clause-begins c = begins

pub returns-clause-goes_on : goal.returns-clause-goes_on
returns-clause-goes_on c = goes_on
