use Rattle.dav_handler_core.proofs.TagLaws.{new_stores, calls_lead, calls_stay}
use Rattle.dav_handler_core.proofs.dav.tag_laws.calls_make_runs.Goals as goal

pub returns-clause-new_stores : goal.returns-clause-new_stores
returns-clause-new_stores c = new_stores

pub returns-clause-calls : goal.returns-clause-calls
returns-clause-calls c = calls_lead

pub returns-clause-stays : goal.returns-clause-stays
returns-clause-stays c = calls_stay
