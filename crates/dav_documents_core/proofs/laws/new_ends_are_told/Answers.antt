use Rattle.dav_documents_core.proofs.TimeLeftLaws.{seconds_told}
use Rattle.dav_documents_core.proofs.laws.new_ends_are_told.Goals as goal

pub returns-clause-granted : goal.returns-clause-granted
returns-clause-granted c = λ token path principal owner seconds shared deep now early. seconds_told now seconds early

pub returns-clause-refreshed : goal.returns-clause-refreshed
returns-clause-refreshed c = λ l seconds now early. seconds_told now seconds early
