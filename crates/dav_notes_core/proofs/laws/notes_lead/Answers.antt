use Rattle.dav_notes_core.proofs.LeadLemmas.{damaged_stops, leads_join, leads_look, leads_on, leads_playable, leads_played}
use Rattle.dav_notes_core.proofs.laws.notes_lead.Goals as goal

pub returns-clause-on : goal.returns-clause-on
returns-clause-on c = leads_on

pub returns-clause-look : goal.returns-clause-look
returns-clause-look c = leads_look

pub returns-clause-join : goal.returns-clause-join
returns-clause-join c = leads_join

pub returns-clause-played : goal.returns-clause-played
returns-clause-played c = leads_played

pub returns-clause-playable : goal.returns-clause-playable
returns-clause-playable c = leads_playable

pub returns-clause-damaged : goal.returns-clause-damaged
returns-clause-damaged c = damaged_stops
