-- Events that lead a read-only service lead the service behind it by the calls that look.
use Rattle.std.proofs.Common.{ℕ, List, [], ◌∷◌, map, ap}
use Rattle.http.specs.declared.request.Request.{Request}
use Rattle.http_server.specs.declared.response.Response.{Response}
use Rattle.http_frames.specs.ConnectionEvents.{Event, Came, Rejected, Took, Gone, Answered, Told, Granted, Awaited, Known, Ended, Clock, Free, From, Users, Late, Turned, Asked, Nothing, Touched, Closed}
use Rattle.http_frames.specs.TurnRuns.{EventDoes, EventsLead}
use Rattle.turn_fronts.specs.declared.read_only.ReadOnly.{ReadOnly}
use Rattle.turn_fronts.specs.Looking.{with_looks}
use Rattle.turn_fronts.specs.Private.LookTurns.{ReadsAnswer, ReadsBegin, turn_looks}

module _ {S : Type 0} (begins : S → ℕ → S → Type 0) (answers : S → Request (List ℕ) → Response → S → Type 0) (clocked : S → ℕ → S → Type 0) (listed : S → List ℕ → S → Type 0) where
  abbrev pub ReadsClock : ReadOnly S → ℕ → ReadOnly S → Type 0
  ReadsClock old moment new = clocked old.service moment new.service

  abbrev pub ReadsList : ReadOnly S → List ℕ → ReadOnly S → Type 0
  ReadsList old file new = listed old.service file new.service

  abbrev service_of : ReadOnly S → S
  service_of r = r.service

  event_looks : (e : Event) (old new : ReadOnly S) → EventDoes (ReadsBegin begins answers) (ReadsAnswer begins answers) ReadsClock ReadsList e old new
      → EventDoes begins answers clocked listed (with_looks e) old.service new.service
  event_looks (Answered number calls) old new does = turn_looks begins answers number calls old new does
  event_looks (Clock moment) old new does = does
  event_looks (Free count) old new does = ap service_of does
  event_looks (Users file) old new does = does
  event_looks (From number address) old new does = ap service_of does
  event_looks (Came number bytes) old new does = ap service_of does
  event_looks (Rejected number bytes) old new does = ap service_of does
  event_looks (Took number count) old new does = ap service_of does
  event_looks (Gone number) old new does = ap service_of does
  event_looks (Told number bytes) old new does = ap service_of does
  event_looks (Granted number count) old new does = ap service_of does
  event_looks (Awaited number part count) old new does = ap service_of does
  event_looks (Known number) old new does = ap service_of does
  event_looks (Late number) old new does = ap service_of does
  event_looks (Turned address count) old new does = ap service_of does
  event_looks (Ended number) old new does = ap service_of does
  event_looks Asked old new does = ap service_of does
  event_looks Nothing old new does = ap service_of does
  event_looks Touched old new does = ap service_of does
  event_looks Closed old new does = ap service_of does

  pub leads_looks : (events : List Event) (old new : ReadOnly S) → EventsLead (ReadsBegin begins answers) (ReadsAnswer begins answers) ReadsClock ReadsList old events new
      → EventsLead begins answers clocked listed old.service (map with_looks events) new.service
  leads_looks [] old new leads = ap service_of leads
  leads_looks (e ∷ events) old new leads = ((leads.0).service, event_looks e old leads.0 leads.1, leads_looks events leads.0 new leads.2)
