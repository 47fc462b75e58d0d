-- How a server serves the connections whose frames come on one stream, and the moments that it is told (own).
use Rattle.std.specs.Prelude.{◌≡◌, ◌⊎◌, ◌<◌, ℕ, List, [], ◌∷◌, ◌++◌, length, codes, Option, Some, None, Result}
use Rattle.rand_core.specs.Stream.{Stream}
use Rattle.http.specs.declared.request.Request.{Request}
use Rattle.http.specs.Request.{body_of}
use Rattle.http.specs.StatusCode.{IsInClass}
use Rattle.http_server.specs.declared.response.Response.{Response}
use Rattle.http_server.specs.Response.{fields_of}
use Rattle.http_frames.specs.declared.clients.Clients.{Clients}
use Rattle.http_frames.specs.declared.serving.End.{End}
use Rattle.http_frames.specs.ConnectionEvents.{Event}
use Rattle.http_frames.specs.TurnRuns as frames
use Rattle.dav_handler_core.specs.declared.serving.Timed.{Timed}
use Rattle.dav_handler_core.specs.Answers.{Answers}
use Rattle.dav_handler_core.specs.Server.{Server}
use Rattle.dav_handler_core.specs.ServerViews.{server}

-- a server, and a clock that tells it moments
pub record Timing (C : Type 0) : Type 0 where
  pub server : Server
  pub clock : C

-- of what the generator still gives
abbrev pub timing : {R C : Type 0} → (R → Stream) → Timed R C → Timing C
timing stream t = record { server = server stream t.dav; clock = t.clock }

-- the server's clock is set to a moment that is told
abbrev pub with_clock : Option ℕ → Server → Server
with_clock None s = s
with_clock (Some moment) s = record s { clock = moment }

-- ---- what each step of a run does

-- Before a turn the clock tells a moment, or none, and the server's clock is set to it.
abbrev pub BeginsTurn : {C : Type 0} → (C → Option ℕ → C → Type 0) → Timing C → ℕ → Timing C → Type 0
BeginsTurn tells old number new =
    (told : Option ℕ) × tells old.clock told new.clock × (new.server ≡ with_clock told old.server)

-- a request with a body of more than 512 KiB was refused
abbrev pub IsLongRefusal : Request (List ℕ) → Response → Type 0
IsLongRefusal request made = (524_288 < length (body_of request)) × ¬ (IsInClass 200 made.status)

-- The refusal of such a request says that the connection is closed behind it, where there is memory for that field; all else is sent as it was made (RFC 9112 section 9.6).
pub record IsSent (request : Request (List ℕ)) (made sent : Response) : Type 0 where
  pub status : sent.status ≡ made.status
  pub body : sent.body ≡ made.body
  pub fields : (fields_of sent ≡ fields_of made) ⊎ (IsLongRefusal request made × (fields_of sent ≡ fields_of made ++ (codes "connection", codes "close") ∷ []))

-- A call is answered, and so sent, and the clock is asked nothing.
abbrev pub Replies : {C : Type 0} → Timing C → Request (List ℕ) → Response → Timing C → Type 0
Replies old request response new = (made : Response) × Answers old.server request made new.server × IsSent request made response × (new.clock ≡ old.clock)

-- A frame tells the moment, to which the server's clock is set, and the clock is asked nothing.
abbrev pub Clocked : {C : Type 0} → Timing C → ℕ → Timing C → Type 0
Clocked old moment new = (new.server ≡ with_clock (Some moment) old.server) × (new.clock ≡ old.clock)

-- A frame tells who the users are, which is nothing to the server.
abbrev pub Listed : {C : Type 0} → Timing C → List ℕ → Timing C → Type 0
Listed old file new = new ≡ old

-- ---- a run

-- These events lead from the one to the other: all turns, in their order, are answered by one server, and nothing else changes it but moments that are told.
abbrev pub Leads : {C : Type 0} → (C → Option ℕ → C → Type 0) → Timing C → List Event → Timing C → Type 0
Leads tells before events after = frames.EventsLead (BeginsTurn tells) Replies Clocked Listed before events after

-- The frames were served, however that ended: each connection as if it were alone, and all by one server.
abbrev pub AreServed : {C E : Type 0} → (C → Option ℕ → C → Type 0) → Result End E → Clients → Clients → Timing C → Timing C
    → Option (List ℕ) → Option (List ℕ) → Option (List ℕ) → Option (List ℕ) → Type 0
AreServed tells result c c' before after input input' output output' =
    frames.RunsInTurns (BeginsTurn tells) Replies Clocked Listed result c c' before after input input' output output'
