-- What is served over one kind of state of a service is served over each view of it.
use Rattle.std.proofs.Common.{ℕ, List, [], ◌∷◌, Option, Result, ap, inl, inr}
use Rattle.http.specs.declared.request.Request.{Request}
use Rattle.http_server.specs.declared.response.Response.{Response}
use Rattle.http_server.specs.Exchange.{Call, Chain}
use Rattle.http_frames.specs.declared.clients.Clients.{Clients}
use Rattle.http_frames.specs.declared.serving.End.{End}
use Rattle.http_frames.specs.ConnectionEvents.{Event, Came, Rejected, Took, Gone, Answered, Told, Granted, Awaited, Known, Ended, Clock, Free, From, Users, Late, Turned, Asked, Nothing, Touched, Closed}
use Rattle.http_frames.specs.Clients.{GivesTurn}
use Rattle.http_frames.specs.Gate.{BeginsWithin, TakesTurn}
use Rattle.http_frames.specs.TurnRuns.{RunsInTurns, EventDoes, EventsLead}

module _ {S T : Type 0} (f : S → T) (begins : S → ℕ → S → Type 0) (answers : S → Request (List ℕ) → Response → S → Type 0) (clocked : S → ℕ → S → Type 0) (listed : S → List ℕ → S → Type 0) (begins' : T → ℕ → T → Type 0)
    (answers' : T → Request (List ℕ) → Response → T → Type 0) (clocked' : T → ℕ → T → Type 0) (listed' : T → List ℕ → T → Type 0) (begins_to : (s : S) (n : ℕ) (s' : S) → begins s n s' → begins' (f s) n (f s'))
    (answers_to : (s : S) (request : Request (List ℕ)) (response : Response) (s' : S) → answers s request response s' → answers' (f s) request response (f s'))
    (clocked_to : (s : S) (moment : ℕ) (s' : S) → clocked s moment s' → clocked' (f s) moment (f s'))
    (listed_to : (s : S) (file : List ℕ) (s' : S) → listed s file s' → listed' (f s) file (f s')) where
  pub chain_to : (calls : List Call) (s s' : S) → Chain answers s calls s' → Chain answers' (f s) calls (f s')
  chain_to [] s s' x = ap f x
  chain_to (c ∷ calls) s s' x = (f x.0, answers_to s c.0 c.1 x.0 x.1, chain_to calls x.0 s' x.2)

  pub turn_to : (n : ℕ) (calls : List Call) (s s' : S) → TakesTurn begins answers s n calls s' → TakesTurn begins' answers' (f s) n calls (f s')
  turn_to n calls s s' (inl x) = inl (x.0, ap f x.1)
  turn_to n calls s s' (inr x) = inr (f x.0, begins_to s n x.0 x.1, record { one = x.2.one; chain = chain_to calls x.0 s' x.2.chain })

  pub does_to : (e : Event) (s s' : S) → EventDoes begins answers clocked listed e s s' → EventDoes begins' answers' clocked' listed' e (f s) (f s')
  does_to (Answered n calls) s s' x = turn_to n calls s s' x
  does_to (Clock moment) s s' x = clocked_to s moment s' x
  does_to (Free count) s s' x = ap f x
  does_to (From n address) s s' x = ap f x
  does_to (Users file) s s' x = listed_to s file s' x
  does_to (Came n bytes) s s' x = ap f x
  does_to (Rejected n bytes) s s' x = ap f x
  does_to (Took n count) s s' x = ap f x
  does_to (Gone n) s s' x = ap f x
  does_to (Told n bytes) s s' x = ap f x
  does_to (Granted n count) s s' x = ap f x
  does_to (Awaited n part count) s s' x = ap f x
  does_to (Known n) s s' x = ap f x
  does_to (Ended n) s s' x = ap f x
  does_to (Late n) s s' x = ap f x
  does_to (Turned address count) s s' x = ap f x
  does_to Asked s s' x = ap f x
  does_to Nothing s s' x = ap f x
  does_to Touched s s' x = ap f x
  does_to Closed s s' x = ap f x

  pub leads_to : (es : List Event) (s s' : S) → EventsLead begins answers clocked listed s es s' → EventsLead begins' answers' clocked' listed' (f s) es (f s')
  leads_to [] s s' x = ap f x
  leads_to (e ∷ es) s s' x = (f x.0, does_to e s x.0 x.1, leads_to es x.0 s' x.2)

  pub served_to : {E : Type 0} (result : Result End E) (c c' : Clients) (s s' : S) (input input' output output' : Option (List ℕ)) → RunsInTurns begins answers clocked listed result c c' s s' input input' output output'
      → RunsInTurns begins' answers' clocked' listed' result c c' (f s) (f s') input input' output output'
  served_to result c c' s s' input input' output output' x = record {
    done = x.done;
    always = x.always;
    has = x.has;
    in_order = x.in_order;
    leads = leads_to x.done s s' x.leads;
    writes = x.writes;
    ends = x.ends;
    wrote = x.wrote;
  }

-- a turn within a room is a turn
module _ {S : Type 0} (begins : S → ℕ → S → Type 0) (room : S → ℕ) (most : ℕ) (answers : S → Request (List ℕ) → Response → S → Type 0) where
  takes_any : (n : ℕ) (calls : List Call) (s s' : S) → TakesTurn (BeginsWithin begins room most) answers s n calls s' → TakesTurn begins answers s n calls s'
  takes_any n calls s s' (inl x) = inl x
  takes_any n calls s s' (inr x) = inr (x.0, x.1.0, x.2)

  pub gives_any : (n : ℕ) (c c' : Clients) (s s' : S) → GivesTurn (BeginsWithin begins room most) answers n c c' s s' → GivesTurn begins answers n c c' s s'
  gives_any n c c' s s' x = record { calls = x.calls; turn = takes_any n x.calls s s' x.turn; adds = x.adds; waits = x.waits; rests = x.rests }
