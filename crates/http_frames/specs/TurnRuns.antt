-- A whole run: what happened, one thing after another, and that each connection stands as if it were alone at every moment of it (own).
use Rattle.std.specs.Prelude.{◌≡◌, ◌≢◌, ◌⊎◌, ℕ, ◌+◌, ◌<◌, ◌≤◌, List, [], ◌∷◌, ◌++◌, length, take, fold, All, Option, Some, None, Result, IfOk, false}
use Rattle.std.specs.Io.KnownBytes.{Appends, Consumes, IsAtEnd}
use Rattle.std.specs.List.{flat_map}
use Rattle.http.specs.declared.request.Request.{Request}
use Rattle.http_server.specs.declared.response.Response.{Response}
use Rattle.http_frames.specs.declared.clients.Clients.{Clients}
use Rattle.http_frames.specs.declared.clients.Windows.{Windows}
use Rattle.http_frames.specs.declared.frames.Head.{Head}
use Rattle.http_frames.specs.declared.frames.Head.TheVariants as head
use Rattle.http_frames.specs.declared.serving.End.{End}
use Rattle.http_frames.specs.declared.serving.End.TheVariants.{Whole, Wrong, Cut}
use Rattle.http_frames.specs.Clients.{Has, count_begun, config_of, window_of, queue_of}
use Rattle.http_frames.specs.ConnectionEvents.{Event, Came, Rejected, Took, Gone, Answered, Clock, Free, From, Users, Late, Turned, Nothing, Touched, Going, IsNumber, IsOut, account, awaits, closing, event_text}
use Rattle.http_frames.specs.Frames.{BreaksOff, IsFrame, TellsAddress, IsPart, IsPiece, TellsTurned, TellsUsers, Says}
use Rattle.http_frames.specs.Gate.{TakesTurn}

-- ---- what the events say of the queue, of the windows, of the output and of the input

-- whose turns there were
abbrev pub turn_in : Event → List ℕ
turn_in (Answered number calls) = number ∷ []
turn_in _ = []

abbrev pub turns_of : List Event → List ℕ
turns_of events = flat_map turn_in events

-- First come, first served: who had a turn, and then who waits for one, are those who waited, and then those who joined them. So a connection has its turn after exactly as many turns as
-- stood before it.
abbrev pub InOrder : List ℕ → List ℕ → List ℕ → Type 0
InOrder turns queue queue' = (joined : List ℕ) × (turns ++ queue' ≡ queue ++ joined)

-- the windows after these events: the end of the input opens them
abbrev pub windows_after : Windows → List Event → Windows
windows_after w events = record w { closed = fold closing w.closed events }

abbrev pub told_text : List Event → List ℕ
told_text events = flat_map event_text events

-- the frame that says it, where one does
abbrev pub IsSaid : Event → List ℕ → Type 0
IsSaid (Came number bytes) text = IsPiece number bytes text
IsSaid (Rejected number bytes) text = IsPiece number bytes text
IsSaid (Took number count) text = Says (head.Taken number count) text
IsSaid (Gone number) text = Says (head.Gone number) text
IsSaid (Clock moment) text = Says (head.Clock moment) text
IsSaid (Free count) text = Says (head.Free count) text
IsSaid (From number address) text = TellsAddress number address text
IsSaid (Users file) text = TellsUsers file text
IsSaid (Late number) text = Says (head.Late number) text
IsSaid (Turned address count) text = TellsTurned address count text
IsSaid Nothing text = Says head.Nothing text
IsSaid Touched text = Says head.Touch text
IsSaid _ text = text ≡ []

abbrev pub AreSaid : List Event → List ℕ → Type 0
AreSaid [] text = text ≡ []
AreSaid (e ∷ events) text = (first : List ℕ) × (rest : List ℕ) × (text ≡ first ++ rest) × IsSaid e first × AreSaid events rest

-- ---- what happened between two moments

-- The clients at a moment at which these had happened, first the events and then more: each connection stands as if it were alone, and turns came first come, first served.
pub record AtMoment (c : Clients) (events more : List Event) : Type 0 where
  pub clients : Clients
  pub has : Has clients (events ++ more)
  pub config : config_of clients ≡ config_of c
  pub window : window_of clients ≡ windows_after (window_of c) more
  pub in_order : InOrder (turns_of more) (queue_of c) (queue_of clients)

-- these events happened, and how the clients stood at each moment between
pub record Moments (more : List Event) (c c' : Clients) : Type 0 where
  pub has : (events : List Event) → Has c events → Has c' (events ++ more)
  pub always : (events : List Event) → Has c events → (moment : ℕ) → AtMoment c events (take moment more)
  pub in_order : InOrder (turns_of more) (queue_of c) (queue_of c')
  pub config : config_of c' ≡ config_of c
  pub window : window_of c' ≡ windows_after (window_of c) more

-- the frames of these events were written, and then at most a front of one more
abbrev pub WritesUpTo : List Event → Option (List ℕ) → Option (List ℕ) → Type 0
WritesUpTo more output output' =
    (between : Option (List ℕ)) × Appends output between (told_text more) × BreaksOff between output'

-- nothing was read meanwhile, no turn was given, and what was written are the frames of what was told
abbrev pub TellsAll : Clients → Clients → Option (List ℕ) → Option (List ℕ) → Type 0
TellsAll c c' output output' =
    (more : List Event) × Moments more c c' × All (IsOut false) more × Appends output output' (told_text more)

-- it failed there
abbrev pub BreaksTold : Clients → Clients → Option (List ℕ) → Option (List ℕ) → Type 0
BreaksTold c c' output output' = (more : List Event) × Moments more c c' × All (IsOut false) more × WritesUpTo more output output'

module _ {S : Type 0} (begins : S → ℕ → S → Type 0) (answers : S → Request (List ℕ) → Response → S → Type 0) (clocked : S → ℕ → S → Type 0) (listed : S → List ℕ → S → Type 0) where
  -- what one event does to the service: a turn, or word of the moment
  abbrev pub EventDoes : Event → S → S → Type 0
  EventDoes (Answered number calls) s s' = TakesTurn begins answers s number calls s'
  EventDoes (Clock moment) s s' = clocked s moment s'
  EventDoes (Users file) s s' = listed s file s'
  EventDoes _ s s' = s' ≡ s

  -- all turns, in their order, are one run of one service
  abbrev pub EventsLead : S → List Event → S → Type 0
  EventsLead s [] s' = s' ≡ s
  EventsLead s (e ∷ events) s' = (next : S) × EventDoes e s next × EventsLead next events s'

  -- nothing was read meanwhile, and this was written
  abbrev pub WritesAnswers : Clients → Clients → S → S → Option (List ℕ) → Option (List ℕ) → Type 0
  WritesAnswers c c' s s' output output' =
      (more : List Event) × Moments more c c' × EventsLead s more s' × AreSaid more [] × Appends output output' (told_text more)

  -- and this was read
  abbrev pub ServesFrames : Clients → Clients → S → S → Option (List ℕ) → Option (List ℕ) → Option (List ℕ) → Option (List ℕ) → Type 0
  ServesFrames c c' s s' input input' output output' =
      (more : List Event) × Moments more c c' × EventsLead s more s' × ((text : List ℕ) × AreSaid more text × Consumes input input' text)
      × Appends output output' (told_text more)

  -- it failed there
  abbrev pub Breaks : Clients → Clients → S → S → Option (List ℕ) → Option (List ℕ) → Type 0
  Breaks c c' s s' output output' = (more : List Event) × Moments more c c' × EventsLead s more s' × WritesUpTo more output output'

-- A frame is wrong, after these events: its line is no head; or its number is neither that of a connection that has begun nor, where bytes come, the next; or it tells an address,
-- and its number is not the next; or more was taken than was handed out; or it answers what nobody asked, as `go` does here.
abbrev pub IsWrong : ℕ → List Event → Option Head → Type 0
IsWrong count events None = Unit {0}
IsWrong count events (Some (head.Piece number length)) = ¬ ((0 < number) × (number ≤ count + 1))
IsWrong count events (Some (head.Taken number taken)) =
    ¬ (IsNumber count number) ⊎ (((account number events).place ≡ Going) × (length (account number events).went < (account number events).took + taken))
IsWrong count events (Some (head.Gone number)) = ¬ (IsNumber count number)
IsWrong count events (Some (head.Clock moment)) = ⊥
IsWrong count events (Some (head.Free bytes)) = ⊥
IsWrong count events (Some (head.From number)) = number ≢ count + 1
IsWrong count events (Some (head.Users length)) = ⊥
IsWrong count events (Some (head.Late number)) = ¬ (IsNumber count number)
IsWrong count events (Some (head.Turned connections)) = ⊥
IsWrong count events (Some head.Nothing) = awaits events ≡ false
IsWrong count events (Some head.Touch) = ⊥
IsWrong count events (Some head.Go) = Unit {0}

-- what stands where no more frames are served, after these events: nothing; a frame that is wrong; or a part of one
abbrev pub IsEnd : End → ℕ → List Event → Option (List ℕ) → Type 0
IsEnd Whole count events input = IsAtEnd input
IsEnd Wrong count events input =
    (h : Option Head) × (bytes : List ℕ) × (text : List ℕ) × (after : Option (List ℕ)) × IsFrame h bytes text × Consumes input after text × IsWrong count events h
IsEnd Cut count events input = (part : List ℕ) × (after : Option (List ℕ)) × (part ≢ []) × IsPart part × Consumes input after part × IsAtEnd after

-- What was read, up to the end: these events are what its frames say, one after another, and what came behind them was read no more.
pub record Ends (end : End) (done : List Event) (c' : Clients) (input input' : Option (List ℕ)) : Type 0 where
  pub first : List Event
  pub later : List Event
  pub done_is : done ≡ first ++ later
  pub text : List ℕ
  pub said : AreSaid first text
  pub unsaid : AreSaid later []
  pub consumed : Consumes input input' text
  pub ends : IsEnd end (count_begun c') first input'

-- A run, however it ends: at every moment of it the clients stand so that each connection is as if it were alone, all turns are one run of one service, and what was written are the frames of what was told,
-- one after another, and then at most a front of one more. Where it ends with Ok, its events are exactly those that the frames said that were read, up to the end, and what was written are
-- exactly its frames.
pub record RunsInTurns {S E : Type 0} (begins : S → ℕ → S → Type 0) (answers : S → Request (List ℕ) → Response → S → Type 0) (clocked : S → ℕ → S → Type 0) (listed : S → List ℕ → S → Type 0)
    (result : Result End E) (c c' : Clients) (s s' : S) (input input' output output' : Option (List ℕ)) : Type 0 where
  pub done : List Event
  pub always : (moment : ℕ) → AtMoment c [] (take moment done)
  pub has : Has c' done
  pub in_order : InOrder (turns_of done) (queue_of c) (queue_of c')
  pub leads : EventsLead begins answers clocked listed s done s'
  pub writes : WritesUpTo done output output'
  pub ends : IfOk result (λ end. Ends end done c' input input')
  pub wrote : IfOk result (λ end. Appends output output' (told_text done))
