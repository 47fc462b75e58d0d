-- What one step does in a run.
use Rattle.std.specs.Prelude.{◌≡◌, ◌⊎◌, ℕ, Bool, true, false, List, [], ◌∷◌, Option, Some, None, All}
use Rattle.std.specs.Io.KnownBytes.{Appends, Keeps}
use Rattle.http.specs.declared.request.Request.{Request}
use Rattle.http_server.specs.declared.response.Response.{Response}
use Rattle.http_frames.specs.declared.clients.Clients.{Clients}
use Rattle.http_frames.specs.declared.frames.Head.{Head}
use Rattle.http_frames.specs.declared.serving.End.{End}
use Rattle.http_frames.specs.Clients.{Has, count_begun}
use Rattle.http_frames.specs.declared.frames.Head.TheVariants as head
use Rattle.http_frames.specs.ConnectionEvents.{Event, Closed, IsNoTick}
use Rattle.http_frames.specs.Frames.{IsFrame}
use Rattle.http_frames.specs.TurnRuns.{AreSaid, IsEnd, IsWrong, EventsLead, Moments, ServesFrames, WritesAnswers, WritesUpTo, told_text, turns_of}

-- a frame is wrong for these clients, whatever happened to them
abbrev pub IsWrongFor : Clients → Option Head → Type 0
IsWrongFor c h = (events : List Event) → Has c events → IsWrong (count_begun c) events h

-- the frame tells the moment
abbrev pub TellsMoment : Option Head → Type 0
TellsMoment (Some (head.Clock moment)) = Unit {0}
TellsMoment _ = ⊥

-- the end is there, whatever happened to the clients
abbrev pub IsEndFor : Clients → End → Option (List ℕ) → Type 0
IsEndFor c end input = (events : List Event) → Has c events → IsEnd end (count_begun c) events input

-- more was read; or the input ended, and that is all that happened
abbrev pub ReadsOn : Option End → Clients → Clients → Option (List ℕ) → Option (List ℕ) → Type 0
ReadsOn None c c' input input' = Moments [] c c' × Keeps input input'
ReadsOn (Some end) c c' input input' = Moments (Closed ∷ []) c c' × Keeps input input' × IsEndFor c' end input'

module _ {S : Type 0} (begins : S → ℕ → S → Type 0) (answers : S → Request (List ℕ) → Response → S → Type 0) (clocked : S → ℕ → S → Type 0) (listed : S → List ℕ → S → Type 0) where
  -- what a frame says happened, no turn was given, and the moment was told by a frame that tells it alone; or it is wrong
  abbrev pub TakesFrame : Bool → Option Head → List ℕ → Clients → Clients → S → S → Option (List ℕ) → Option (List ℕ) → Type 0
  TakesFrame true h bytes c c' s s' output output' =
      (text : List ℕ) → IsFrame h bytes text
      → (more : List Event) × Moments more c c' × EventsLead begins answers clocked listed s more s' × AreSaid more text × Appends output output' (told_text more) × (turns_of more ≡ [])
      × (TellsMoment h ⊎ All IsNoTick more)
  TakesFrame false h bytes c c' s s' output output' = (c' ≡ c) × (s' ≡ s) × (output' ≡ output) × IsWrongFor c h

  -- it failed there; no turn was given, and no moment told
  abbrev pub BreaksUnturned : Clients → Clients → S → S → Option (List ℕ) → Option (List ℕ) → Type 0
  BreaksUnturned c c' s s' output output' =
      (more : List Event) × Moments more c c' × EventsLead begins answers clocked listed s more s' × WritesUpTo more output output' × (turns_of more ≡ []) × All IsNoTick more

  -- it was served, or it is the end
  abbrev pub GoesOn : Option End → Clients → Clients → S → S → Option (List ℕ) → Option (List ℕ) → Option (List ℕ) → Option (List ℕ) → Type 0
  GoesOn None c c' s s' input input' output output' = ServesFrames begins answers clocked listed c c' s s' input input' output output'
  GoesOn (Some end) c c' s s' input input' output output' =
      WritesAnswers begins answers clocked listed c c' s s' output output' × Keeps input input' × IsEndFor c' end input'
