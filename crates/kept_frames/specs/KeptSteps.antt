-- What one step of a run does that is kept, from one standing between steps to another.
use Rattle.std.specs.Prelude.{ℕ, Option, Some, None, List, [], ◌++◌}
use Rattle.std.specs.Io.KnownBytes.{Appends, Consumes, Keeps}
use Rattle.http.specs.declared.request.Request.{Request}
use Rattle.http_server.specs.declared.response.Response.{Response}
use Rattle.http_frames.specs.declared.clients.Clients.{Clients}
use Rattle.http_frames.specs.declared.serving.End.{End}
use Rattle.http_frames.specs.ConnectionEvents.{Event}
use Rattle.http_frames.specs.FrameSteps.{IsEndFor}
use Rattle.http_frames.specs.TurnRuns.{AreSaid, EventsLead, Moments, WritesUpTo, told_text}
use Rattle.journal_core.specs.declared.header.Header.{Header}
use Rattle.journal_core.specs.declared.journal.Journal.{Journal}
use Rattle.journal_core.specs.Clocked.{Each}
use Rattle.journal_core.specs.Resting.{clocked_of, disk_behind}
use Rattle.kept_frames.specs.KeptMoments.{IsKeptEnd, IsKeptMoment}

-- how a run stands between two steps: the header of its file, its service and its output at the start, what happened since, and its service, its journal and its output now
abbrev pub StepStanding : Type 0 → Type 0 → Type 0 → Type 1
StepStanding S D O = Header → S → Option (List ℕ) → List Event → S → Journal D O → O → Type 0

-- whatever happened before, each moment of the journal between the two is kept, in the run that goes on so
abbrev pub EachKeeps : {S D O : Type 0} → (O → Option (List ℕ)) → (Header → S → List Event → D → Type 0) → StepStanding S D O → List Event → S → Journal D O → Journal D O → O → Type 0
EachKeeps {S} contents keeps From more s j j' o =
    (h : Header) (start : S) (output : Option (List ℕ)) (events : List Event) → From h start output events s j o → Each (IsKeptMoment contents keeps h start output (events ++ more)) (clocked_of j) (clocked_of j')

module _ {S D O : Type 0} (begins : S → ℕ → S → Type 0) (answers : S → Request (List ℕ) → Response → S → Type 0) (clocked : S → ℕ → S → Type 0) (listed : S → List ℕ → S → Type 0) (contents : O → Option (List ℕ))
    (keeps keeps_end : Header → S → List Event → D → Type 0) where
  -- These events happened, which the frames of this text said; what was written are the frames of what was told; and that is kept.
  pub record StepKeeps (From To : StepStanding S D O) (more : List Event) (text : List ℕ) (c c' : Clients) (s s' : S) (j j' : Journal D O) (o o' : O) : Type 0 where
    pub moments : Moments more c c'
    pub leads : EventsLead begins answers clocked listed s more s'
    pub said : AreSaid more text
    pub wrote : Appends (contents o) (contents o') (told_text more)
    pub each : EachKeeps contents keeps From more s j j' o
    pub stand : (h : Header) (start : S) (output : Option (List ℕ)) (events : List Event) → From h start output events s j o → To h start output (events ++ more) s' j' o'

  -- It failed there; what had happened by then is kept.
  pub record StepBreaks (From : StepStanding S D O) (more : List Event) (c c' : Clients) (s s' : S) (j j' : Journal D O) (o o' : O) : Type 0 where
    pub moments : Moments more c c'
    pub leads : EventsLead begins answers clocked listed s more s'
    pub wrote : WritesUpTo more (contents o) (contents o')
    pub each : EachKeeps contents keeps From more s j j' o
    pub last : (h : Header) (start : S) (output : Option (List ℕ)) (events : List Event) → From h start output events s j o → IsKeptEnd contents keeps keeps_end h start output (events ++ more) (disk_behind j', o')

  -- nothing was read meanwhile
  abbrev pub StepWrites : StepStanding S D O → StepStanding S D O → Clients → Clients → S → S → Journal D O → Journal D O → O → O → Type 0
  StepWrites From To c c' s s' j j' o o' = (more : List Event) × StepKeeps From To more [] c c' s s' j j' o o'

  -- and this was read
  abbrev pub StepServes : StepStanding S D O → StepStanding S D O → Clients → Clients → S → S → Journal D O → Journal D O → O → O → Option (List ℕ) → Option (List ℕ) → Type 0
  StepServes From To c c' s s' j j' o o' input input' = (more : List Event) × (text : List ℕ) × StepKeeps From To more text c c' s s' j j' o o' × Consumes input input' text

  abbrev pub StepFails : StepStanding S D O → Clients → Clients → S → S → Journal D O → Journal D O → O → O → Type 0
  StepFails From c c' s s' j j' o o' = (more : List Event) × StepBreaks From more c c' s s' j j' o o'

  -- it was served, or it is the end
  abbrev pub StepGoesOn : StepStanding S D O → StepStanding S D O → Option End → Clients → Clients → S → S → Journal D O → Journal D O → O → O → Option (List ℕ) → Option (List ℕ) → Type 0
  StepGoesOn From To None c c' s s' j j' o o' input input' = StepServes From To c c' s s' j j' o o' input input'
  StepGoesOn From To (Some end) c c' s s' j j' o o' input input' = StepWrites From To c c' s s' j j' o o' × Keeps input input' × IsEndFor c' end input'
