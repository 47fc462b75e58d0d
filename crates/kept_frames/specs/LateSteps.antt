-- What one step of `serve_late` does: the records of what was changed since the last tick wait in a round.
use Rattle.std.specs.Prelude.{ℕ, Bool, true, false, Option, List}
use Rattle.http.specs.declared.request.Request.{Request}
use Rattle.http_server.specs.declared.response.Response.{Response}
use Rattle.http_frames.specs.declared.clients.Clients.{Clients}
use Rattle.http_frames.specs.declared.frames.Head.{Head}
use Rattle.http_frames.specs.declared.serving.End.{End}
use Rattle.http_frames.specs.ConnectionEvents.{Event, IsNoTick}
use Rattle.http_frames.specs.FrameSteps.{IsWrongFor}
use Rattle.http_frames.specs.Frames.{IsFrame}
use Rattle.journal_core.specs.declared.journal.Journal.{Journal}
use Rattle.journal_core.specs.declared.round.Round.{Round}
use Rattle.journal_core.specs.Resting.{Carries}
use Rattle.kept_frames.specs.KeptMoments.{IsStanding, IsWaiting}
use Rattle.kept_frames.specs.LateRuns.{KeepsToTick}
use Rattle.kept_frames.specs.KeptSteps.{StepFails, StepGoesOn, StepServes, StepWrites, StepStanding, StepKeeps}

module _ {S D O : Type 0} (begins : S → ℕ → S → Type 0) (answers : S → Request (List ℕ) → Response → S → Type 0) (clocked : S → ℕ → S → Type 0) (listed : S → List ℕ → S → Type 0) (stands : List (List ℕ) → S → Type 0)
    (seen : D → List ℕ) (may_leave : D → List ℕ → Type 0) (is_clean : D → Bool) (contents : O → Option (List ℕ)) where
  -- what was changed since the last tick is in the round
  abbrev pub WaitsIn : Round → StepStanding S D O
  WaitsIn round = IsWaiting begins answers clocked listed stands seen may_leave is_clean contents IsNoTick (Carries round)

  -- nothing was read meanwhile
  abbrev pub WritesLate : Round → Round → Clients → Clients → S → S → Journal D O → Journal D O → O → O → Type 0
  WritesLate round round' = StepWrites begins answers clocked listed contents (KeepsToTick begins answers clocked listed stands may_leave) (KeepsToTick begins answers clocked listed stands may_leave) (WaitsIn round) (WaitsIn round')

  -- and nothing waits any more
  abbrev pub SettlesLate : Round → Clients → Clients → S → S → Journal D O → Journal D O → O → O → Type 0
  SettlesLate round = StepWrites begins answers clocked listed contents (KeepsToTick begins answers clocked listed stands may_leave) (KeepsToTick begins answers clocked listed stands may_leave) (WaitsIn round) (IsStanding begins answers clocked listed stands seen may_leave is_clean contents)

  -- it failed there
  abbrev pub FailsLate : Round → Clients → Clients → S → S → Journal D O → Journal D O → O → O → Type 0
  FailsLate round = StepFails begins answers clocked listed contents (KeepsToTick begins answers clocked listed stands may_leave) (KeepsToTick begins answers clocked listed stands may_leave) (WaitsIn round)

  -- from the start, when nothing waited
  abbrev pub ServesLate : Round → Clients → Clients → S → S → Journal D O → Journal D O → O → O → Option (List ℕ) → Option (List ℕ) → Type 0
  ServesLate round' = StepServes begins answers clocked listed contents (KeepsToTick begins answers clocked listed stands may_leave) (KeepsToTick begins answers clocked listed stands may_leave) (IsStanding begins answers clocked listed stands seen may_leave is_clean contents) (WaitsIn round')

  -- it was served, or it is the end
  abbrev pub GoesOnLate : Round → Round → Option End → Clients → Clients → S → S → Journal D O → Journal D O → O → O → Option (List ℕ) → Option (List ℕ) → Type 0
  GoesOnLate round round' = StepGoesOn begins answers clocked listed contents (KeepsToTick begins answers clocked listed stands may_leave) (KeepsToTick begins answers clocked listed stands may_leave) (WaitsIn round) (WaitsIn round')

  -- what a frame says happened; or it is wrong
  abbrev pub TakesLate : Round → Round → Bool → Option Head → List ℕ → Clients → Clients → S → S → Journal D O → Journal D O → O → O → Type 0
  TakesLate round round' true h bytes c c' s s' j j' o o' =
      (text : List ℕ) → IsFrame h bytes text
      → (more : List Event) × StepKeeps begins answers clocked listed contents (KeepsToTick begins answers clocked listed stands may_leave) (KeepsToTick begins answers clocked listed stands may_leave) (WaitsIn round) (WaitsIn round') more text c c' s s' j j' o o'
  TakesLate round round' false h bytes c c' s s' j j' o o' = WritesLate round round' c c' s s' j j' o o' × IsWrongFor c' h
