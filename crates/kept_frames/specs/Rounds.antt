-- What one step of `serve_kept` does.
use Rattle.std.specs.Prelude.{ℕ, Bool, true, false, Option, List}
use Rattle.http.specs.declared.request.Request.{Request}
use Rattle.http_server.specs.declared.response.Response.{Response}
use Rattle.http_frames.specs.declared.clients.Clients.{Clients}
use Rattle.http_frames.specs.declared.frames.Head.{Head}
use Rattle.http_frames.specs.declared.serving.End.{End}
use Rattle.http_frames.specs.ConnectionEvents.{Event}
use Rattle.http_frames.specs.FrameSteps.{IsWrongFor}
use Rattle.http_frames.specs.Frames.{IsFrame}
use Rattle.journal_core.specs.declared.journal.Journal.{Journal}
use Rattle.kept_frames.specs.KeptMoments.{IsStanding, KeepsWhole, KeepsTold}
use Rattle.kept_frames.specs.KeptSteps.{StepFails, StepGoesOn, StepKeeps, StepServes, StepWrites}

module _ {S D O : Type 0} (begins : S → ℕ → S → Type 0) (answers : S → Request (List ℕ) → Response → S → Type 0) (clocked : S → ℕ → S → Type 0) (listed : S → List ℕ → S → Type 0) (stands : List (List ℕ) → S → Type 0)
    (seen : D → List ℕ) (may_leave : D → List ℕ → Type 0) (is_clean : D → Bool) (contents : O → Option (List ℕ)) where
  -- nothing was read meanwhile
  abbrev pub WritesKept : Clients → Clients → S → S → Journal D O → Journal D O → O → O → Type 0
  WritesKept = StepWrites begins answers clocked listed contents (KeepsTold begins answers clocked listed stands may_leave) (KeepsWhole begins answers clocked listed stands may_leave)
      (IsStanding begins answers clocked listed stands seen may_leave is_clean contents) (IsStanding begins answers clocked listed stands seen may_leave is_clean contents)

  -- and this was read
  abbrev pub ServesKept : Clients → Clients → S → S → Journal D O → Journal D O → O → O → Option (List ℕ) → Option (List ℕ) → Type 0
  ServesKept = StepServes begins answers clocked listed contents (KeepsTold begins answers clocked listed stands may_leave) (KeepsWhole begins answers clocked listed stands may_leave)
      (IsStanding begins answers clocked listed stands seen may_leave is_clean contents) (IsStanding begins answers clocked listed stands seen may_leave is_clean contents)

  -- it failed there
  abbrev pub FailsKept : Clients → Clients → S → S → Journal D O → Journal D O → O → O → Type 0
  FailsKept = StepFails begins answers clocked listed contents (KeepsTold begins answers clocked listed stands may_leave) (KeepsWhole begins answers clocked listed stands may_leave)
      (IsStanding begins answers clocked listed stands seen may_leave is_clean contents)

  -- it was served, or it is the end
  abbrev pub GoesOnKept : Option End → Clients → Clients → S → S → Journal D O → Journal D O → O → O → Option (List ℕ) → Option (List ℕ) → Type 0
  GoesOnKept = StepGoesOn begins answers clocked listed contents (KeepsTold begins answers clocked listed stands may_leave) (KeepsWhole begins answers clocked listed stands may_leave)
      (IsStanding begins answers clocked listed stands seen may_leave is_clean contents) (IsStanding begins answers clocked listed stands seen may_leave is_clean contents)

  -- what a frame says happened; or it is wrong
  abbrev pub TakesKept : Bool → Option Head → List ℕ → Clients → Clients → S → S → Journal D O → Journal D O → O → O → Type 0
  TakesKept true h bytes c c' s s' j j' o o' =
      (text : List ℕ) → IsFrame h bytes text
      → (more : List Event) × StepKeeps begins answers clocked listed contents (KeepsTold begins answers clocked listed stands may_leave) (KeepsWhole begins answers clocked listed stands may_leave)
      (IsStanding begins answers clocked listed stands seen may_leave is_clean contents) (IsStanding begins answers clocked listed stands seen may_leave is_clean contents) more text c c' s s' j j' o o'
  TakesKept false h bytes c c' s s' j j' o o' = WritesKept c c' s s' j j' o o' × IsWrongFor c' h
