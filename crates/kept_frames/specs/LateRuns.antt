-- A whole run whose changes are kept at ticks, however it ends (own).
use Rattle.std.specs.Prelude.{ℕ, Bool, Option, List, Result}
use Rattle.http.specs.declared.request.Request.{Request}
use Rattle.http_server.specs.declared.response.Response.{Response}
use Rattle.http_frames.specs.declared.clients.Clients.{Clients}
use Rattle.http_frames.specs.declared.serving.End.{End}
use Rattle.http_frames.specs.ConnectionEvents.{Event, IsNoTick}
use Rattle.journal_core.specs.declared.header.Header.{Header}
use Rattle.journal_core.specs.declared.journal.Journal.{Journal}
use Rattle.kept_frames.specs.KeptMoments.{KeepsBut}
use Rattle.kept_frames.specs.KeptRuns.{RunsKeeping}

-- Whatever a crash now leaves of the file stands for the service as it was after some first of these events, behind which no tick came.
abbrev pub KeepsToTick : {S D : Type 0} → (S → ℕ → S → Type 0) → (S → Request (List ℕ) → Response → S → Type 0) → (S → ℕ → S → Type 0) → (S → List ℕ → S → Type 0) → (List (List ℕ) → S → Type 0)
    → (D → List ℕ → Type 0) → Header → S → List Event → D → Type 0
KeepsToTick begins answers clocked listed stands may_leave = KeepsBut begins answers clocked listed stands may_leave IsNoTick

-- It is a run in turns. At each moment that was noted, before and after each call of the disk and behind each handing out, what was handed out by then are exactly the frames of what was told by then, and whatever a
-- crash leaves of the file stands for the service as it was after some first of the run's events by then, behind which no tick came. So it is at the last moment; or a frame was being written there. At Ok the
-- journal is settled with records that stand for the service.
abbrev pub RunsLate : {S D O E : Type 0} → (S → ℕ → S → Type 0) → (S → Request (List ℕ) → Response → S → Type 0) → (S → ℕ → S → Type 0) → (S → List ℕ → S → Type 0) → (List (List ℕ) → S → Type 0) → (D → List ℕ)
    → (D → List ℕ → Type 0) → (D → Bool) → (O → Option (List ℕ)) → Result End E → Clients → Clients → S → S → Journal D O → Journal D O → Option (List ℕ) → Option (List ℕ) → O → O → Type 0
RunsLate begins answers clocked listed stands seen may_leave =
    RunsKeeping (KeepsToTick begins answers clocked listed stands may_leave) (KeepsToTick begins answers clocked listed stands may_leave) begins answers clocked listed stands seen may_leave
