-- A whole run whose answers are kept, however it ends (own).
use Rattle.std.specs.Prelude.{ℕ, Bool, Option, List, Result, IfOk}
use Rattle.http.specs.declared.request.Request.{Request}
use Rattle.http_server.specs.declared.response.Response.{Response}
use Rattle.http_frames.specs.declared.clients.Clients.{Clients}
use Rattle.http_frames.specs.declared.serving.End.{End}
use Rattle.http_frames.specs.ConnectionEvents.{Event}
use Rattle.http_frames.specs.TurnRuns.{RunsInTurns}
use Rattle.journal_core.specs.declared.header.Header.{Header}
use Rattle.journal_core.specs.declared.journal.Journal.{Journal}
use Rattle.journal_core.specs.Clocked.{Each}
use Rattle.journal_core.specs.Resting.{IsSettled, clocked_of, disk_behind, header_in}
use Rattle.kept_frames.specs.KeptMoments.{IsKeptEnd, IsKeptMoment, KeepsWhole, KeepsTold}

-- It is a run in turns. At each moment that was noted, before and after each call of the disk and behind each handing out, what was handed out by then are exactly the frames of what was told by then, and
-- the one is kept; at the last moment so, or a frame was being written there, and the other is kept. At Ok the journal is settled with records that stand for the service.
pub record RunsKeeping {S D O E : Type 0} (keeps keeps_end : Header → S → List Event → D → Type 0) (begins : S → ℕ → S → Type 0) (answers : S → Request (List ℕ) → Response → S → Type 0) (clocked : S → ℕ → S → Type 0)
    (listed : S → List ℕ → S → Type 0) (stands : List (List ℕ) → S → Type 0) (seen : D → List ℕ) (may_leave : D → List ℕ → Type 0) (is_clean : D → Bool) (contents : O → Option (List ℕ)) (result : Result End E)
    (c c' : Clients) (s s' : S) (j j' : Journal D O) (input input' : Option (List ℕ)) (o o' : O) : Type 0 where
  pub run : RunsInTurns begins answers clocked listed result c c' s s' input input' (contents o) (contents o')
  pub each : Each (IsKeptMoment contents keeps (header_in j) s (contents o) run.done) (clocked_of j) (clocked_of j')
  pub last : IsKeptEnd contents keeps keeps_end (header_in j) s (contents o) run.done (disk_behind j', o')
  pub settled : IfOk result (λ _. (records : List (List ℕ)) × IsSettled seen may_leave is_clean j' records × stands records s')

-- Such a run: whatever a crash leaves of the file at a moment stands for the service as it was after some first of the run's events by then, behind which only turns were given, and so nothing was handed out;
-- where a frame was being written at the last moment, for the service as it was after all that happened.
abbrev pub RunsKept : {S D O E : Type 0} → (S → ℕ → S → Type 0) → (S → Request (List ℕ) → Response → S → Type 0) → (S → ℕ → S → Type 0) → (S → List ℕ → S → Type 0) → (List (List ℕ) → S → Type 0) → (D → List ℕ)
    → (D → List ℕ → Type 0) → (D → Bool) → (O → Option (List ℕ)) → Result End E → Clients → Clients → S → S → Journal D O → Journal D O → Option (List ℕ) → Option (List ℕ) → O → O → Type 0
RunsKept begins answers clocked listed stands seen may_leave =
    RunsKeeping (KeepsTold begins answers clocked listed stands may_leave) (KeepsWhole begins answers clocked listed stands may_leave) begins answers clocked listed stands seen may_leave
