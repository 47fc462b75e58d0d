-- What the turns of a round do, whose answers wait (own).
use Rattle.std.specs.Prelude.{◌≡◌, ◌⊎◌, ℕ, ◌+◌, ◌<◌, ◌≤◌, Bool, List, ◌++◌, All, length, IsTrue}
use Rattle.http.specs.declared.request.Request.{Request}
use Rattle.http_server.specs.declared.response.Response.{Response}
use Rattle.http_frames.specs.declared.clients.Clients.{Clients}
use Rattle.http_frames.specs.ConnectionEvents.{Event}
use Rattle.http_frames.specs.TurnRuns.{EventsLead, Moments, turns_of}
use Rattle.journal_core.specs.declared.round.Round.{Round}
use Rattle.journal_core.specs.declared.journal.Journal.{Journal}
use Rattle.journal_core.specs.Clocked.{EachLeaves}
use Rattle.journal_core.specs.Format.{StandsFor, records_text}
use Rattle.journal_core.specs.Resting.{Carries, IsSettled, clocked_of, disk_behind, gate_of, header_in}
use Rattle.kept_frames.specs.KeptMoments.{IsTurn}

module _ {S : Type 0} (begins : S → ℕ → S → Type 0) (answers : S → Request (List ℕ) → Response → S → Type 0) (clocked : S → ℕ → S → Type 0) (listed : S → List ℕ → S → Type 0) where
  -- these events happened, and they are turns alone
  pub record TurnsAlone (turns : List Event) (c c' : Clients) (s s' : S) : Type 0 where
    pub alone : All IsTurn turns
    pub moments : Moments turns c c'
    pub leads : EventsLead begins answers clocked listed s turns s'

  -- turns alone were given, and then there was no memory for a record
  abbrev pub BreaksTurns : Clients → Clients → S → S → Type 0
  BreaksTurns c c' s s' = (turns : List Event) × TurnsAlone turns c c' s s'

  module _ (stands : List (List ℕ) → S → Type 0) where
    -- Turns alone were given, to these connections; the round has records more, and where records stood for the service, they stand for it with these behind them.
    abbrev pub NotesMore : List ℕ → Clients → Clients → S → S → Round → Round → Type 0
    NotesMore numbers c c' s s' round round' =
        (turns : List Event) × TurnsAlone turns c c' s s' × (turns_of turns ≡ numbers)
        × ((new : List (List ℕ)) × ((records : List (List ℕ)) → Carries round records → Carries round' (records ++ new)) × ((records : List (List ℕ)) → stands records s → stands (records ++ new) s'))

    -- the same, and the round has no other records
    abbrev pub NotesTurns : List ℕ → Clients → Clients → S → S → Round → Type 0
    NotesTurns numbers c c' s s' round =
        (turns : List Event) × TurnsAlone turns c c' s s' × (turns_of turns ≡ numbers)
        × ((new : List (List ℕ)) × Carries round new × ((records : List (List ℕ)) → stands records s → stands (records ++ new) s'))

-- the records that the round has more take so many bytes of it at most
abbrev pub AddsWithin : ℕ → Round → Round → Type 0
AddsWithin most round round' =
    (records : List (List ℕ)) → Carries round records → (more : List (List ℕ)) × Carries round' (records ++ more) × (length (records_text more) ≤ most)

-- ---- the journal meanwhile, in whose file room is made for the round

module _ {D O : Type 0} (seen : D → List ℕ) (is_clean : D → Bool) where
  -- the gate stands where it stood, and the file has no fewer bytes behind it
  pub record LosesNoRoom (j j' : Journal D O) : Type 0 where
    pub gate : gate_of j' ≡ gate_of j
    pub longer : length (seen (disk_behind j)) ≤ length (seen (disk_behind j'))
    pub clean : IsTrue (is_clean (disk_behind j')) → IsTrue (is_clean (disk_behind j))

  -- a round with these records ends within the file, on a clean disk; where there is no record, none is needed
  abbrev pub EndsWithin : Journal D O → List (List ℕ) → Type 0
  EndsWithin j new = IsTrue (is_clean (disk_behind j)) → 0 < length (records_text new) → gate_of j + (32 + length (records_text new)) ≤ length (seen (disk_behind j))

module _ {D O : Type 0} (seen : D → List ℕ) (may_leave : D → List ℕ → Type 0) (is_clean : D → Bool) where
  -- records that it was settled with, it is settled with still
  abbrev pub StaysSettled : Journal D O → Journal D O → Type 0
  StaysSettled j j' = (records : List (List ℕ)) → IsSettled seen may_leave is_clean j records → IsSettled seen may_leave is_clean j' records

  -- at each moment between the two, all of them noted beside one output, a crash leaves the records that it was settled with, and so does one behind them
  pub record KeepsRecords (j j' : Journal D O) (o : O) : Type 0 where
    pub header : header_in j' ≡ header_in j
    pub each : (records : List (List ℕ)) → IsSettled seen may_leave is_clean j records → EachLeaves may_leave o (λ file. StandsFor (header_in j) file records) (clocked_of j) (clocked_of j')
    pub crash : (records : List (List ℕ)) → IsSettled seen may_leave is_clean j records → (file : List ℕ) → may_leave (disk_behind j') file → StandsFor (header_in j) file records

  -- room was made in the file, which stood for the same records meanwhile; and behind that the file grew no more, on a clean disk
  pub record GrowsFirst (j j' : Journal D O) (o : O) : Type 0 where
    pub made : Journal D O
    pub keeps : KeepsRecords j made o
    pub within : IsTrue (is_clean (disk_behind j')) → length (seen (disk_behind j')) ≡ length (seen (disk_behind made))

-- ---- and then a round is appended that has such records

module _ {D O : Type 0} (seen : D → List ℕ) (may_leave : D → List ℕ → Type 0) (is_clean : D → Bool) (waits : List (List ℕ) → Type 0) where
  -- records that it was settled with, it is settled with once the round's stand behind them
  abbrev pub SettlesWith : Journal D O → Journal D O → Type 0
  SettlesWith j j' = (records new : List (List ℕ)) → IsSettled seen may_leave is_clean j records → waits new → IsSettled seen may_leave is_clean j' (records ++ new)

  -- at each moment between the two, all of them noted beside one output, a crash leaves the records that it was settled with, or the round's behind them, and so does one behind them
  pub record KeepsEither (j j' : Journal D O) (o : O) : Type 0 where
    pub header : header_in j' ≡ header_in j
    pub each : (records new : List (List ℕ)) → IsSettled seen may_leave is_clean j records → waits new
        → EachLeaves may_leave o (λ file. StandsFor (header_in j) file records ⊎ StandsFor (header_in j) file (records ++ new)) (clocked_of j) (clocked_of j')
    pub crash : (records new : List (List ℕ)) → IsSettled seen may_leave is_clean j records → waits new → (file : List ℕ) → may_leave (disk_behind j') file
        → StandsFor (header_in j) file records ⊎ StandsFor (header_in j) file (records ++ new)
