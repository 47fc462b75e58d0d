-- What is kept at a moment (own): the file stands for the service as it was after some first of what had happened, behind which there was only what may be lost.
use Rattle.std.specs.Prelude.{◌≡◌, ◌⊎◌, ℕ, Bool, Option, List, ◌++◌, All}
use Rattle.std.specs.Io.KnownBytes.{Appends}
use Rattle.http.specs.declared.request.Request.{Request}
use Rattle.http_server.specs.declared.response.Response.{Response}
use Rattle.http_frames.specs.ConnectionEvents.{Event, Answered}
use Rattle.http_frames.specs.TurnRuns.{EventsLead, WritesUpTo, told_text}
use Rattle.journal_core.specs.declared.header.Header.{Header}
use Rattle.journal_core.specs.declared.journal.Journal.{Journal}
use Rattle.journal_core.specs.Format.{StandsFor}
use Rattle.journal_core.specs.Resting.{IsSettled, header_in}

-- a turn was given, and nothing was handed out
abbrev pub IsTurn : Event → Type 0
IsTurn (Answered number calls) = Unit {0}
IsTurn _ = ⊥

module _ {S D : Type 0} (begins : S → ℕ → S → Type 0) (answers : S → Request (List ℕ) → Response → S → Type 0) (clocked : S → ℕ → S → Type 0) (listed : S → List ℕ → S → Type 0) (stands : List (List ℕ) → S → Type 0)
    (may_leave : D → List ℕ → Type 0) where
  -- the file stands for the service as it was after these events
  abbrev pub StandsAfter : Header → S → List Event → List ℕ → Type 0
  StandsAfter h start events file = (s : S) × EventsLead begins answers clocked listed start events s × ((records : List (List ℕ)) × StandsFor h file records × stands records s)

  -- Whatever a crash now leaves of the file stands for the service as it was after all of these events.
  abbrev pub KeepsWhole : Header → S → List Event → D → Type 0
  KeepsWhole h start events disk = (file : List ℕ) → may_leave disk file → StandsAfter h start events file

  -- Whatever a crash now leaves of the file stands for the service as it was after some first of these events, behind which all are such.
  abbrev pub KeepsBut : (Event → Type 0) → Header → S → List Event → D → Type 0
  KeepsBut Such h start events disk =
      (file : List ℕ) → may_leave disk file → (first : List Event) × (later : List Event) × (events ≡ first ++ later) × All Such later × StandsAfter h start first file

  -- the same, and only turns were given behind those
  abbrev pub KeepsTold : Header → S → List Event → D → Type 0
  KeepsTold = KeepsBut IsTurn

module _ {S D O : Type 0} (contents : O → Option (List ℕ)) (keeps : Header → S → List Event → D → Type 0) where
  -- By this moment the first of these events had happened, what was written are exactly the frames of what they told, and that is kept.
  pub record IsKeptMoment (h : Header) (start : S) (output : Option (List ℕ)) (events : List Event) (m : D × O) : Type 0 where
    pub by_then : List Event
    pub rest : List Event
    pub split : events ≡ by_then ++ rest
    pub wrote : Appends output (contents m.1) (told_text by_then)
    pub kept : keeps h start by_then m.0

  -- By this moment all of these events had happened, and at most a front of one more frame was written; and that is kept.
  pub record IsKeptBreak (h : Header) (start : S) (output : Option (List ℕ)) (events : List Event) (m : D × O) : Type 0 where
    pub wrote : WritesUpTo events output (contents m.1)
    pub kept : keeps h start events m.0

-- at the last moment of a run, however it ends
abbrev pub IsKeptEnd : {S D O : Type 0} → (O → Option (List ℕ)) → (Header → S → List Event → D → Type 0) → (Header → S → List Event → D → Type 0) → Header → S → Option (List ℕ) → List Event → D × O → Type 0
IsKeptEnd contents keeps keeps_end h start output events m = IsKeptMoment contents keeps h start output events m ⊎ IsKeptBreak contents keeps_end h start output events m

module _ {S D O : Type 0} (begins : S → ℕ → S → Type 0) (answers : S → Request (List ℕ) → Response → S → Type 0) (clocked : S → ℕ → S → Type 0) (listed : S → List ℕ → S → Type 0) (stands : List (List ℕ) → S → Type 0)
    (seen : D → List ℕ) (may_leave : D → List ℕ → Type 0) (is_clean : D → Bool) (contents : O → Option (List ℕ)) where
  -- Between two rounds: these events led from the start to the service, their frames were written, and all that they changed is in the file.
  pub record IsStanding (h : Header) (start : S) (output : Option (List ℕ)) (events : List Event) (s : S) (j : Journal D O) (o : O) : Type 0 where
    pub header : header_in j ≡ h
    pub leads : EventsLead begins answers clocked listed start events s
    pub wrote : Appends output (contents o) (told_text events)
    pub records : List (List ℕ)
    pub settled : IsSettled seen may_leave is_clean j records
    pub stand : stands records s

  -- Between two steps where changes wait: these events led from the start to the service, and their frames were written. What the first of them changed is in the file; behind those all are such, and what they changed waits.
  pub record IsWaiting (Such : Event → Type 0) (waits : List (List ℕ) → Type 0) (h : Header) (start : S) (output : Option (List ℕ)) (events : List Event) (s : S) (j : Journal D O) (o : O) : Type 0 where
    pub header : header_in j ≡ h
    pub leads : EventsLead begins answers clocked listed start events s
    pub wrote : Appends output (contents o) (told_text events)
    pub first : List Event
    pub later : List Event
    pub split : events ≡ first ++ later
    pub such : All Such later
    pub before : S
    pub led : EventsLead begins answers clocked listed start first before
    pub records : List (List ℕ)
    pub settled : IsSettled seen may_leave is_clean j records
    pub stand : stands records before
    pub new : List (List ℕ)
    pub waiting : waits new
    pub stand_all : stands (records ++ new) s
