-- What a crash leaves between two steps, and what may happen there while nothing is appended.
use Rattle.std.proofs.Common.{◌≡◌, ℕ, Bool, false, Option, List, [], ◌∷◌, ◌++◌, All, refl, sym, ap, ◌∙◌, subst, append_assoc, append-nil, inr}
use Rattle.std.proofs.lemmas.List.Elements.{All-append, All-cons, All-nil}
use Rattle.std.specs.Io.KnownBytes.{Appends}
use Rattle.http.specs.declared.request.Request.{Request}
use Rattle.http_server.specs.declared.response.Response.{Response}
use Rattle.http_frames.specs.ConnectionEvents.{Asked, Closed, Event, IsNoTick, IsOut}
use Rattle.http_frames.specs.TurnRuns.{EventsLead, told_text}
use Rattle.http_frames.proofs.Happenings.{leads-append, texts_then, told_no_tick}
use Rattle.journal_core.specs.declared.header.Header.{Header}
use Rattle.journal_core.specs.declared.journal.Journal.{Journal}
use Rattle.journal_core.specs.Format.{Lies, StandsFor}
use Rattle.journal_core.specs.Resting.{IsSettled, disk_behind, header_in}
use Rattle.kept_frames.specs.Giving.{StaysSettled}
use Rattle.kept_frames.specs.KeptMoments.{IsKeptMoment, IsStanding, IsTurn, IsWaiting, KeepsWhole, KeepsBut}
use Rattle.kept_frames.specs.KeptSteps.{StepStanding}

-- of a settled journal the file stands for its records
pub settled_leaves : {D O : Type 0} {seen : D → List ℕ} {may_leave : D → List ℕ → Type 0} {is_clean : D → Bool} (h : Header) (j : Journal D O) (records : List (List ℕ)) → header_in j ≡ h
    → IsSettled seen may_leave is_clean j records → (file : List ℕ) → may_leave (disk_behind j) file → StandsFor h file records
settled_leaves h j records same it file left =
    subst (λ (k : Header). StandsFor k file records) same (inr (it.rounds, subst (λ (f : List ℕ). Lies (header_in j) f it.rounds) (sym (it.durable file left)) it.lies, it.same))

module _ {S D O : Type 0} {contents : O → Option (List ℕ)} {keeps : Header → S → List Event → D → Type 0} where
  -- a moment of a run is one of the run that goes on
  pub longer : (h : Header) (start : S) (output : Option (List ℕ)) (events more : List Event) (m : D × O) → IsKeptMoment contents keeps h start output events m → IsKeptMoment contents keeps h start output (events ++ more) m
  longer h start output events more m it = record {
    by_then = it.by_then;
    rest = it.rest ++ more;
    split = ap (λ (es : List Event). es ++ more) it.split ∙ append_assoc it.by_then it.rest more;
    wrote = it.wrote;
    kept = it.kept;
  }

  -- all of these events had happened by then
  pub by_now : (h : Header) (start : S) (output : Option (List ℕ)) (events : List Event) (disk : D) (o : O) → Appends output (contents o) (told_text events) → keeps h start events disk → IsKeptMoment contents keeps h start output events (disk, o)
  by_now h start output events disk o wrote kept = record { by_then = events; rest = []; split = sym (append-nil events); wrote = wrote; kept = kept }

-- A standing between steps, which stays where such events happen, what was kept of the service stands for it still, and the journal stays settled.
pub record Stays {S D O : Type 0} (begins : S → ℕ → S → Type 0) (answers : S → Request (List ℕ) → Response → S → Type 0) (clocked : S → ℕ → S → Type 0) (listed : S → List ℕ → S → Type 0) (stands : List (List ℕ) → S → Type 0)
    (seen : D → List ℕ) (may_leave : D → List ℕ → Type 0) (is_clean : D → Bool) (contents : O → Option (List ℕ)) (keeps keeps_end : Header → S → List Event → D → Type 0) (May : List Event → Type 0) (At : StepStanding S D O) : Type 0 where
  pub none : May []
  pub asked : May (Asked ∷ [])
  pub closed : May (Closed ∷ [])
  pub told : (more : List Event) → All (IsOut false) more → May more
  pub on : (more : List Event) (s s' : S) (j j' : Journal D O) (o o' : O) → May more → EventsLead begins answers clocked listed s more s' → ((records : List (List ℕ)) → stands records s → stands records s') → header_in j' ≡ header_in j
      → StaysSettled seen may_leave is_clean j j' → Appends (contents o) (contents o') (told_text more) → (h : Header) (start : S) (output : Option (List ℕ)) (events : List Event) → At h start output events s j o → At h start output (events ++ more) s' j' o'
  pub wrote : (h : Header) (start : S) (output : Option (List ℕ)) (events : List Event) (s : S) (j : Journal D O) (o : O) → At h start output events s j o → Appends output (contents o) (told_text events)
  pub now : (h : Header) (start : S) (output : Option (List ℕ)) (events : List Event) (s : S) (j : Journal D O) (o : O) → At h start output events s j o → keeps h start events (disk_behind j)
  -- where it breaks off behind such events
  pub broken : (more : List Event) (s s' : S) (j : Journal D O) (o : O) → May more → EventsLead begins answers clocked listed s more s' → ((records : List (List ℕ)) → stands records s → stands records s')
      → (h : Header) (start : S) (output : Option (List ℕ)) (events : List Event) → At h start output events s j o → keeps_end h start (events ++ more) (disk_behind j)

module _ {S D : Type 0} {begins : S → ℕ → S → Type 0} {answers : S → Request (List ℕ) → Response → S → Type 0} {clocked : S → ℕ → S → Type 0} {listed : S → List ℕ → S → Type 0} {stands : List (List ℕ) → S → Type 0} (may_leave : D → List ℕ → Type 0) where
  -- what is kept whole
  all_but : (Such : Event → Type 0) (h : Header) (start : S) (events : List Event) (disk : D) → KeepsWhole begins answers clocked listed stands may_leave h start events disk → KeepsBut begins answers clocked listed stands may_leave Such h start events disk
  all_but Such h start events disk all = λ file left. (events, [], sym (append-nil events), All-nil Such, all file left)

module _ {S D O : Type 0} {begins : S → ℕ → S → Type 0} {answers : S → Request (List ℕ) → Response → S → Type 0} {clocked : S → ℕ → S → Type 0} {listed : S → List ℕ → S → Type 0} {stands : List (List ℕ) → S → Type 0}
    {seen : D → List ℕ} {may_leave : D → List ℕ → Type 0} {is_clean : D → Bool} {contents : O → Option (List ℕ)} where
  standing_all : (h : Header) (start : S) (output : Option (List ℕ)) (events : List Event) (s : S) (j : Journal D O) (o : O) → IsStanding begins answers clocked listed stands seen may_leave is_clean contents h start output events s j o
      → KeepsWhole begins answers clocked listed stands may_leave h start events (disk_behind j)
  standing_all h start output events s j o st = λ file left. (s, st.leads, (st.records, settled_leaves h j st.records st.header st.settled file left, st.stand))

  pub standing_on : (more : List Event) (s s' : S) (j j' : Journal D O) (o o' : O) → EventsLead begins answers clocked listed s more s' → ((records : List (List ℕ)) → stands records s → stands records s') → header_in j' ≡ header_in j
      → StaysSettled seen may_leave is_clean j j' → Appends (contents o) (contents o') (told_text more) → (h : Header) (start : S) (output : Option (List ℕ)) (events : List Event)
      → IsStanding begins answers clocked listed stands seen may_leave is_clean contents h start output events s j o → IsStanding begins answers clocked listed stands seen may_leave is_clean contents h start output (events ++ more) s' j' o'
  standing_on more s s' j j' o o' leads stand same settles wrote h start output events st = record {
    header = same ∙ st.header;
    leads = leads-append begins answers clocked listed events more start s s' st.leads leads;
    wrote = texts_then events more output (contents o) (contents o') st.wrote wrote;
    records = st.records;
    settled = settles st.records st.settled;
    stand = stand st.records st.stand;
  }

  -- where all is in the file, anything may happen
  standing_stays : (keeps keeps_end : Header → S → List Event → D → Type 0) → ((h : Header) (start : S) (events : List Event) (disk : D) → KeepsWhole begins answers clocked listed stands may_leave h start events disk → keeps h start events disk)
      → ((h : Header) (start : S) (events : List Event) (disk : D) → KeepsWhole begins answers clocked listed stands may_leave h start events disk → keeps_end h start events disk)
      → Stays begins answers clocked listed stands seen may_leave is_clean contents keeps keeps_end (λ more. Unit {0}) (IsStanding begins answers clocked listed stands seen may_leave is_clean contents)
  standing_stays keeps keeps_end all all_end = record {
    none = tt;
    asked = tt;
    closed = tt;
    told = λ more out. tt;
    on = λ more s s' j j' o o' may. standing_on more s s' j j' o o';
    wrote = λ h start output events s j o st. st.wrote;
    now = λ h start output events s j o st. all h start events (disk_behind j) (standing_all h start output events s j o st);
    broken = λ more s s' j o may leads stand h start output events st. all_end h start (events ++ more) (disk_behind j) (λ file left. (
      s',
      leads-append begins answers clocked listed events more start s s' st.leads leads,
      (st.records, settled_leaves h j st.records st.header st.settled file left, stand st.records st.stand),
    ));
  }

  pub kept_stays : Stays begins answers clocked listed stands seen may_leave is_clean contents (KeepsBut begins answers clocked listed stands may_leave IsTurn) (KeepsWhole begins answers clocked listed stands may_leave) (λ more. Unit {0})
      (IsStanding begins answers clocked listed stands seen may_leave is_clean contents)
  kept_stays = standing_stays (KeepsBut begins answers clocked listed stands may_leave IsTurn) (KeepsWhole begins answers clocked listed stands may_leave) (all_but may_leave IsTurn) (λ h start events disk all. all)

  pub tick_stays : Stays begins answers clocked listed stands seen may_leave is_clean contents (KeepsBut begins answers clocked listed stands may_leave IsNoTick) (KeepsBut begins answers clocked listed stands may_leave IsNoTick) (λ more. Unit {0})
      (IsStanding begins answers clocked listed stands seen may_leave is_clean contents)
  tick_stays = standing_stays (KeepsBut begins answers clocked listed stands may_leave IsNoTick) (KeepsBut begins answers clocked listed stands may_leave IsNoTick) (all_but may_leave IsNoTick) (all_but may_leave IsNoTick)

  module _ {Such : Event → Type 0} {waits : List (List ℕ) → Type 0} {h : Header} {start : S} {output : Option (List ℕ)} {events : List Event} {s : S} {j : Journal D O} {o : O}
      (st : IsWaiting begins answers clocked listed stands seen may_leave is_clean contents Such waits h start output events s j o) where
    -- a crash leaves the service as it was after the first of the events
    pub keeps_first : (more : List Event) (disk : D) → All Such more → ((file : List ℕ) → may_leave disk file → StandsFor (header_in j) file st.records) → KeepsBut begins answers clocked listed stands may_leave Such h start (events ++ more) disk
    keeps_first more disk such leaves = λ file left. (
      st.first,
      st.later ++ more,
      ap (λ (es : List Event). es ++ more) st.split ∙ append_assoc st.first st.later more,
      All-append Such st.later more st.such such,
      (st.before, st.led, (st.records, subst (λ (k : Header). StandsFor k file st.records) st.header (leaves file left), st.stand)),
    )

    waiting_leaves : (file : List ℕ) → may_leave (disk_behind j) file → StandsFor (header_in j) file st.records
    waiting_leaves = settled_leaves (header_in j) j st.records refl st.settled

  waiting_on : (Such : Event → Type 0) (waits : List (List ℕ) → Type 0) (more : List Event) (s s' : S) (j j' : Journal D O) (o o' : O) → All Such more → EventsLead begins answers clocked listed s more s'
      → ((records : List (List ℕ)) → stands records s → stands records s') → header_in j' ≡ header_in j → StaysSettled seen may_leave is_clean j j' → Appends (contents o) (contents o') (told_text more)
      → (h : Header) (start : S) (output : Option (List ℕ)) (events : List Event) → IsWaiting begins answers clocked listed stands seen may_leave is_clean contents Such waits h start output events s j o
      → IsWaiting begins answers clocked listed stands seen may_leave is_clean contents Such waits h start output (events ++ more) s' j' o'
  waiting_on Such waits more s s' j j' o o' may leads stand same settles wrote h start output events st = record {
    header = same ∙ st.header;
    leads = leads-append begins answers clocked listed events more start s s' st.leads leads;
    wrote = texts_then events more output (contents o) (contents o') st.wrote wrote;
    first = st.first;
    later = st.later ++ more;
    split = ap (λ (es : List Event). es ++ more) st.split ∙ append_assoc st.first st.later more;
    such = All-append Such st.later more st.such may;
    before = st.before;
    led = st.led;
    records = st.records;
    settled = settles st.records st.settled;
    stand = st.stand;
    new = st.new;
    waiting = st.waiting;
    stand_all = stand (st.records ++ st.new) st.stand_all;
  }

  -- where changes wait, anything but a tick may happen
  pub waiting_stays : (waits : List (List ℕ) → Type 0)
      → Stays begins answers clocked listed stands seen may_leave is_clean contents (KeepsBut begins answers clocked listed stands may_leave IsNoTick) (KeepsBut begins answers clocked listed stands may_leave IsNoTick) (All IsNoTick)
      (IsWaiting begins answers clocked listed stands seen may_leave is_clean contents IsNoTick waits)
  waiting_stays waits = record {
    none = All-nil IsNoTick;
    asked = All-cons IsNoTick Asked [] tt (All-nil IsNoTick);
    closed = All-cons IsNoTick Closed [] tt (All-nil IsNoTick);
    told = told_no_tick;
    on = waiting_on IsNoTick waits;
    wrote = λ h start output events s j o st. st.wrote;
    now = λ h start output events s j o st. subst (λ (es : List Event). KeepsBut begins answers clocked listed stands may_leave IsNoTick h start es (disk_behind j)) (append-nil events) (keeps_first st [] (disk_behind j) (All-nil IsNoTick) (waiting_leaves st));
    broken = λ more s s' j o may leads stand h start output events st. keeps_first st more (disk_behind j) may (waiting_leaves st);
  }
