-- The file is touched before a frame is taken that asks for it.
use Rattle.std.proofs.Common.{◌≡◌, ℕ, Bool, true, false, Option, List, [], ◌∷◌, ◌++◌, refl, sym, ◌∙◌, subst, append-nil}
use Rattle.http.specs.declared.request.Request.{Request}
use Rattle.http_server.specs.declared.response.Response.{Response}
use Rattle.http_frames.specs.declared.clients.Clients.{Clients}
use Rattle.http_frames.specs.declared.frames.Head.{Head}
use Rattle.http_frames.specs.ConnectionEvents.{Event}
use Rattle.http_frames.specs.FrameSteps.{IsWrongFor, TakesFrame}
use Rattle.http_frames.proofs.Moments.{none as no_moments}
use Rattle.journal_core.specs.declared.header.Header.{Header}
use Rattle.journal_core.specs.declared.journal.Journal.{Journal}
use Rattle.journal_core.specs.declared.round.Round.{Round}
use Rattle.journal_core.specs.Clocked.{past_of}
use Rattle.journal_core.specs.Resting.{clocked_of, disk_behind, header_in}
use Rattle.kept_frames.specs.Giving.{KeepsRecords, StaysSettled}
use Rattle.kept_frames.specs.KeptMoments.{IsStanding, IsTurn, IsWaiting, KeepsBut}
use Rattle.kept_frames.specs.KeptSteps.{StepBreaks, StepKeeps}
use Rattle.kept_frames.specs.LateSteps.{TakesLate}
use Rattle.kept_frames.specs.Rounds.{TakesKept}
use Rattle.kept_frames.proofs.Giving.{NoneWait, alone_none, begin_waiting, recorded, unrecorded}
use Rattle.kept_frames.proofs.Standings.{kept_stays}
use Rattle.kept_frames.proofs.Steps.{breaks_then, steps_as, steps_then}
use Rattle.kept_frames.proofs.Taking.{frame_noted, wrong_noted}
use Rattle.kept_frames.proofs.Waits.{waits_roomy}

module _ {S D O : Type 0} {begins : S → ℕ → S → Type 0} {answers : S → Request (List ℕ) → Response → S → Type 0} {clocked : S → ℕ → S → Type 0} {listed : S → List ℕ → S → Type 0} {stands : List (List ℕ) → S → Type 0}
    {seen : D → List ℕ} {may_leave : D → List ℕ → Type 0} {is_clean : D → Bool} {contents : O → Option (List ℕ)} where
  -- where nothing waits, all is in the file
  none_waits : (h : Header) (start : S) (output : Option (List ℕ)) (events : List Event) (s : S) (j : Journal D O) (o : O) → IsWaiting begins answers clocked listed stands seen may_leave is_clean contents IsTurn NoneWait h start output events s j o
      → IsStanding begins answers clocked listed stands seen may_leave is_clean contents h start output events s j o
  none_waits h start output events s j o st = record {
    header = st.header;
    leads = st.leads;
    wrote = st.wrote;
    records = st.records;
    settled = st.settled;
    stand = subst (λ (rs : List (List ℕ)). stands rs s) (append-nil st.records) (subst (λ (new : List (List ℕ)). stands (st.records ++ new) s) st.waiting st.stand_all);
  }

  module _ {keeps_end : Header → S → List Event → D → Type 0} (c : Clients) (s : S) {j j' : Journal D O} {o : O} (touch : KeepsRecords seen may_leave is_clean j j' o) where
    pub standing_touched : StaysSettled seen may_leave is_clean j j'
        → StepKeeps begins answers clocked listed contents (KeepsBut begins answers clocked listed stands may_leave IsTurn) keeps_end (IsStanding begins answers clocked listed stands seen may_leave is_clean contents)
        (IsStanding begins answers clocked listed stands seen may_leave is_clean contents) [] [] c c s s j j' o o
    standing_touched stays =
        steps_as
        (steps_then (begin_waiting IsTurn NoneWait refl c s j o)
        (recorded IsTurn NoneWait (λ e turn. turn) (alone_none begins answers clocked listed c c s s (no_moments c) refl) touch stays {waits' = NoneWait} [] (λ new none. append-nil new ∙ none)
        (λ records stand. subst (λ (rs : List (List ℕ)). stands rs s) (sym (append-nil records)) stand)))
        (λ h start output events. none_waits h start output events s j' o)

    pub standing_untouched : StepBreaks begins answers clocked listed contents (KeepsBut begins answers clocked listed stands may_leave IsTurn) keeps_end (IsStanding begins answers clocked listed stands seen may_leave is_clean contents) [] c c s s j j' o o
    standing_untouched = breaks_then (begin_waiting IsTurn NoneWait refl c s j o) (unrecorded IsTurn NoneWait (λ e turn. turn) (alone_none begins answers clocked listed c c s s (no_moments c) refl) touch)

module _ {S D O : Type 0} (begins : S → ℕ → S → Type 0) (answers : S → Request (List ℕ) → Response → S → Type 0) (clocked : S → ℕ → S → Type 0) (listed : S → List ℕ → S → Type 0) (stands : List (List ℕ) → S → Type 0)
    (seen : D → List ℕ) (may_leave : D → List ℕ → Type 0) (is_clean : D → Bool) (contents : O → Option (List ℕ))
    (clocks : (records : List (List ℕ)) (old : S) (moment : ℕ) (new : S) → stands records old → clocked old moment new → stands records new)
    (lists : (records : List (List ℕ)) (old : S) (file : List ℕ) (new : S) → stands records old → listed old file new → stands records new) (c c' : Clients) (s s' : S) (j j1 j' : Journal D O) (o o' : O) (h : Option Head) (bytes : List ℕ)
    (touch : KeepsRecords seen may_leave is_clean j j1 o) (stays : StaysSettled seen may_leave is_clean j j1) where
  -- and then the frame was taken
  pub standing_taken : (right : Bool) → TakesFrame begins answers clocked listed right h bytes c c' s s' (contents o) (contents o') → past_of (clocked_of j') ≡ past_of (clocked_of j1) ++ (disk_behind j', o') ∷ [] → header_in j' ≡ header_in j1
      → StaysSettled seen may_leave is_clean j1 j' → TakesKept begins answers clocked listed stands seen may_leave is_clean contents right h bytes c c' s s' j j' o o'
  standing_taken true taken past same settles = λ text frame.
      let x = frame_noted kept_stays clocks lists h bytes text taken frame tt past same settles in (x.0, steps_then (standing_touched c s touch stays) x.1)
  standing_taken false taken past same settles =
      let x = wrong_noted kept_stays h bytes taken past same settles in
      ((x.0, steps_then (standing_touched c s touch stays) x.1), subst (λ (k : Clients). IsWrongFor k h) (sym taken.0) taken.3)

module _ {S D O : Type 0} (begins : S → ℕ → S → Type 0) (answers : S → Request (List ℕ) → Response → S → Type 0) (clocked : S → ℕ → S → Type 0) (listed : S → List ℕ → S → Type 0) (stands : List (List ℕ) → S → Type 0)
    (seen : D → List ℕ) (may_leave : D → List ℕ → Type 0) (is_clean : D → Bool) (contents : O → Option (List ℕ)) (c c' : Clients) (s s' : S) (j j1 j' : Journal D O) (o o' : O) (h : Option Head) (bytes : List ℕ) (round : Round)
    (touch : KeepsRecords seen may_leave is_clean j j1 o) (stays : StaysSettled seen may_leave is_clean j j1) where
  -- where records wait, and then the frame was taken
  pub waiting_touched : (right : Bool) → TakesLate begins answers clocked listed stands seen may_leave is_clean contents round round right h bytes c c' s s' j1 j' o o'
      → TakesLate begins answers clocked listed stands seen may_leave is_clean contents round round right h bytes c c' s s' j j' o o'
  waiting_touched true taken = λ text frame. let x = taken text frame in (x.0, steps_then (waits_roomy c round refl touch stays) x.1)
  waiting_touched false taken = ((taken.0.0, steps_then (waits_roomy c round refl touch stays) taken.0.1), taken.1)
