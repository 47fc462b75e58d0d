-- Turns whose answers are handed out while their records wait, ticks, and the frames between them.
use Rattle.std.proofs.Common.{◌≡◌, ◌⊎◌, ℕ, Bool, true, false, Option, List, [], ◌∷◌, ◌++◌, All, sym, subst, append-nil, inl, inr}
use Rattle.http.specs.declared.request.Request.{Request}
use Rattle.http_server.specs.declared.response.Response.{Response}
use Rattle.http_frames.specs.declared.clients.Clients.{Clients}
use Rattle.http_frames.specs.declared.frames.Head.{Head}
use Rattle.http_frames.specs.ConnectionEvents.{Event, IsNoTick}
use Rattle.http_frames.specs.FrameSteps.{IsWrongFor, TakesFrame, TellsMoment}
use Rattle.http_frames.specs.TurnRuns.{BreaksTold, TellsAll}
use Rattle.http_frames.proofs.Moments.{none as no_moments}
use Rattle.journal_core.specs.declared.journal.Journal.{Journal}
use Rattle.journal_core.specs.declared.round.Round.{Round}
use Rattle.journal_core.specs.Clocked.{past_of}
use Rattle.journal_core.specs.Resting.{Carries, clocked_of, disk_behind, header_in}
use Rattle.kept_frames.specs.Giving.{BreaksTurns, KeepsEither, KeepsRecords, NotesMore, SettlesWith, StaysSettled}
use Rattle.kept_frames.specs.KeptMoments.{IsWaiting}
use Rattle.kept_frames.specs.KeptSteps.{StepBreaks, StepFails, StepWrites, StepKeeps}
use Rattle.kept_frames.specs.LateRuns.{KeepsToTick}
use Rattle.kept_frames.specs.LateSteps.{TakesLate}
use Rattle.kept_frames.proofs.Giving.{alone_none, appended, recorded, standing_waits, turn_no_tick, unrecorded}
use Rattle.kept_frames.proofs.Noting.{told_broken, told_noted}
use Rattle.kept_frames.proofs.Rooms.{keeps_none}
use Rattle.kept_frames.proofs.Standings.{tick_stays, waiting_stays}
use Rattle.kept_frames.proofs.Steps.{breaks_then, steps_as, steps_then}
use Rattle.kept_frames.proofs.Taking.{frame_noted, wrong_noted}

module _ {S D O : Type 0} {begins : S → ℕ → S → Type 0} {answers : S → Request (List ℕ) → Response → S → Type 0} {clocked : S → ℕ → S → Type 0} {listed : S → List ℕ → S → Type 0} {stands : List (List ℕ) → S → Type 0}
    {seen : D → List ℕ} {may_leave : D → List ℕ → Type 0} {is_clean : D → Bool} {contents : O → Option (List ℕ)} where
  -- what waited was appended, and the next round begins
  pub waits_anew : (c : Clients) (s : S) {j j' : Journal D O} {o : O} (round round' : Round) → KeepsEither seen may_leave is_clean (Carries round) j j' o → SettlesWith seen may_leave is_clean (Carries round) j j' → Carries round' []
      → StepKeeps begins answers clocked listed contents (KeepsToTick begins answers clocked listed stands may_leave) (KeepsToTick begins answers clocked listed stands may_leave) (IsWaiting begins answers clocked listed stands seen may_leave is_clean contents IsNoTick (Carries round)) (IsWaiting begins answers clocked listed stands seen may_leave is_clean contents IsNoTick (Carries round')) [] [] c c s s j j' o o
  waits_anew c s {j} {j'} {o} round round' either settles fresh =
      steps_as (appended IsNoTick (Carries round) c s either settles) (λ h start output events. standing_waits IsNoTick (Carries round') fresh h start output events s j' o)

  -- ---- room was made in the file

  module _ (c : Clients) {s s' : S} {j j' : Journal D O} {o : O} (round : Round) (same : s' ≡ s) (room : KeepsRecords seen may_leave is_clean j j' o) where
    pub waits_roomy : StaysSettled seen may_leave is_clean j j' → StepKeeps begins answers clocked listed contents (KeepsToTick begins answers clocked listed stands may_leave) (KeepsToTick begins answers clocked listed stands may_leave) (IsWaiting begins answers clocked listed stands seen may_leave is_clean contents IsNoTick (Carries round)) (IsWaiting begins answers clocked listed stands seen may_leave is_clean contents IsNoTick (Carries round)) [] [] c c s s' j j' o o
    waits_roomy stays =
        recorded IsNoTick (Carries round) turn_no_tick (alone_none begins answers clocked listed c c s s' (no_moments c) same) room stays {waits' = Carries round} [] (λ new carries. subst (Carries round) (sym (append-nil new)) carries)
        (λ records stand. subst (λ (rs : List (List ℕ)). stands rs s') (sym (append-nil records)) (subst (stands records) (sym same) stand))

    pub waits_roomless : StepBreaks begins answers clocked listed contents (KeepsToTick begins answers clocked listed stands may_leave) (KeepsToTick begins answers clocked listed stands may_leave) (IsWaiting begins answers clocked listed stands seen may_leave is_clean contents IsNoTick (Carries round)) [] c c s s' j j' o o
    waits_roomless = unrecorded IsNoTick (Carries round) turn_no_tick (alone_none begins answers clocked listed c c s s' (no_moments c) same) room

  -- ---- a turn was given

  module _ {c c1 : Clients} {s s1 s2 : S} {j j1 : Journal D O} {o : O} (round round1 : Round) (way : StepWrites begins answers clocked listed contents (KeepsToTick begins answers clocked listed stands may_leave) (KeepsToTick begins answers clocked listed stands may_leave) (IsWaiting begins answers clocked listed stands seen may_leave is_clean contents IsNoTick (Carries round)) (IsWaiting begins answers clocked listed stands seen may_leave is_clean contents IsNoTick (Carries round1)) c c s s1 j j1 o o) where
    pub turn_given : (numbers : List ℕ) (round2 : Round) → NotesMore begins answers clocked listed stands numbers c c1 s1 s2 round1 round2 → StepWrites begins answers clocked listed contents (KeepsToTick begins answers clocked listed stands may_leave) (KeepsToTick begins answers clocked listed stands may_leave) (IsWaiting begins answers clocked listed stands seen may_leave is_clean contents IsNoTick (Carries round)) (IsWaiting begins answers clocked listed stands seen may_leave is_clean contents IsNoTick (Carries round2)) c c1 s s2 j j1 o o
    turn_given numbers round2 x = (
      way.0 ++ x.0,
      steps_then way.1 (recorded IsNoTick (Carries round1) turn_no_tick x.1 (keeps_none j1 o) (λ records settled. settled) {waits' = Carries round2} x.3.0 x.3.1 x.3.2),
    )

    -- and there was no memory for its record
    pub turn_unrecorded : BreaksTurns begins answers clocked listed c c1 s1 s2 → StepFails begins answers clocked listed contents (KeepsToTick begins answers clocked listed stands may_leave) (KeepsToTick begins answers clocked listed stands may_leave) (IsWaiting begins answers clocked listed stands seen may_leave is_clean contents IsNoTick (Carries round)) c c1 s s2 j j1 o o
    turn_unrecorded x = (way.0 ++ x.0, breaks_then way.1 (unrecorded IsNoTick (Carries round1) turn_no_tick x.1 (keeps_none j1 o)))

  -- and handed out
  module _ {c c1 c2 : Clients} {s s1 : S} {j j1 : Journal D O} {o o1 : O} (round round1 : Round) (given : StepWrites begins answers clocked listed contents (KeepsToTick begins answers clocked listed stands may_leave) (KeepsToTick begins answers clocked listed stands may_leave) (IsWaiting begins answers clocked listed stands seen may_leave is_clean contents IsNoTick (Carries round)) (IsWaiting begins answers clocked listed stands seen may_leave is_clean contents IsNoTick (Carries round1)) c c1 s s1 j j1 o o) where
    pub turn_told : {j2 : Journal D O} → TellsAll c1 c2 (contents o) (contents o1) → past_of (clocked_of j2) ≡ past_of (clocked_of j1) ++ (disk_behind j2, o1) ∷ [] → header_in j2 ≡ header_in j1 → StaysSettled seen may_leave is_clean j1 j2
        → StepWrites begins answers clocked listed contents (KeepsToTick begins answers clocked listed stands may_leave) (KeepsToTick begins answers clocked listed stands may_leave) (IsWaiting begins answers clocked listed stands seen may_leave is_clean contents IsNoTick (Carries round)) (IsWaiting begins answers clocked listed stands seen may_leave is_clean contents IsNoTick (Carries round1)) c c2 s s1 j j2 o o1
    turn_told x past same settles = (given.0 ++ x.0, steps_then given.1 (told_noted (waiting_stays (Carries round1)) x past same settles))

    pub turn_untold : BreaksTold c1 c2 (contents o) (contents o1) → StepFails begins answers clocked listed contents (KeepsToTick begins answers clocked listed stands may_leave) (KeepsToTick begins answers clocked listed stands may_leave) (IsWaiting begins answers clocked listed stands seen may_leave is_clean contents IsNoTick (Carries round)) c c2 s s1 j j1 o o1
    turn_untold x = (given.0 ++ x.0, breaks_then given.1 (told_broken (waiting_stays (Carries round1)) x))

-- ---- a frame was taken

no_tick : (h : Option Head) (more : List Event) → ¬ (TellsMoment h) → TellsMoment h ⊎ All IsNoTick more → All IsNoTick more
no_tick h more other (inl tells) = absurd (other tells)
no_tick h more other (inr all) = all

module _ {S D O : Type 0} (begins : S → ℕ → S → Type 0) (answers : S → Request (List ℕ) → Response → S → Type 0) (clocked : S → ℕ → S → Type 0) (listed : S → List ℕ → S → Type 0) (stands : List (List ℕ) → S → Type 0)
    (seen : D → List ℕ) (may_leave : D → List ℕ → Type 0) (is_clean : D → Bool) (contents : O → Option (List ℕ))
    (clocks : (records : List (List ℕ)) (old : S) (moment : ℕ) (new : S) → stands records old → clocked old moment new → stands records new)
    (lists : (records : List (List ℕ)) (old : S) (file : List ℕ) (new : S) → stands records old → listed old file new → stands records new) (c c' : Clients) (s s' : S) (j j' : Journal D O) (o o' : O) (h : Option Head) (bytes : List ℕ) where
  -- it is no tick
  pub other_taken : (right : Bool) (round : Round) → ¬ (TellsMoment h) → TakesFrame begins answers clocked listed right h bytes c c' s s' (contents o) (contents o')
      → past_of (clocked_of j') ≡ past_of (clocked_of j) ++ (disk_behind j', o') ∷ [] → header_in j' ≡ header_in j → StaysSettled seen may_leave is_clean j j'
      → TakesLate begins answers clocked listed stands seen may_leave is_clean contents round round right h bytes c c' s s' j j' o o'
  other_taken true round other taken past same settles = λ text frame.
      let x = taken text frame in
      frame_noted (waiting_stays (Carries round)) clocks lists h bytes text taken frame (no_tick h x.0 other x.6) past same settles
  other_taken false round other taken past same settles = (wrong_noted (waiting_stays (Carries round)) h bytes taken past same settles, subst (λ (k : Clients). IsWrongFor k h) (sym taken.0) taken.3)

  -- it is a tick, before which what waited was appended
  pub tick_taken : (j1 : Journal D O) (right : Bool) (round round' : Round) → KeepsEither seen may_leave is_clean (Carries round) j j1 o → SettlesWith seen may_leave is_clean (Carries round) j j1 → Carries round' []
      → TakesFrame begins answers clocked listed right h bytes c c' s s' (contents o) (contents o') → past_of (clocked_of j') ≡ past_of (clocked_of j1) ++ (disk_behind j', o') ∷ [] → header_in j' ≡ header_in j1
      → StaysSettled seen may_leave is_clean j1 j' → TakesLate begins answers clocked listed stands seen may_leave is_clean contents round round' right h bytes c c' s s' j j' o o'
  tick_taken j1 true round round' either settled fresh taken past same settles = λ text frame.
      let x = frame_noted tick_stays clocks lists h bytes text taken frame tt past same settles in
      (x.0, steps_as (steps_then (appended IsNoTick (Carries round) c s either settled) x.1) (λ hd start output events. standing_waits IsNoTick (Carries round') fresh hd start output events s' j' o'))
  tick_taken j1 false round round' either settled fresh taken past same settles =
      let x = wrong_noted tick_stays h bytes taken past same settles in (
        (x.0, steps_as (steps_then (appended IsNoTick (Carries round) c s either settled) x.1) (λ hd start output events. standing_waits IsNoTick (Carries round') fresh hd start output events s' j' o')),
        subst (λ (k : Clients). IsWrongFor k h) (sym taken.0) taken.3,
      )
