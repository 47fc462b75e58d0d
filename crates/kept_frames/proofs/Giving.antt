-- Turns whose answers wait, and the round that keeps what they changed.
use Rattle.std.proofs.Common.{◌≡◌, ◌≢◌, ◌⊎◌, ℕ, Bool, true, false, not, Option, List, [], ◌∷◌, ◌++◌, All, refl, sym, ap, ◌∙◌, subst, append_assoc, append-nil, arith, inl, inr}
use Rattle.std.proofs.KnownBytes.{Appends-nil}
use Rattle.std.proofs.Math.Bool.{beq}
use Rattle.std.proofs.lemmas.List.Elements.{All-append, All-cons, All-head, All-nil, All-tail}
use Rattle.std.proofs.lemmas.Grind.{flat_map-append}
use Rattle.std.specs.Io.KnownBytes.{Appends}
use Rattle.http.specs.declared.request.Request.{Request}
use Rattle.http_server.specs.declared.response.Response.{Response}
use Rattle.http_server.specs.Exchange.{Call}
use Rattle.http_frames.specs.declared.clients.Clients.{Clients}
use Rattle.http_frames.specs.Clients.{GivesTurn, config_of, queue_of, window_of}
use Rattle.http_frames.specs.ConnectionEvents.{Event, Answered, IsNoTick}
use Rattle.http_frames.specs.Gate.{BeginsWithin, IsTold, TakesTurn}
use Rattle.http_frames.specs.TurnRuns.{Moments, told_text, turn_in, turns_of}
use Rattle.http_frames.proofs.Fronts.{whole}
use Rattle.http_frames.proofs.Happenings.{leads-append, one_leads, texts_then}
use Rattle.http_frames.proofs.Moments.{joined, none as no_moments, one}
use Rattle.journal_core.specs.declared.header.Header.{Header}
use Rattle.journal_core.specs.declared.journal.Journal.{Journal}
use Rattle.journal_core.specs.declared.round.Round.{Round}
use Rattle.journal_core.specs.Clocked.{CrashLeaves}
use Rattle.journal_core.specs.Format.{StandsFor}
use Rattle.journal_core.specs.Resting.{Carries, clocked_of, disk_behind, header_in}
use Rattle.journal_core.proofs.MomentLaws.{weaker}
use Rattle.kept_frames.specs.Giving.{AddsWithin, KeepsEither, KeepsRecords, NotesMore, NotesTurns, SettlesWith, StaysSettled, TurnsAlone}
use Rattle.kept_frames.specs.KeptMoments.{IsKeptMoment, IsStanding, IsTurn, IsWaiting, KeepsBut}
use Rattle.kept_frames.specs.KeptSteps.{EachKeeps, StepBreaks, StepWrites, StepKeeps}
use Rattle.kept_frames.specs.TurnRecords.{RecordsTurn}
use Rattle.kept_frames.proofs.Standings.{by_now, keeps_first, standing_on}
use Rattle.kept_frames.proofs.Steps.{steps_then, steps_to}
use Rattle.kept_frames.proofs.Turns.{turns_none, turns_said, turns_told}

not_self : (b : Bool) → b ≡ not b → ⊥
not_self true same = cc
not_self false same = cc

-- whether two answers differ, by the code's test
pub other_true : {a b : Bool} (r q : Bool) → r ≡ a → q ≡ b → not (beq r q) ≡ true → a ≢ b
other_true r q is was test same = other r q (is ∙ same ∙ sym was) test
  where
    other : (r q : Bool) → r ≡ q → not (beq r q) ≡ true → ⊥
    other true true same test = cc
    other true false same test = cc
    other false true same test = cc
    other false false same test = cc

pub other_false : {a b : Bool} (r q : Bool) → r ≡ a → q ≡ b → not (beq r q) ≡ false → a ≡ b
other_false r q is was test = sym is ∙ same r q test ∙ was
  where
    same : (r q : Bool) → not (beq r q) ≡ false → r ≡ q
    same true true test = refl
    same true false test = cc
    same false true test = cc
    same false false test = refl

-- ---- turn after turn

module _ {S : Type 0} (begins : S → ℕ → S → Type 0) (answers : S → Request (List ℕ) → Response → S → Type 0) (clocked : S → ℕ → S → Type 0) (listed : S → List ℕ → S → Type 0) where
  pub alone_none : (c c' : Clients) (s s' : S) → Moments [] c c' → s' ≡ s → TurnsAlone begins answers clocked listed [] c c' s s'
  alone_none c c' s s' moments same = record { alone = All-nil IsTurn; moments = moments; leads = same }

  pub alone_then : {xs ys : List Event} {c c1 c2 : Clients} {s s1 s2 : S} → TurnsAlone begins answers clocked listed xs c c1 s s1 → TurnsAlone begins answers clocked listed ys c1 c2 s1 s2
      → TurnsAlone begins answers clocked listed (xs ++ ys) c c2 s s2
  alone_then {xs} {ys} {c} {c1} {c2} {s} {s1} {s2} x y = record {
    alone = All-append IsTurn xs ys x.alone y.alone;
    moments = joined c c1 c2 xs ys x.moments y.moments;
    leads = leads-append begins answers clocked listed xs ys s s1 s2 x.leads y.leads;
  }

  pub alone_one : (n : ℕ) (c c' : Clients) (s s' : S) (t : GivesTurn begins answers n c c' s s') → queue_of c ≡ n ∷ queue_of c' → config_of c' ≡ config_of c → window_of c' ≡ window_of c
      → TurnsAlone begins answers clocked listed (Answered n t.calls ∷ []) c c' s s'
  alone_one n c c' s s' t first config window = record {
    alone = All-cons IsTurn (Answered n t.calls) [] tt (All-nil IsTurn);
    moments = one c c' (Answered n t.calls) t.adds ([], sym first ∙ sym (append-nil (queue_of c))) config window;
    leads = one_leads begins answers clocked listed (Answered n t.calls) s s' t.turn;
  }

  module _ (stands : List (List ℕ) → S → Type 0) where
    -- nobody waited
    pub notes_none : (c c' : Clients) (s s' : S) (round : Round) → Moments [] c c' → s' ≡ s → NotesMore begins answers clocked listed stands [] c c' s s' round round
    notes_none c c' s s' round moments same = (
      [],
      alone_none c c' s s' moments same,
      refl,
      ([], λ records carries. subst (Carries round) (sym (append-nil records)) carries, λ records stand. subst (λ (rs : List (List ℕ)). stands rs s') (sym (append-nil records)) (subst (stands records) (sym same) stand)),
    )

    pub notes_new : (ns : List ℕ) (c : Clients) (s : S) (round : Round) → ns ≡ [] → Carries round [] → NotesTurns begins answers clocked listed stands ns c c s s round
    notes_new ns c s round none carries =
        ([], alone_none c c s s (no_moments c) refl, sym none, ([], carries, λ records stand. subst (λ (rs : List (List ℕ)). stands rs s) (sym (append-nil records)) stand))

    -- nothing was done to the service then
    pub notes_same : (ns : List ℕ) (c c1 : Clients) (s s1 s2 : S) (round : Round) → s2 ≡ s1 → NotesTurns begins answers clocked listed stands ns c c1 s s1 round
        → NotesTurns begins answers clocked listed stands ns c c1 s s2 round
    notes_same ns c c1 s s1 s2 round same x = subst (λ (t : S). NotesTurns begins answers clocked listed stands ns c c1 s t round) (sym same) x

    pub notes_then : (ns ms all : List ℕ) (c c1 c2 : Clients) (s s1 s2 : S) (round round' : Round) → all ≡ ns ++ ms → NotesTurns begins answers clocked listed stands ns c c1 s s1 round
        → NotesMore begins answers clocked listed stands ms c1 c2 s1 s2 round round' → NotesTurns begins answers clocked listed stands all c c2 s s2 round'
    notes_then ns ms all c c1 c2 s s1 s2 round round' is x y = (
      x.0 ++ y.0,
      alone_then x.1 y.1,
      flat_map-append turn_in x.0 y.0 ∙ ap (λ (t : List ℕ). t ++ turns_of y.0) x.2 ∙ ap (λ (t : List ℕ). ns ++ t) y.2 ∙ sym is,
      (
        x.3.0 ++ y.3.0,
        y.3.1 x.3.0 x.3.1,
        λ records stand. subst (λ (rs : List (List ℕ)). stands rs s2) (append_assoc records x.3.0 y.3.0) (y.3.2 (records ++ x.3.0) (x.3.2 records stand)),
      ),
    )

    module _ (turn : S → Bool) (turns : (old : S) (number : ℕ) (calls : List Call) (new : S) → IsTold begins answers old number calls new → turn new ≡ not (turn old))
        (n : ℕ) (c c' : Clients) (s s' : S) (t : GivesTurn begins answers n c c' s s') (first : queue_of c ≡ n ∷ queue_of c') (config : config_of c' ≡ config_of c) (window : window_of c' ≡ window_of c) where
      -- nothing was asked of the service
      unasked : turn s' ≡ turn s → (x : TakesTurn begins answers s n t.calls s') → (records : List (List ℕ)) → stands records s → stands records s'
      unasked same (inl x) records stand = subst (stands records) (sym x.1) stand
      unasked same (inr x) records stand = absurd (not_self (turn s) (sym same ∙ turns s n t.calls s' x))

      asked : turn s' ≢ turn s → (x : TakesTurn begins answers s n t.calls s') → IsTold begins answers s n t.calls s'
      asked other (inl x) = absurd (other (ap turn x.1))
      asked other (inr x) = x

      pub notes_unasked : (round : Round) → turn s' ≡ turn s → NotesMore begins answers clocked listed stands (n ∷ []) c c' s s' round round
      notes_unasked round same = (
        Answered n t.calls ∷ [],
        alone_one n c c' s s' t first config window,
        refl,
        (
          [],
          λ records carries. subst (Carries round) (sym (append-nil records)) carries,
          λ records stand. subst (λ (rs : List (List ℕ)). stands rs s') (sym (append-nil records)) (unasked same t.turn records stand),
        ),
      )

      pub notes_asked : (room : S → ℕ) (round round' : Round) → turn s' ≢ turn s → RecordsTurn begins answers stands room round round' s' → NotesMore begins answers clocked listed stands (n ∷ []) c c' s s' round round'
      notes_asked room round round' other x = (
        Answered n t.calls ∷ [],
        alone_one n c c' s s' t first config window,
        refl,
        (x.more, x.adds, λ records stand. x.stand s n t.calls records stand (asked other t.turn)),
      )

-- a turn changed nothing
pub adds_none : (most : ℕ) (round : Round) → AddsWithin most round round
adds_none most round = λ records carries. ([], subst (Carries round) (sym (append-nil records)) carries, omega arith)

-- what a turn changed fits into the room that the service was told of
pub adds_told : {S : Type 0} (begins : S → ℕ → S → Type 0) (answers : S → Request (List ℕ) → Response → S → Type 0) (stands : List (List ℕ) → S → Type 0) (room : S → ℕ) (turn : S → Bool) (most n : ℕ) (c c' : Clients) (s s' : S)
    → GivesTurn (BeginsWithin begins room most) answers n c c' s s' → (round round' : Round) → turn s' ≢ turn s → RecordsTurn begins answers stands room round round' s' → AddsWithin most round round'
adds_told {S} begins answers stands room turn most n c c' s s' t round round' other x = by t.turn
  where
    by : TakesTurn (BeginsWithin begins room most) answers s n t.calls s' → AddsWithin most round round'
    by (inl none) = absurd (other (ap turn none.1))
    by (inr told) = λ records carries. (x.more, x.adds records carries, omega (arith, x.fits s told.0 n t.calls told.1.0 told.2, told.1.1))

-- ---- turns whose records wait, and the round that is appended

-- turns write nothing
silently : {O : Type 0} (contents : O → Option (List ℕ)) (turns : List Event) (o : O) → All IsTurn turns → Appends (contents o) (contents o) (told_text turns)
silently contents turns o all = subst (Appends (contents o) (contents o)) (sym (turns_told turns all)) (Appends-nil (contents o))

all_such : (Such : Event → Type 0) → ((e : Event) → IsTurn e → Such e) → (turns : List Event) → All IsTurn turns → All Such turns
all_such Such are [] all = All-nil Such
all_such Such are (e ∷ turns) all = All-cons Such e turns (are e (All-head IsTurn e turns all)) (all_such Such are turns (All-tail IsTurn e turns all))

-- a turn is no tick
pub turn_no_tick : (e : Event) → IsTurn e → IsNoTick e
turn_no_tick (Answered number calls) turn = tt
turn_no_tick _ turn = absurd turn

module _ {S D O : Type 0} {begins : S → ℕ → S → Type 0} {answers : S → Request (List ℕ) → Response → S → Type 0} {clocked : S → ℕ → S → Type 0} {listed : S → List ℕ → S → Type 0} {stands : List (List ℕ) → S → Type 0}
    {seen : D → List ℕ} {may_leave : D → List ℕ → Type 0} {is_clean : D → Bool} {contents : O → Option (List ℕ)} (Such : Event → Type 0) (waits : List (List ℕ) → Type 0) where
  -- all is in the file, and nothing waits
  pub standing_waits : waits [] → (h : Header) (start : S) (output : Option (List ℕ)) (events : List Event) (s : S) (j : Journal D O) (o : O) → IsStanding begins answers clocked listed stands seen may_leave is_clean contents h start output events s j o
      → IsWaiting begins answers clocked listed stands seen may_leave is_clean contents Such waits h start output events s j o
  standing_waits nothing h start output events s j o st = record {
    header = st.header;
    leads = st.leads;
    wrote = st.wrote;
    first = events;
    later = [];
    split = sym (append-nil events);
    such = All-nil Such;
    before = s;
    led = st.leads;
    records = st.records;
    settled = st.settled;
    stand = st.stand;
    new = [];
    waiting = nothing;
    stand_all = subst (λ (rs : List (List ℕ)). stands rs s) (sym (append-nil st.records)) st.stand;
  }

  pub begin_waiting : {keeps_end : Header → S → List Event → D → Type 0} → waits [] → (c : Clients) (s : S) (j : Journal D O) (o : O)
      → StepKeeps begins answers clocked listed contents (KeepsBut begins answers clocked listed stands may_leave Such) keeps_end (IsStanding begins answers clocked listed stands seen may_leave is_clean contents)
      (IsWaiting begins answers clocked listed stands seen may_leave is_clean contents Such waits) [] [] c c s s j j o o
  begin_waiting nothing c s j o = steps_to c s j o (λ h start output events. standing_waits nothing h start output events s j o)

  -- ---- turns were given, and no more than room was made for what they changed

  module _ (are : (e : Event) → IsTurn e → Such e) {turns : List Event} {c c' : Clients} {s s' : S} {j j' : Journal D O} {o : O} (x : TurnsAlone begins answers clocked listed turns c c' s s') (room : KeepsRecords seen may_leave is_clean j j' o) where
    roomy : (h : Header) (start : S) (output : Option (List ℕ)) (events : List Event) → (st : IsWaiting begins answers clocked listed stands seen may_leave is_clean contents Such waits h start output events s j o) (disk : D)
        → ((file : List ℕ) → may_leave disk file → StandsFor (header_in j) file st.records) → IsKeptMoment contents (KeepsBut begins answers clocked listed stands may_leave Such) h start output (events ++ turns) (disk, o)
    roomy h start output events st disk leaves =
        by_now h start output (events ++ turns) disk o (texts_then events turns output (contents o) (contents o) st.wrote (silently contents turns o x.alone)) (keeps_first st turns disk (all_such Such are turns x.alone) leaves)

    each_roomy : EachKeeps contents (KeepsBut begins answers clocked listed stands may_leave Such) (IsWaiting begins answers clocked listed stands seen may_leave is_clean contents Such waits) turns s j j' o
    each_roomy = λ h start output events st.
        weaker (CrashLeaves may_leave o (λ file. StandsFor (header_in j) file st.records)) (IsKeptMoment contents (KeepsBut begins answers clocked listed stands may_leave Such) h start output (events ++ turns))
        (λ m it. subst (λ (note : O). IsKeptMoment contents (KeepsBut begins answers clocked listed stands may_leave Such) h start output (events ++ turns) (m.0, note)) (sym it.0) (roomy h start output events st m.0 it.1))
        (clocked_of j) (clocked_of j') (room.each st.records st.settled)

    -- it failed there
    pub unrecorded : {keeps_end : Header → S → List Event → D → Type 0} → StepBreaks begins answers clocked listed contents (KeepsBut begins answers clocked listed stands may_leave Such) keeps_end (IsWaiting begins answers clocked listed stands seen may_leave is_clean contents Such waits) turns c c' s s' j j' o o
    unrecorded = record {
      moments = x.moments;
      leads = x.leads;
      wrote = (contents o, silently contents turns o x.alone, whole (contents o));
      each = each_roomy;
      last = λ h start output events st. inl (roomy h start output events st (disk_behind j') (room.crash st.records st.settled));
    }

    -- and what they changed waits
    pub recorded : {keeps_end : Header → S → List Event → D → Type 0} → StaysSettled seen may_leave is_clean j j' → {waits' : List (List ℕ) → Type 0} (more : List (List ℕ)) → ((new : List (List ℕ)) → waits new → waits' (new ++ more))
        → ((records : List (List ℕ)) → stands records s → stands (records ++ more) s')
        → StepKeeps begins answers clocked listed contents (KeepsBut begins answers clocked listed stands may_leave Such) keeps_end (IsWaiting begins answers clocked listed stands seen may_leave is_clean contents Such waits)
        (IsWaiting begins answers clocked listed stands seen may_leave is_clean contents Such waits') turns [] c c' s s' j j' o o
    recorded stays more adds stand = record {
      moments = x.moments;
      leads = x.leads;
      said = turns_said turns x.alone;
      wrote = silently contents turns o x.alone;
      each = each_roomy;
      stand = λ h start output events st. record {
        header = room.header ∙ st.header;
        leads = leads-append begins answers clocked listed events turns start s s' st.leads x.leads;
        wrote = texts_then events turns output (contents o) (contents o) st.wrote (silently contents turns o x.alone);
        first = st.first;
        later = st.later ++ turns;
        split = ap (λ (es : List Event). es ++ turns) st.split ∙ append_assoc st.first st.later turns;
        such = All-append Such st.later turns st.such (all_such Such are turns x.alone);
        before = st.before;
        led = st.led;
        records = st.records;
        settled = stays st.records st.settled;
        stand = st.stand;
        new = st.new ++ more;
        waiting = adds st.new st.waiting;
        stand_all = subst (λ (rs : List (List ℕ)). stands rs s') (append_assoc st.records st.new more) (stand (st.records ++ st.new) st.stand_all);
      };
    }

  -- nobody had a turn
  pub ungiven : {keeps_end : Header → S → List Event → D → Type 0} → ((e : Event) → IsTurn e → Such e) → waits [] → {c c' : Clients} {s s' : S} {j j' : Journal D O} {o : O} (numbers : List ℕ) (round : Round) → NotesTurns begins answers clocked listed stands numbers c c' s s' round → numbers ≡ []
      → KeepsRecords seen may_leave is_clean j j' o → StaysSettled seen may_leave is_clean j j'
      → StepWrites begins answers clocked listed contents (KeepsBut begins answers clocked listed stands may_leave Such) keeps_end (IsStanding begins answers clocked listed stands seen may_leave is_clean contents)
      (IsStanding begins answers clocked listed stands seen may_leave is_clean contents) c c' s s' j j' o o
  ungiven are nothing {c} {c'} {s} {s'} {j} {j'} {o} numbers round x none room stays =
      let no_turns = turns_none x.0 x.1.alone (x.2 ∙ none) in
      let alone : TurnsAlone begins answers clocked listed [] c c' s s' = subst (λ (es : List Event). TurnsAlone begins answers clocked listed es c c' s s') no_turns x.1 in (
        [],
        record {
          moments = alone.moments;
          leads = alone.leads;
          said = refl;
          wrote = Appends-nil (contents o);
          each = λ h start output events st. each_roomy are alone room h start output events (standing_waits nothing h start output events s j o st);
          stand = standing_on [] s s' j j' o o alone.leads (λ records stand. subst (stands records) (sym alone.leads) stand) room.header stays (Appends-nil (contents o));
        },
      )

  -- ---- what waits is appended

  module _ (c : Clients) (s : S) {j j' : Journal D O} {o : O} (x : KeepsEither seen may_leave is_clean waits j j' o) where
    -- a crash leaves the service as it was after the first of the events, or as it is
    either : (h : Header) (start : S) (output : Option (List ℕ)) (events : List Event) → (st : IsWaiting begins answers clocked listed stands seen may_leave is_clean contents Such waits h start output events s j o) (disk : D)
        → ((file : List ℕ) → may_leave disk file → StandsFor (header_in j) file st.records ⊎ StandsFor (header_in j) file (st.records ++ st.new))
        → IsKeptMoment contents (KeepsBut begins answers clocked listed stands may_leave Such) h start output events (disk, o)
    either h start output events st disk leaves = by_now h start output events disk o st.wrote (λ file left. elim (leaves file left) [
      | inl before ↦ (st.first, st.later, st.split, st.such, (st.before, st.led, (st.records, subst (λ (k : Header). StandsFor k file st.records) st.header before, st.stand)))
      | inr behind ↦ (
        events,
        [],
        sym (append-nil events),
        All-nil Such,
        (s, st.leads, (st.records ++ st.new, subst (λ (k : Header). StandsFor k file (st.records ++ st.new)) st.header behind, st.stand_all)),
      )
    ])

    longest : (h : Header) (start : S) (output : Option (List ℕ)) (events : List Event) (m : D × O) → IsKeptMoment contents (KeepsBut begins answers clocked listed stands may_leave Such) h start output events m
        → IsKeptMoment contents (KeepsBut begins answers clocked listed stands may_leave Such) h start output (events ++ []) m
    longest h start output events m it = subst (λ (es : List Event). IsKeptMoment contents (KeepsBut begins answers clocked listed stands may_leave Such) h start output es m) (sym (append-nil events)) it

    each_appended : EachKeeps contents (KeepsBut begins answers clocked listed stands may_leave Such) (IsWaiting begins answers clocked listed stands seen may_leave is_clean contents Such waits) [] s j j' o
    each_appended = λ h start output events st.
        let P : List ℕ → Type 0 = λ file. StandsFor (header_in j) file st.records ⊎ StandsFor (header_in j) file (st.records ++ st.new) in
        weaker (CrashLeaves may_leave o P) (IsKeptMoment contents (KeepsBut begins answers clocked listed stands may_leave Such) h start output (events ++ []))
        (λ m it. longest h start output events m
        (subst (λ (note : O). IsKeptMoment contents (KeepsBut begins answers clocked listed stands may_leave Such) h start output events (m.0, note)) (sym it.0) (either h start output events st m.0 it.1)))
        (clocked_of j) (clocked_of j') (x.each st.records st.new st.settled st.waiting)

    pub appended : {keeps_end : Header → S → List Event → D → Type 0} → SettlesWith seen may_leave is_clean waits j j'
        → StepKeeps begins answers clocked listed contents (KeepsBut begins answers clocked listed stands may_leave Such) keeps_end (IsWaiting begins answers clocked listed stands seen may_leave is_clean contents Such waits)
        (IsStanding begins answers clocked listed stands seen may_leave is_clean contents) [] [] c c s s j j' o o
    appended settles = record {
      moments = no_moments c;
      leads = refl;
      said = refl;
      wrote = Appends-nil (contents o);
      each = each_appended;
      stand = λ h start output events st. subst (λ (es : List Event). IsStanding begins answers clocked listed stands seen may_leave is_clean contents h start output es s j' o) (sym (append-nil events)) (record {
        header = x.header ∙ st.header;
        leads = st.leads;
        wrote = st.wrote;
        records = st.records ++ st.new;
        settled = settles st.records st.new st.settled st.waiting;
        stand = st.stand_all;
      });
    }

    -- it failed: the round is there or not
    pub append_broken : {keeps_end : Header → S → List Event → D → Type 0} → StepBreaks begins answers clocked listed contents (KeepsBut begins answers clocked listed stands may_leave Such) keeps_end (IsWaiting begins answers clocked listed stands seen may_leave is_clean contents Such waits) [] c c s s j j' o o
    append_broken = record {
      moments = no_moments c;
      leads = refl;
      wrote = (contents o, Appends-nil (contents o), whole (contents o));
      each = each_appended;
      last = λ h start output events st. inl (longest h start output events (disk_behind j', o) (either h start output events st (disk_behind j') (x.crash st.records st.new st.settled st.waiting)));
    }

-- ---- the turns of a round

-- nothing waits
abbrev pub NoneWait : List (List ℕ) → Type 0
NoneWait new = new ≡ []

module _ {S D O : Type 0} {begins : S → ℕ → S → Type 0} {answers : S → Request (List ℕ) → Response → S → Type 0} {clocked : S → ℕ → S → Type 0} {listed : S → List ℕ → S → Type 0} {stands : List (List ℕ) → S → Type 0}
    {seen : D → List ℕ} {may_leave : D → List ℕ → Type 0} {is_clean : D → Bool} {contents : O → Option (List ℕ)} {keeps_end : Header → S → List Event → D → Type 0} where
  pub turned : {c c' : Clients} {s s' : S} {j j' : Journal D O} {o : O} (numbers : List ℕ) (round : Round) (x : NotesTurns begins answers clocked listed stands numbers c c' s s' round) → KeepsRecords seen may_leave is_clean j j' o
      → StaysSettled seen may_leave is_clean j j'
      → StepKeeps begins answers clocked listed contents (KeepsBut begins answers clocked listed stands may_leave IsTurn) keeps_end (IsStanding begins answers clocked listed stands seen may_leave is_clean contents)
      (IsWaiting begins answers clocked listed stands seen may_leave is_clean contents IsTurn (Carries round)) x.0 [] c c' s s' j j' o o
  turned {c} {c'} {s} {s'} {j} {j'} {o} numbers round x room stays =
      steps_then (begin_waiting IsTurn NoneWait refl c s j o)
      (recorded IsTurn NoneWait (λ e turn. turn) x.1 room stays {waits' = Carries round} x.3.0 (λ new none. subst (λ (rs : List (List ℕ)). Carries round (rs ++ x.3.0)) (sym none) x.3.1) x.3.2)
