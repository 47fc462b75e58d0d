-- What happens while nothing is appended, but for a moment that is noted.
use Rattle.std.proofs.Common.{◌≡◌, ℕ, Bool, Option, List, [], ◌∷◌, ◌++◌, codes, refl, sym, subst, append-nil, inr}
use Rattle.std.proofs.KnownBytes.{Appends-nil}
use Rattle.std.specs.Io.KnownBytes.{Appends}
use Rattle.http.specs.declared.request.Request.{Request}
use Rattle.http_server.specs.declared.response.Response.{Response}
use Rattle.http_frames.specs.declared.clients.Clients.{Clients}
use Rattle.http_frames.specs.Clients.{Adds, SameSettings, queue_of}
use Rattle.http_frames.specs.ConnectionEvents.{Asked, Event}
use Rattle.http_frames.specs.Frames.{BreaksOff}
use Rattle.http_frames.specs.TurnRuns.{AreSaid, BreaksTold, EventsLead, Moments, TellsAll, WritesUpTo, told_text}
use Rattle.http_frames.proofs.Happenings.{one_said, told_leads, told_said, up_to_then}
use Rattle.http_frames.proofs.Moments.{none as no_moments, one, same_line}
use Rattle.journal_core.specs.declared.header.Header.{Header}
use Rattle.journal_core.specs.declared.journal.Journal.{Journal}
use Rattle.journal_core.specs.Clocked.{past_of}
use Rattle.journal_core.specs.Resting.{clocked_of, disk_behind, header_in}
use Rattle.journal_core.proofs.MomentLaws.{none, one_moment}
use Rattle.kept_frames.specs.Giving.{StaysSettled}
use Rattle.kept_frames.specs.KeptMoments.{IsKeptMoment}
use Rattle.kept_frames.specs.KeptSteps.{StepStanding, StepBreaks, StepWrites, StepKeeps}
use Rattle.kept_frames.proofs.Standings.{Stays, by_now}

module _ {S D O : Type 0} {begins : S → ℕ → S → Type 0} {answers : S → Request (List ℕ) → Response → S → Type 0} {clocked : S → ℕ → S → Type 0} {listed : S → List ℕ → S → Type 0} {stands : List (List ℕ) → S → Type 0} {seen : D → List ℕ} {may_leave : D → List ℕ → Type 0} {is_clean : D → Bool}
    {contents : O → Option (List ℕ)} {keeps keeps_end : Header → S → List Event → D → Type 0} {May : List Event → Type 0} {At : StepStanding S D O}
    (stays : Stays begins answers clocked listed stands seen may_leave is_clean contents keeps keeps_end May At) where
  module _ {c c' : Clients} {s s' : S} {j : Journal D O} {o o' : O} (more : List Event) (may : May more) (moments : Moments more c c') (leads : EventsLead begins answers clocked listed s more s')
      (stand : (records : List (List ℕ)) → stands records s → stands records s') where
    -- the moment is not noted
    pub unnoted : {text : List ℕ} → AreSaid more text → Appends (contents o) (contents o') (told_text more) → StepKeeps begins answers clocked listed contents keeps keeps_end At At more text c c' s s' j j o o'
    unnoted said wrote = record {
      moments = moments;
      leads = leads;
      said = said;
      wrote = wrote;
      each = λ h start output events st. none (IsKeptMoment contents keeps h start output (events ++ more)) (clocked_of j);
      stand = stays.on more s s' j j o o' may leads stand refl (λ records settled. settled) wrote;
    }

    -- the moment is noted
    pub noted : {j' : Journal D O} {text : List ℕ} → AreSaid more text → Appends (contents o) (contents o') (told_text more)
        → past_of (clocked_of j') ≡ past_of (clocked_of j) ++ (disk_behind j', o') ∷ [] → header_in j' ≡ header_in j → StaysSettled seen may_leave is_clean j j' → StepKeeps begins answers clocked listed contents keeps keeps_end At At more text c c' s s' j j' o o'
    noted {j'} said wrote past same settles = record {
      moments = moments;
      leads = leads;
      said = said;
      wrote = wrote;
      each = λ h start output events st.
          let to = stays.on more s s' j j' o o' may leads stand same settles wrote h start output events st in
          one_moment (IsKeptMoment contents keeps h start output (events ++ more)) o' (clocked_of j) (clocked_of j') past
          (by_now h start output (events ++ more) (disk_behind j') o' (stays.wrote h start output (events ++ more) s' j' o' to) (stays.now h start output (events ++ more) s' j' o' to));
      stand = stays.on more s s' j j' o o' may leads stand same settles wrote;
    }

    -- it failed there
    pub broken : WritesUpTo more (contents o) (contents o') → StepBreaks begins answers clocked listed contents keeps keeps_end At more c c' s s' j j o o'
    broken wrote = record {
      moments = moments;
      leads = leads;
      wrote = wrote;
      each = λ h start output events st. none (IsKeptMoment contents keeps h start output (events ++ more)) (clocked_of j);
      last = λ h start output events st. inr (record {
        wrote = up_to_then events more output (contents o) (contents o') (stays.wrote h start output events s j o st) wrote;
        kept = stays.broken more s s' j o may leads stand h start output events st;
      });
    }

  -- ---- what was told

  module _ {c c' : Clients} {s : S} {j : Journal D O} {o o' : O} where
    pub told_noted : {j' : Journal D O} → (x : TellsAll c c' (contents o) (contents o')) → past_of (clocked_of j') ≡ past_of (clocked_of j) ++ (disk_behind j', o') ∷ [] → header_in j' ≡ header_in j
        → StaysSettled seen may_leave is_clean j j' → StepKeeps begins answers clocked listed contents keeps keeps_end At At x.0 [] c c' s s j j' o o'
    told_noted x past same settles = noted x.0 (stays.told x.0 x.2) x.1 (told_leads begins answers clocked listed x.0 s x.2) (λ records stand. stand) (told_said x.0 x.2) x.3 past same settles

    pub told_broken : (x : BreaksTold c c' (contents o) (contents o')) → StepBreaks begins answers clocked listed contents keeps keeps_end At x.0 c c' s s j j o o'
    told_broken x = broken x.0 (stays.told x.0 x.2) x.1 (told_leads begins answers clocked listed x.0 s x.2) (λ records stand. stand) x.3

  -- ---- `more` was asked

  module _ {c c' : Clients} {s : S} {j : Journal D O} {o o' : O} where
    pub asked_noted : {j' : Journal D O} → Adds c c' Asked × Appends (contents o) (contents o') (codes "more\n") → queue_of c' ≡ queue_of c → SameSettings c c'
        → past_of (clocked_of j') ≡ past_of (clocked_of j) ++ (disk_behind j', o') ∷ [] → header_in j' ≡ header_in j → StaysSettled seen may_leave is_clean j j' → StepWrites begins answers clocked listed contents keeps keeps_end At At c c' s s j j' o o'
    asked_noted asks queue settings past same settles = (
      Asked ∷ [],
      noted (Asked ∷ []) stays.asked (one c c' Asked asks.0 (same_line c c' queue) settings.config settings.window) (s, refl, refl) (λ records stand. stand) (one_said Asked [] refl)
          (subst (Appends (contents o) (contents o')) (sym (append-nil (codes "more\n"))) asks.1) past same settles,
    )

    pub ask_broken : (c' ≡ c) × BreaksOff (contents o) (contents o') → StepBreaks begins answers clocked listed contents keeps keeps_end At [] c c' s s j j o o'
    ask_broken x = broken [] stays.none (subst (λ (k : Clients). Moments [] c k) (sym x.0) (no_moments c)) refl (λ records stand. stand) (contents o, Appends-nil (contents o), x.1)
