-- Questions that follow one another.
use Rattle.std.proofs.Common.{◌≡◌, true, false, refl, sym, ap, subst, ◌∙◌}
use Rattle.std.proofs.lemmas.Bool.{false≢true}
use Rattle.rand_core.specs.Stream.{Stream}
use Rattle.dav_guarded_core.specs.Requests.{Command}
use Rattle.dav_guarded_core.specs.Step.{State}
use Rattle.dav_session_core.specs.declared.session.Session.{Session}
use Rattle.dav_session_core.specs.Callers.{Asks, Caller, RunBy, changes_locks, is_look, live}
use Rattle.dav_session_core.specs.Sessions.{Acts, IsAsBefore, Looks, Requests, caller, state}
use Rattle.dav_session_core.proofs.Asking.{asks_join, join_as, live_as}
use Rattle.dav_session_core.proofs.CallerLaws.{asks_of, by_none}
use Rattle.dav_session_core.proofs.ConditionLemmas.{Looks as Record}

pub looks_none : {R : Type 0} (stream : R → Stream) (s : Session R) → Looks stream s s
looks_none stream s = record { run = by_none (caller s) (state stream s); live = refl; who = refl; noting = refl }

pub looks_on : {R : Type 0} {stream : R → Stream} {old mid new : Session R} → Looks stream old mid → Looks stream mid new → Looks stream old new
looks_on {R} {stream} {old} {mid} {new} h k = record {
  run = join_as (caller old) (caller mid) (state stream old) (state stream mid) (state stream new) h.who h.run k.run;
  live = live_as (caller old) (caller mid) (state stream old) (state stream mid) (state stream new) h.who h.live k.live;
  who = k.who ∙ h.who;
  noting = k.noting ∙ h.noting;
}

-- what is asked of the caller and of what lasts has the same answer before looks and behind them
pub same_asked : {A : Type 0} {R : Type 0} {stream : R → Stream} {old new : Session R} (f : Caller → State → A) → Looks stream old new
    → f (caller new) (live (caller new).now (state stream new)) ≡ f (caller old) (live (caller old).now (state stream old))
same_asked {A} {R} {stream} {old} {new} f h =
    ap (λ (w : Caller). f w (live w.now (state stream new))) h.who ∙ ap (f (caller old)) h.live

-- a question grants, ends and refreshes no lock
pub look_keeps : (c : Command) → is_look c ≡ true → changes_locks c ≡ false
look_keeps (Command.Lock path owner timeout shared deep) h = absurd (false≢true h)
look_keeps (Command.Unlock path token) h = absurd (false≢true h)
look_keeps (Command.Refresh path token timeout) h = absurd (false≢true h)
look_keeps _ h = refl

-- as a record of callers and states
pub as_looks : {R : Type 0} {stream : R → Stream} {old new : Session R} → Looks stream old new → Record (caller old) (state stream old) (caller new) (state stream new)
as_looks h = record { run = h.run; live = h.live; caller = h.who }

pub acts_none : {R : Type 0} (stream : R → Stream) (s : Session R) → Acts stream s s
acts_none stream s = record { run = by_none (caller s) (state stream s); who = refl; noting = refl }

pub acts_on : {R : Type 0} {stream : R → Stream} {old mid new : Session R} → Acts stream old mid → Acts stream mid new → Acts stream old new
acts_on {R} {stream} {old} {mid} {new} h k = record {
  run = join_as (caller old) (caller mid) (state stream old) (state stream mid) (state stream new) h.who h.run k.run;
  who = k.who ∙ h.who;
  noting = k.noting ∙ h.noting;
}

-- questions are requests
pub requests_of : {R : Type 0} {stream : R → Stream} {old new : Session R} → Looks stream old new → Requests stream old new
requests_of {R} {stream} {old} {new} h = record { run = asks_of (caller old) (state stream old) (state stream new) h.run; who = h.who; noting = h.noting }

-- requests behind questions
pub requests_on : {R : Type 0} {stream : R → Stream} {old mid new : Session R} → Looks stream old mid → Requests stream mid new → Requests stream old new
requests_on {R} {stream} {old} {mid} {new} h k =
    let P : Caller → Type 0 = λ w. Asks w (state stream mid) (state stream new) in
    record {
      run = asks_join (caller old) (state stream old) (state stream mid) (state stream new) (asks_of (caller old) (state stream old) (state stream mid) h.run) (subst P h.who k.run);
      who = k.who ∙ h.who;
      noting = k.noting ∙ h.noting;
    }

-- what is as it was before, but for the room, is as questions leave it
pub looks_before : {R : Type 0} {stream : R → Stream} {old new : Session R} → IsAsBefore stream old new → Looks stream old new
looks_before {R} {stream} {old} {new} h = record {
  run = subst (RunBy (caller old) (state stream old)) (sym h.state) (by_none (caller old) (state stream old));
  live = ap (live (caller old).now) h.state;
  who = h.who;
  noting = h.noting;
}

pub acts_before : {R : Type 0} {stream : R → Stream} {old new : Session R} → IsAsBefore stream old new → Acts stream old new
acts_before h = let looks = looks_before h in record { run = looks.run; who = looks.who; noting = looks.noting }

-- what holds of the caller and of the state before and after holds from where room was made
pub from_before : {R : Type 0} {stream : R → Stream} {old mid : Session R} (P : Caller → State → Type 0) → IsAsBefore stream old mid → P (caller mid) (state stream mid)
    → P (caller old) (state stream old)
from_before {R} {stream} {old} {mid} P h holds = subst (λ w. P w (state stream old)) h.who (subst (P (caller mid)) h.state holds)

pub ruleset looks_follow = (looks_none, looks_on, acts_none, acts_on)

pub ruleset requests_follow = (looks_none, looks_on, requests_of, requests_on)
