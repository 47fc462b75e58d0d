-- Requests that follow one another, of which some do more than others.
use Rattle.std.proofs.Common.{◌∙◌, subst, sym}
use Rattle.rand_core.specs.Stream.{Stream}
use Rattle.dav_guarded_core.specs.Step.{State}
use Rattle.dav_session_core.specs.declared.session.Session.{Session}
use Rattle.dav_session_core.specs.Callers.{Asks, Caller}
use Rattle.dav_session_core.specs.Sessions.{Acts, Looks, Requests, caller, live_of, state, Ran}
use Rattle.dav_session_core.proofs.Asking.{asks_join}
use Rattle.dav_session_core.proofs.CallerLaws.{asks_of, runs_by, runs_join, runs_of}
use Rattle.dav_session_core.proofs.Looking.{acts_none, acts_on, looks_none, looks_on, same_asked}

module _ {R : Type 0} {stream : R → Stream} where
  -- what holds of who asks and of what lasts behind questions holds before them
  pub held_before : {old new : Session R} (Holds : Caller → State → Type 0) → Looks stream old new
      → Holds (caller new) (live_of stream new) → Holds (caller old) (live_of stream old)
  held_before {old} {new} Holds h held =
      subst (λ w. Holds w (live_of stream old)) h.who
      (subst (λ s. Holds (caller new) s) (same_asked (λ w s. s) h) held)

  pub held_behind : {old new : Session R} (Holds : Caller → State → Type 0) → Looks stream old new
      → Holds (caller old) (live_of stream old) → Holds (caller new) (live_of stream new)
  held_behind {old} {new} Holds h held =
      subst (λ s. Holds (caller new) s) (sym (same_asked (λ w s. s) h))
      (subst (λ w. Holds w (live_of stream old)) (sym h.who) held)

  -- a question is a request
  pub looks_act : {old new : Session R} → Looks stream old new → Acts stream old new
  looks_act h = record { run = h.run; who = h.who; noting = h.noting }

  -- questions in three steps
  pub looks_thrice : {a b c d : Session R} → Looks stream a b → Looks stream b c → Looks stream c d → Looks stream a d
  looks_thrice h k l = looks_on (looks_on h k) l

  pub looks_act_thrice : {a b c d : Session R} → Looks stream a b → Looks stream b c → Looks stream c d → Acts stream a d
  looks_act_thrice h k l = looks_act (looks_thrice h k l)

  -- a change behind two of them, or three
  pub acts_after : {a b c d : Session R} → Looks stream a b → Looks stream b c → Acts stream c d → Acts stream a d
  acts_after h k l = acts_on (looks_act (looks_on h k)) l

  pub acts_behind : {a b c d e : Session R} → Looks stream a b → Looks stream b c → Looks stream c d → Acts stream d e → Acts stream a e
  acts_behind h k l m = acts_on (looks_act_thrice h k l) m

  -- two changes behind one of them, or two
  pub acts_twice : {a b c d : Session R} → Looks stream a b → Acts stream b c → Acts stream c d → Acts stream a d
  acts_twice h k l = acts_on (looks_act h) (acts_on k l)

  pub acts_twice_after : {a b c d e : Session R} → Looks stream a b → Looks stream b c → Acts stream c d → Acts stream d e → Acts stream a e
  acts_twice_after h k l m = acts_twice (looks_on h k) l m

  pub acts_asked : {old new : Session R} → Acts stream old new → Requests stream old new
  acts_asked {old} {new} h =
      record { run = asks_of (caller old) (state stream old) (state stream new) h.run; who = h.who; noting = h.noting }

  pub asked_on : {old mid new : Session R} → Requests stream old mid → Requests stream mid new → Requests stream old new
  asked_on {old} {mid} {new} h k = record {
    run = asks_join (caller old) (state stream old) (state stream mid) (state stream new) h.run
        (subst (λ w. Asks w (state stream mid) (state stream new)) h.who k.run);
    who = k.who ∙ h.who;
    noting = k.noting ∙ h.noting;
  }

  pub acts_ran : {old new : Session R} → Acts stream old new → Ran stream old new
  acts_ran {old} {new} h = record { run = runs_by (caller old) (state stream old) (state stream new) h.run; who = h.who; noting = h.noting }

  pub asked_ran : {old new : Session R} → Requests stream old new → Ran stream old new
  asked_ran {old} {new} h = record { run = runs_of (caller old) (state stream old) (state stream new) h.run; who = h.who; noting = h.noting }

  pub ran_on : {old mid new : Session R} → Ran stream old mid → Ran stream mid new → Ran stream old new
  ran_on {old} {mid} {new} h k = record {
    run = runs_join (state stream old) (state stream mid) (state stream new) h.run k.run;
    who = k.who ∙ h.who;
    noting = k.noting ∙ h.noting;
  }

-- what a session is left as by what is asked of it, one request after another
pub ruleset requests = (looks_none, looks_on, acts_none, acts_on, looks_act)

-- the same, in more than two steps
pub ruleset long_requests = (requests, looks_thrice, looks_act_thrice, acts_after, acts_behind, acts_twice, acts_twice_after)

-- the same, where locks are ended or another token is named
pub ruleset all_requests = (requests, acts_asked, asked_on, acts_ran, asked_ran, ran_on)
