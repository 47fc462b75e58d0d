-- What a session asks of its stores, as steps of its state.
use Rattle.std.proofs.Common.{◌≡◌, ◌≤◌, ℕ, Bool, true, List, sym, ◌∙◌, ap, subst}
use Rattle.std.proofs.lemmas.Bool.{false_from_ne_true}
use Rattle.rand_core.specs.Stream.{Stream, fill_bytes}
use Rattle.dav_guarded_core.specs.Requests.{Answer, Command, Refusal, OutOfMemory}
use Rattle.dav_guarded_core.specs.Step.{Step}
use Rattle.dav_guarded_core.specs.Stores.{Stores, state_of}
use Rattle.dav_notes_core.specs.Ahead.{ahead, drawn_on, was_granted}
use Rattle.dav_notes_core.specs.Noting.{drawn_for}
use Rattle.dav_notes_core.specs.Seen.{Seen}
use Rattle.dav_notes_core.specs.Stepping.{AnsweredBy}
use Rattle.dav_notes_core.proofs.AheadLemmas.{asked_step, look_draws_none}
use Rattle.dav_session_core.specs.declared.session.Session.{Session}
use Rattle.dav_session_core.specs.Callers.{Caller, IsUndone, asking, is_look}
use Rattle.dav_session_core.specs.Sessions.{KeepsRoom, noting, state}

module _ {R : Type 0} (stream : R → Stream) (old new : Session R) where
  -- what is asked of the stores by this caller is a step
  pub step_by : (who : Caller) (c : Command) (a : Answer) → AnsweredBy (drawn_for c old.stores.next) old.stores.stores (asking who c) a new.stores.stores
      → (new.stores.next, stream new.rng) ≡ drawn_on (was_granted c a) (old.stores.next, stream old.rng) → Step (state stream old) (asking who c) a (state stream new)
  step_by who c a h drawn = asked_step who c old.stores.stores new.stores.stores a (old.stores.next, stream old.rng) (new.stores.next, stream new.rng) h drawn

  -- a question is a step that draws nothing
  pub look_step : (who : Caller) (c : Command) (a : Answer) → is_look c ≡ true → AnsweredBy (drawn_for c old.stores.next) old.stores.stores (asking who c) a new.stores.stores
      → new.stores ≡ record old.stores { stores = new.stores.stores } → stream new.rng ≡ stream old.rng → Step (state stream old) (asking who c) a (state stream new)
  look_step who c a look h same rng =
      step_by who c a h
      (ap (λ (s : Seen). (s.next, stream new.rng)) same ∙ ap (λ (t : Stream). (old.stores.next, t)) rng ∙ sym (look_draws_none c a (old.stores.next, stream old.rng) look))

  -- the state as the stores are seen, where nothing is drawn
  pub state_as : (seen : Seen) → new.stores ≡ seen → stream new.rng ≡ stream old.rng → state stream new ≡ state_of seen.stores (ahead (seen.next, stream old.rng))
  state_as seen stores rng =
      ap (λ (it : Seen). state_of it.stores (ahead (it.next, stream new.rng))) stores ∙ ap (λ (t : Stream). state_of seen.stores (ahead (seen.next, t))) rng

  -- nothing is done
  pub undone : (c : Command) (looks : is_look c ≡ true → ⊥) → new.stores ≡ old.stores → stream new.rng ≡ stream old.rng → (e : Refusal) → e ≡ OutOfMemory
      → IsUndone (state stream old) c e (state stream new)
  undone c looks stores rng e lacks = record {
    changes = false_from_ne_true (is_look c) looks;
    lacks = lacks;
    same = state_as old.stores stores rng;
  }

  pub same_noting : new.stores.keeps ≡ old.stores.keeps → new.stores.base ≡ old.stores.base → new.stores.given ≡ old.stores.given → noting new ≡ noting old
  same_noting keeps base given =
      ap (λ (b : Bool). record { keeps = b; base = new.stores.base; given = new.stores.given }) keeps ∙ ap (λ (xs : List (Stores × ℕ)). record { keeps = old.stores.keeps; base = xs; given = new.stores.given }) base
      ∙ ap (λ (n : ℕ). record { keeps = old.stores.keeps; base = old.stores.base; given = n }) given

  -- the room stays
  pub room_kept : new.stores.keeps ≡ old.stores.keeps → new.stores.room ≡ old.stores.room → new.stores.held ≡ old.stores.held → KeepsRoom old new
  room_kept keeps room held = λ count bytes h kept.
      let was = h (sym keeps ∙ kept) in
      (subst (λ n. count ≤ n) (sym room) was.0, subst (λ n. bytes ≤ n) (sym held) was.1)

-- a new session, whose first bytes are drawn ahead
pub new_state : {R : Type 0} (stream : R → Stream) (s : Session R) (stores : Stores) (t : Stream) → s.stores.stores ≡ stores → (s.stores.next, stream s.rng) ≡ fill_bytes 16 t
    → state stream s ≡ state_of stores (ahead (fill_bytes 16 t))
new_state stream s stores t are drawn =
    ap (λ (x : Stores). state_of x (ahead (s.stores.next, stream s.rng))) are ∙ ap (λ (a : List ℕ × Stream). state_of stores (ahead a)) drawn
