-- A generator whose next sixteen bytes are drawn ahead.
use Rattle.std.proofs.Common.{◌≡◌, ℕ, Bool, true, false, List, Some, refl, sym, subst, ap}
use Rattle.std.proofs.lemmas.Bool.{false≢true}
use Rattle.rand_core.specs.Stream.{Stream, fill_bytes}
use Rattle.rand_core.proofs.StepsLemmas.{fill_bytes-stream_of}
use Rattle.dav_locks_core.specs.Tokens.{token_from}
use Rattle.dav_guarded_core.specs.Requests.{Command, Answer}
use Rattle.dav_guarded_core.specs.Step.{Step}
use Rattle.dav_guarded_core.specs.Stores.{Stores, state_of}
use Rattle.dav_notes_core.specs.Stepping.{AnsweredBy, Draws, left_by}
use Rattle.dav_notes_core.proofs.StreamLemmas.{steps_with}
use Rattle.dav_notes_core.specs.Ahead.{ahead, ahead_steps, drawn_on, was_granted}
use Rattle.dav_notes_core.specs.Changes.{is_look}
use Rattle.dav_notes_core.specs.Noting.{drawn_for}
use Rattle.dav_notes_core.specs.Asking.{Caller, asking}

fill-ahead : (a : List ℕ × Stream) → fill_bytes 16 (ahead a) ≡ (a.0, ahead (fill_bytes 16 a.1))
fill-ahead a = fill_bytes-stream_of ahead_steps 16 a

left_ahead : (b : Bool) (a : List ℕ × Stream) → left_by b (ahead a) ≡ ahead (drawn_on b a)
unfolding token_from
left_ahead true a = ap (λ (p : List ℕ × Stream). p.1) (fill-ahead a)
left_ahead false a = refl

draws_ahead : (c : Command) (a : List ℕ × Stream) → Draws c (drawn_for c a.0) (ahead a)
draws_ahead (Command.Lock path owner timeout shared deep) a = ap Some (sym (ap (λ (p : List ℕ × Stream). p.0) (fill-ahead a)))
draws_ahead _ a = tt

-- a question draws nothing
pub look_draws_none : (c : Command) (answer : Answer) (a : List ℕ × Stream) → is_look c ≡ true → drawn_on (was_granted c answer) a ≡ a
look_draws_none (Command.Lock path owner timeout shared deep) answer a h = absurd (false≢true h)
look_draws_none _ answer a h = refl

-- what is asked is a step of the stores, with the generator that has the next bytes ahead
pub asked_step : (who : Caller) (c : Command) (s s' : Stores) (answer : Answer) (a b : List ℕ × Stream) → AnsweredBy (drawn_for c a.0) s (asking who c) answer s'
    → b ≡ drawn_on (was_granted c answer) a → Step (state_of s (ahead a)) (asking who c) answer (state_of s' (ahead b))
asked_step who c s s' answer a b h drawn =
    subst (λ (p : List ℕ × Stream). Step (state_of s (ahead a)) (asking who c) answer (state_of s' (ahead p))) (sym drawn)
    (subst (λ (t : Stream). Step (state_of s (ahead a)) (asking who c) answer (state_of s' t)) (left_ahead (was_granted c answer) a)
    (steps_with (drawn_for c a.0) s s' (asking who c) answer (ahead a) h (draws_ahead c a)))
