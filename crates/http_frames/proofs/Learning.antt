-- A turn in which a user may be let in, and what the log is told of it.
use Rattle.std.proofs.Common.{◌≡◌, ◌≢◌, ℕ, Bool, List, ◌++◌, [], append-nil, sym, ap, ◌∙◌, subst, IsTrue, inl, inr}
use Rattle.http.specs.declared.request.Request.{Request}
use Rattle.http_server.specs.declared.response.Response.{Response}
use Rattle.http_server.specs.declared.state.State.{State}
use Rattle.http_server.specs.Exchange.{Call}
use Rattle.http_frames.specs.declared.held.Held.{Held}
use Rattle.http_frames.specs.Clients.{history_of}
use Rattle.http_frames.specs.Logging.{LearnsUser, LogsEach, LogsEnd, LogsTurn}
use Rattle.http_frames.specs.Private.Steps.{LearnsByCall, Steps}

-- a step is one whoever was let in by it
pub stepped : {S : Type 0} (begins : S → ℕ → S → Type 0) (answers : S → Request (List ℕ) → Response → S → Type 0) (n : ℕ) (k k1 k' : Held) (s s' : S) (called : Bool) (user : List ℕ)
    → LearnsByCall called user k1 k' → Steps begins answers n k k1 s s' → Steps begins answers n k k' s s'
stepped begins answers n k k1 k' s s' called user (inl x) w = subst (λ (t : Held). Steps begins answers n k t s s') (sym x.0) (record {
  calls = w.calls;
  turn = w.turn;
  made = w.made;
  quiet = w.quiet;
  settled = w.settled;
  waits = w.waits;
  rests = w.rests;
  config = w.config;
  ahead = w.ahead;
  heard = w.heard;
  behind = w.behind;
  due = w.due;
  dues = w.dues;
  news = w.news;
  ended = w.ended;
  unqueued = w.unqueued;
})
stepped begins answers n k k1 k' s s' called user (inr x) w = subst (λ (t : Held). Steps begins answers n k t s s') (sym x.0) w

pub same_history : (k k' : Held) (called : Bool) (user : List ℕ) → LearnsByCall called user k k' → history_of k' ≡ history_of k
same_history k k' called user (inl x) = ap history_of x.0
same_history k k' called user (inr x) = ap history_of x.0

pub user_learned : (k k1 k' : Held) (called : Bool) (user : List ℕ) → LearnsByCall called user k1 k' → k1.known ≡ k.known → k1.told ≡ k.told → ((history_of k').calls ≢ (history_of k).calls → IsTrue called) → LearnsUser user k k'
user_learned k k1 k' called user (inl x) known told calls = record {
  stays = λ is. ap (λ (t : Held). t.known) x.0;
  only = λ is. inr x.2;
  learns = λ more some. ap (λ (t : Held). t.known) x.0;
  told = ap (λ (t : Held). t.told) x.0 ∙ told;
}
user_learned k k1 k' called user (inr x) known told calls = record {
  stays = λ is. ap (λ (t : Held). t.known) x.0 ∙ known ∙ is;
  only = λ is. inl (sym known ∙ sym (ap (λ (t : Held). t.known) x.0) ∙ is);
  learns = λ more some. absurd (some (x.1 (calls more)));
  told = ap (λ (t : Held). t.told) x.0 ∙ told;
}

-- in which round the turn was given is all the same
pub user_rounded : (user : List ℕ) (round : ℕ) (k k' : Held) → LearnsUser user (record k { round = round }) k' → LearnsUser user k k'
user_rounded user round k k' x = record { stays = x.stays; only = x.only; learns = x.learns; told = x.told }

module _ {L : Type 0} (begins : L → List ℕ → L → Type 0) (answered : L → Request (List ℕ) → Response → List ℕ → L → Type 0) (refused : L → ℕ → L → Type 0) (lost : L → L → Type 0) (user : List ℕ) where
  each_rounded : (round : ℕ) (k k' : Held) (old new : L) → LogsEach begins answered refused lost user (record k { round = round }) k' old new → LogsEach begins answered refused lost user k k' old new
  each_rounded round k k' old new x = record { told = x.told; begun = x.begun; calls = x.calls; made = x.made; said = x.said; called = x.called; end = x.end }

  pub log_rounded : (round : ℕ) (k k' : Held) (old new : L) → LogsTurn begins answered refused lost user (record k { round = round }) k' old new → LogsTurn begins answered refused lost user k k' old new
  log_rounded round k k' old new x = record { waits = x.waits; each = λ none. each_rounded round k k' old new (x.each none) }

-- where histories have other calls, a call was made
pub some_called : (before after calls : List Call) → after ≡ before ++ calls → after ≢ before → ¬ (calls ≡ [])
some_called before after calls is other none = other (is ∙ ap (λ (t : List Call). before ++ t) none ∙ append-nil before)

pub ends_so : {L : Type 0} (refused : L → ℕ → L → Type 0) (lost : L → L → Type 0) (before after before' after' : State) (old new : L) → before ≡ before' → after ≡ after' → LogsEnd refused lost before after old new
    → LogsEnd refused lost before' after' old new
ends_so refused lost before after before' after' old new is was x = subst (λ (t : State). LogsEnd refused lost before' t old new) was (subst (λ (t : State). LogsEnd refused lost t after old new) is x)
