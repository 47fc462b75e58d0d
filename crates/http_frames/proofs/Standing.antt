-- How one connection stands after one thing more, but for those of Answering.
use Rattle.std.proofs.Common.{◌≡◌, ◌≢◌, ℕ, ◌+◌, ◌-◌, ◌≤◌, Bool, true, false, ◌&&◌, List, [], ◌++◌, Option, Some, None, Contains, length, take, ◌==◌, sym, ap, ◌∙◌, subst, arith, append-nil, length-append, take_all, add-zero, inl, inr, true≢false}
use lib.Seq.{take-append-le}
use Rattle.std.proofs.lemmas.Bool.{eq-eqb}
use Rattle.std.proofs.lemmas.List.Elements.{All-push}
use Rattle.http1.specs.declared.conn.Limits.{Limits}
use Rattle.http1.specs.Message.{ReadsRequests}
use Rattle.http_server.specs.declared.state.Config.{Config}
use Rattle.http_server.specs.declared.state.State.TheVariants.{Open}
use Rattle.http_server.specs.Connection.{config_of as connection_config}
use Rattle.http_server.specs.Exchange.{Call}
use Rattle.http_server.specs.History.{History, IsServed, Rests}
use Rattle.http_server.proofs.Theorems.{always_served}
use Rattle.http_frames.specs.declared.held.Held.{Held}
use Rattle.http_frames.specs.declared.clients.Windows.{Windows}
use Rattle.http_frames.specs.Clients.{Alone, AreAnswered, Stands, closed_window, history_of}
use Rattle.http_frames.specs.ConnectionEvents.{Event, Account, Place, Going, Over, Took, Granted, Awaited, Known, add_going, add_at, new_account, IsIdle}
use Rattle.http_frames.specs.Private.Steps.{Waits, GrantsMore, TellsKnown, TellsWait}
use Rattle.http_frames.proofs.Accounts.{at_going, at_late}
use Rattle.http_frames.proofs.Places.{not_over, joined}

-- ---- what is answered

pub same_answered : (limits : Limits) (count : ℕ) (h h' : History) → h'.received ≡ h.received → h'.calls ≡ h.calls → AreAnswered limits count h → AreAnswered limits count h'
same_answered limits count h h' received calls x = λ ms rest reads.
    subst (λ (cs : List Call). length ms ≤ length cs) (sym calls) (x ms rest (subst (λ (t : List ℕ). ReadsRequests limits (take count t) ms rest) received reads))

-- more calls were made
pub called_answered : (limits : Limits) (count : ℕ) (h h' : History) (more : List Call) → h'.received ≡ h.received → h'.calls ≡ h.calls ++ more → AreAnswered limits count h → AreAnswered limits count h'
called_answered limits count h h' more received calls x = λ ms rest reads.
    let before = x ms rest (subst (λ (t : List ℕ). ReadsRequests limits (take count t) ms rest) received reads) in
    omega (arith, before, ap (λ (cs : List Call). length cs) calls, length-append h.calls more)

-- more bytes were received
pub more_answered : (limits : Limits) (count : ℕ) (h h' : History) (bytes : List ℕ) (more : List Call) → count ≤ length h.received → h'.received ≡ h.received ++ bytes → h'.calls ≡ h.calls ++ more → AreAnswered limits count h
    → AreAnswered limits count h'
more_answered limits count h h' bytes more within received calls x = λ ms rest reads.
    let before = x ms rest (subst (λ (t : List ℕ). ReadsRequests limits t ms rest) (ap (take count) received ∙ take-append-le count h.received bytes within) reads) in
    omega (arith, before, ap (λ (cs : List Call). length cs) calls, length-append h.calls more)

-- where nothing waits, all that was received is
pub all_answered : (config : Config) (count : ℕ) (h : History) → length h.received ≡ count → Rests config h → h.state ≡ Open → h.pending ≡ [] → AreAnswered config.limits count h
all_answered config count h long rests is_open none = λ ms rest reads.
    (rests is_open (subst (λ (t : List ℕ). length t ≤ config.max_pending) (sym none) (omega arith))).1 ms rest
    (subst (λ (t : List ℕ). ReadsRequests config.limits t ms rest) (take_all count h.received (omega (arith, long))) reads)

-- once the input has ended, answers go as far as they are long
opened_alone : (config : Config) (window : Windows) (a : Account) → Alone config window a → Alone config (closed_window window) a
opened_alone config window a s = record {
  history = s.history;
  served = s.served;
  calls = s.calls;
  sent = s.sent;
  taken = s.taken;
  within = λ goes_on. absurd (true≢false goes_on);
  rest = s.rest;
  received = s.received;
  whole = s.whole;
  ended = s.ended;
  intake = s.intake;
  granted = s.granted;
  answered = s.answered;
  counted = s.counted;
  over = s.over;
  late = s.late;
}

module _ (config : Config) (window : Windows) (n : ℕ) where
  -- the history of a connection with this configuration is served, whatever was done with it
  pub served : (k : Held) → connection_config k.connection ≡ config → ∥ IsServed config (history_of k) ∥₁
  served k is = subst (λ (c : Config). ∥ IsServed c (history_of k) ∥₁) is (always_served k.connection)

  -- ---- nothing happened to it

  -- others joined the queue, or had their turn
  pub elsewhere : (queue queue' : List ℕ) (o : Option Held) (a : Account) → (Contains queue n → Contains queue' n) → (Contains queue' n → Contains queue n) → Stands config window queue n o a → Stands config window queue' n o a
  elsewhere queue queue' None a stay back s = (s.0, s.1)
  elsewhere queue queue' (Some k) a stay back s = (
    s.0,
    record {
      config_is = s.1.config_is;
      history_is = s.1.history_is;
      going = s.1.going;
      ended = s.1.ended;
      ahead = s.1.ahead;
      room = s.1.room;
      heard = s.1.heard;
      behind = s.1.behind;
      fits = s.1.fits;
      due = s.1.due;
      answered = s.1.answered;
      queued = λ is. stay (s.1.queued is);
      unqueued = λ is at. s.1.unqueued is (back at);
      waits = elim s.1.waits [ inl at ↦ inl (stay at) | inr rests ↦ inr rests ];
    },
  )

  -- it joined the queue, at most
  pub waiting : (queue queue' : List ℕ) (k k' : Held) (a : Account) → Waits n k k' queue queue' → Stands config window queue n (Some k) a → Stands config window queue' n (Some k') a
  waiting queue queue' k k' a w s = (
    s.0,
    record {
      config_is = w.config ∙ s.1.config_is;
      history_is = w.history ∙ s.1.history_is;
      going = s.1.going;
      ended = w.ended ∙ s.1.ended;
      ahead = rw w.ahead s.1.ahead;
      room = rw w.ahead s.1.room;
      heard = s.1.heard ∙ sym w.heard;
      behind = s.1.behind ∙ ap (λ (m : ℕ). a.granted + m) (sym w.behind);
      fits = rw w.behind s.1.fits;
      due = rw (w.due, w.behind) s.1.due;
      answered = subst (λ (m : ℕ). AreAnswered config.limits (a.granted + m) s.0.history) (sym w.due) s.1.answered;
      queued = w.queued s.1.queued;
      unqueued = w.unqueued s.1.unqueued;
      waits = elim s.1.waits [ inl at ↦ inl (joined n k queue queue' w.joins n at) | inr rests ↦ inr rests ];
    },
  )

  -- ---- it goes on no more

  pub late : (queue : List ℕ) (a : Account) (e : Event) → IsIdle e → Stands config window queue n None a → Stands config window queue n None (add_at a.place a e)
  late queue a e idle s =
      subst (Stands config window queue n None) (sym (at_late a e s.1)) (
        record {
          history = s.0.history;
          served = s.0.served;
          calls = s.0.calls;
          sent = s.0.sent;
          taken = s.0.taken;
          within = s.0.within;
          rest = s.0.rest;
          received = s.0.received;
          whole = s.0.whole;
          ended = s.0.ended;
          intake = s.0.intake;
          granted = s.0.granted;
          answered = s.0.answered;
          counted = s.0.counted;
          over = s.0.over;
          late = All-push IsIdle a.late e s.0.late idle;
        },
        s.1,
      )

  -- ---- its client may send more

  pub granted : (queue : List ℕ) (k k' : Held) (a : Account) (held holds : Option (List ℕ)) → GrantsMore n k k' held holds → Stands config window queue n (Some k) a
      → Stands config window queue n (Some k') (add_at a.place a (Granted n k.due))
  granted queue k k' a held holds g s =
      let left : (a.granted + k.due) + (k.behind - k.due) ≡ a.granted + k.behind = omega (arith, s.1.due) in
      subst (λ (x : Held). Stands config window queue n (Some x) (add_at a.place a (Granted n k.due))) (sym g.now)
      (subst (Stands config window queue n (Some (record k { behind = k.behind - k.due; due = 0 }))) (sym (at_going a (Granted n k.due) s.1.going)) (
        record {
          history = s.0.history;
          served = s.0.served;
          calls = s.0.calls;
          sent = s.0.sent;
          taken = s.0.taken;
          within = s.0.within;
          rest = s.0.rest;
          received = s.0.received;
          whole = s.0.whole;
          ended = s.0.ended;
          intake = omega (arith, s.0.intake);
          granted = omega (arith, s.1.behind, s.1.due);
          answered = s.1.answered;
          counted = s.0.counted;
          over = s.0.over;
          late = s.0.late;
        },
        record {
          config_is = s.1.config_is;
          history_is = s.1.history_is;
          going = s.1.going;
          ended = s.1.ended;
          ahead = s.1.ahead;
          room = s.1.room;
          heard = s.1.heard;
          behind = s.1.behind ∙ sym left;
          fits = omega (arith, s.1.fits);
          due = omega arith;
          answered = subst (λ (m : ℕ). AreAnswered config.limits m s.0.history) (sym (add-zero (a.granted + k.due))) s.1.answered;
          queued = s.1.queued;
          unqueued = s.1.unqueued;
          waits = s.1.waits;
        },
      ))

  -- ---- its client took bytes

  pub took : (queue : List ℕ) (k k' : Held) (a : Account) (count : ℕ) → count ≤ k.ahead → k' ≡ record k { ahead = k.ahead - count } → Stands config window queue n (Some k) a
      → Stands config window queue n (Some k') (add_at a.place a (Took n count))
  took queue k k' a count fits is s =
      subst (λ (x : Held). Stands config window queue n (Some x) (add_at a.place a (Took n count))) (sym is) (subst (Stands config window queue n (Some (record k { ahead = k.ahead - count }))) (sym (at_going a (Took n count) s.1.going)) (
        record {
          history = s.0.history;
          served = s.0.served;
          calls = s.0.calls;
          sent = s.0.sent;
          taken = omega (arith, s.1.ahead, fits);
          within = λ goes_on. omega (arith, s.0.within goes_on);
          rest = s.0.rest;
          received = s.0.received;
          whole = s.0.whole;
          ended = s.0.ended;
          intake = s.0.intake;
          granted = s.0.granted;
          answered = s.0.answered;
          counted = s.0.counted;
          over = s.0.over;
          late = s.0.late;
        },
        record {
          config_is = s.1.config_is;
          history_is = s.1.history_is;
          going = s.1.going;
          ended = s.1.ended;
          ahead = omega (arith, s.1.ahead, fits);
          room = λ goes_on. omega (arith, s.1.room goes_on);
          heard = s.1.heard;
          behind = s.1.behind;
          fits = s.1.fits;
          due = s.1.due;
          answered = s.1.answered;
          queued = s.1.queued;
          unqueued = s.1.unqueued;
          waits = s.1.waits;
        },
      ))

  -- ---- its client is gone, or it was ended

  pub leaves : (queue queue' : List ℕ) (k : Held) (a : Account) (e : Event) (p : Place) → add_going a e ≡ record a { place = p } → p ≢ Going → p ≢ Over → Stands config window queue n (Some k) a
      → Stands config window queue' n None (add_at a.place a e)
  leaves queue queue' k a e p is not_going not_over s =
      subst (Stands config window queue' n None) (sym (at_going a e s.1.going ∙ is)) (
        record {
          history = s.0.history;
          served = s.0.served;
          calls = s.0.calls;
          sent = s.0.sent;
          taken = s.0.taken;
          within = s.0.within;
          rest = s.0.rest;
          received = s.0.received;
          whole = s.0.whole;
          ended = s.0.ended;
          intake = s.0.intake;
          granted = s.0.granted;
          answered = s.0.answered;
          counted = s.0.counted;
          over = λ is. absurd (not_over is);
          late = s.0.late;
        },
        not_going,
      )

  -- one that has not begun: its first bytes were not taken
  pub turned_away : (queue : List ℕ) (e : Event) (p : Place) → add_going new_account e ≡ record new_account { place = p } → p ≢ Going → p ≢ Over → Alone config window new_account
      → Stands config window queue n None (add_at Going new_account e)
  turned_away queue e p is not_going not_over s =
      subst (Stands config window queue n None) (sym is) (
        record {
          history = s.history;
          served = s.served;
          calls = s.calls;
          sent = s.sent;
          taken = s.taken;
          within = s.within;
          rest = s.rest;
          received = s.received;
          whole = s.whole;
          ended = s.ended;
          intake = s.intake;
          granted = s.granted;
          answered = s.answered;
          counted = s.counted;
          over = λ is. absurd (not_over is);
          late = s.late;
        },
        not_going,
      )

  -- ---- it was told that it waits for its client

  pub awaited : (queue : List ℕ) (k k' : Held) (a : Account) (held holds : Option (List ℕ)) → (history_of k).state ≡ Open → TellsWait n k k' held holds → Stands config window queue n (Some k) a
      → Stands config window queue n (Some k') (add_at a.place a (Awaited n k.part k.heard))
  awaited queue k k' a held holds is_open g s =
      let was = s.0.whole (ap (λ (h : History). h.state) (sym s.1.history_is) ∙ is_open) in
      let long : length a.came ≡ k.heard = ap (λ (t : List ℕ). length t) (s.0.received ∙ ap (λ (t : List ℕ). s.0.history.received ++ t) was.0 ∙ append-nil _) ∙ s.1.heard in
      let right : (k.heard == length a.came) ≡ true = eq-eqb k.heard (length a.came) (sym long) in
      subst (λ (x : Held). Stands config window queue n (Some x) (add_at a.place a (Awaited n k.part k.heard))) (sym g.now)
      (subst (Stands config window queue n (Some (record k { news = false }))) (sym (at_going a (Awaited n k.part k.heard) s.1.going)) (
        record {
          history = s.0.history;
          served = s.0.served;
          calls = s.0.calls;
          sent = s.0.sent;
          taken = s.0.taken;
          within = s.0.within;
          rest = s.0.rest;
          received = s.0.received;
          whole = s.0.whole;
          ended = s.0.ended;
          intake = s.0.intake;
          granted = s.0.granted;
          answered = s.0.answered;
          counted = ap (λ (b : Bool). a.counted && b) right ∙ ap (λ (b : Bool). b && true) s.0.counted;
          over = s.0.over;
          late = s.0.late;
        },
        record {
          config_is = s.1.config_is;
          history_is = s.1.history_is;
          going = s.1.going;
          ended = s.1.ended;
          ahead = s.1.ahead;
          room = s.1.room;
          heard = s.1.heard;
          behind = s.1.behind;
          fits = s.1.fits;
          due = s.1.due;
          answered = s.1.answered;
          queued = s.1.queued;
          unqueued = s.1.unqueued;
          waits = s.1.waits;
        },
      ))

  -- ---- it was told that a user was let in

  pub known : (queue : List ℕ) (k k' : Held) (a : Account) (held holds : Option (List ℕ)) → TellsKnown n k k' held holds → Stands config window queue n (Some k) a
      → Stands config window queue n (Some k') (add_at a.place a (Known n))
  known queue k k' a held holds g s =
      subst (λ (x : Held). Stands config window queue n (Some x) (add_at a.place a (Known n))) (sym g.now)
      (subst (Stands config window queue n (Some (record k { told = true }))) (sym (at_going a (Known n) s.1.going)) (
        s.0,
        record {
          config_is = s.1.config_is;
          history_is = s.1.history_is;
          going = s.1.going;
          ended = s.1.ended;
          ahead = s.1.ahead;
          room = s.1.room;
          heard = s.1.heard;
          behind = s.1.behind;
          fits = s.1.fits;
          due = s.1.due;
          answered = s.1.answered;
          queued = s.1.queued;
          unqueued = s.1.unqueued;
          waits = s.1.waits;
        },
      ))

  -- ---- the input ended

  pub opened : (queue : List ℕ) (o : Option Held) (a : Account) → Stands config window queue n o a → Stands config (closed_window window) queue n o a
  unfolding opened_alone
  opened queue None a s = (opened_alone config window a s.0, s.1)
  opened queue (Some k) a s = (
    opened_alone config window a s.0,
    record {
      config_is = s.1.config_is;
      history_is = s.1.history_is;
      going = s.1.going;
      ended = s.1.ended;
      ahead = s.1.ahead;
      room = λ goes_on. absurd (true≢false goes_on);
      heard = s.1.heard;
      behind = s.1.behind;
      fits = s.1.fits;
      due = s.1.due;
      answered = s.1.answered;
      queued = s.1.queued;
      unqueued = s.1.unqueued;
      waits = s.1.waits;
    },
  )
