-- What each call adds to what happened.
use Rattle.std.proofs.Common.{◌≡◌, ◌≢◌, ℕ, ◌<◌, ◌≤◌, false, List, [], ◌∷◌, length, take, Option, Some, None, refl, sym, ap, ◌∙◌, subst, arith, All, eq-eqb, inl, inr}
use Rattle.std.proofs.lemmas.List.Elements.{All-head}
use Rattle.http.specs.declared.request.Request.{Request}
use Rattle.http_server.specs.declared.response.Response.{Response}
use Rattle.http_server.specs.declared.state.Config.{Config}
use Rattle.http_server.specs.declared.state.State.TheVariants.{Open}
use Rattle.http_server.specs.History.{Rests, IsDone}
use Rattle.http_server.proofs.Theorems.{never_stalls}
use Rattle.http_frames.specs.declared.clients.Clients.{Clients}
use Rattle.http_frames.specs.declared.held.Held.{Held}
use Rattle.http_frames.specs.Clients.{Stands, Has, StaysSo, Adds, GivesTurn, TellsNext, NoTwice, count_begun, config_of, window_of, queue_of, held_at, history_of}
use Rattle.http_frames.specs.ConnectionEvents.{Event, Account, Place, Going, Left, Over, Came, Took, Gone, Answered, Known, Told, Granted, Awaited, number_of, is_general, add_at, add_going, account, IsNumber}
use Rattle.http_frames.specs.Private.Steps.{JoinsFresh, Waits, GrantsMore, Speaks, Steps, Sends, TellsKnown, TellsWait, MovesOne, HearsAt, TakesAt}
use Rattle.http_frames.proofs.Places.{Line, line-same, line-joins, line-popped, popped_once}
use Rattle.http_frames.proofs.Keeping.{moved, moved-still, stood, unmoved}
use Rattle.http_frames.proofs.Answering.{heard, dropped, told, over, answered}
use Rattle.http_frames.proofs.Standing.{waiting, late, took, leaves, granted, awaited, known}

module _ (before after : Clients) (n : ℕ) (some : 0 < n) (within : n ≤ count_begun before) where
  same_line : queue_of after ≡ queue_of before → Line n (count_begun before) (queue_of before) (queue_of after)
  same_line same = line-same n (count_begun before) (queue_of before) (queue_of after) same

  joins_line : (k : Held) (a : Account) → JoinsFresh n k (queue_of before) (queue_of after) → Stands (config_of before) (window_of before) (queue_of before) n (Some k) a
      → Line n (count_begun before) (queue_of before) (queue_of after)
  joins_line k a joins s = line-joins n (count_begun before) k (queue_of before) (queue_of after) (some, within) joins s.1.unqueued

  -- one connection moved, and this happened to it
  pub adds : (o o' : Option Held) (e : Event) → held_at before n ≡ o → MovesOne n o' before after
      → ((a : Account) → Stands (config_of before) (window_of before) (queue_of before) n o a → Line n (count_begun before) (queue_of before) (queue_of after)) → is_general e ≡ false → number_of e ≡ n
      → ((a : Account) → (config_of before).max_pending ≡ 0 → NoTwice (queue_of before) → Stands (config_of before) (window_of before) (queue_of before) n o a
      → Stands (config_of before) (window_of before) (queue_of after) n o' (add_at a.place a e)) → Adds before after e
  adds o o' e is m line plain same step = λ es h.
      let before_it = stood before es n o h some within is in
      moved before after n o' m es h some within (line (account n es) before_it) e plain same (step (account n es) h.pauses h.once before_it)

  none_at : held_at before n ≡ None → after ≡ before → MovesOne n None before after
  none_at is x = subst (λ c. MovesOne n None before c) (sym x) (subst (λ o. MovesOne n o before before) is (unmoved before n))

  -- bytes came of it
  pub hears-by : (o : Option Held) (bytes : List ℕ) → held_at before n ≡ o → HearsAt o n bytes before after → Adds before after (Came n bytes)
  hears-by None bytes is x =
      adds None None (Came n bytes) is (none_at is x) (λ a s. same_line (ap queue_of x)) refl refl
      (λ a pauses once s. late (config_of before) (window_of before) n (queue_of after) a (Came n bytes) tt s)
  hears-by (Some k) bytes is x = elim x.2 [
    | inl d ↦ adds (Some k) (Some x.0) (Came n bytes) is x.1 (λ a s. same_line d.2) refl refl
        (λ a pauses once s. rw (d.1, d.2) (dropped (config_of before) (window_of before) n (queue_of before) k a bytes d.0 s))
    | inr w ↦ adds (Some k) (Some x.0) (Came n bytes) is x.1 (λ a s. joins_line k a w.joins s) refl refl
        (λ a pauses once s. heard (config_of before) (window_of before) n (queue_of before) (queue_of after) k x.0 a bytes w s)
  ]

  pub hears : (bytes : List ℕ) → HearsAt (held_at before n) n bytes before after → Adds before after (Came n bytes)
  hears bytes x = hears-by (held_at before n) bytes refl x

  -- it goes on no more
  pub quits : (k : Held) (e : Event) (p : Place) → ((a : Account) → add_going a e ≡ record a { place = p }) → p ≢ Going → p ≢ Over → is_general e ≡ false → number_of e ≡ n
      → held_at before n ≡ Some k → MovesOne n None before after → JoinsFresh n k (queue_of before) (queue_of after) → Adds before after e
  quits k e p adds_is not_going not_over plain same is m joins =
      adds (Some k) None e is m (λ a s. joins_line k a joins s) plain same
      (λ a pauses once s. leaves (config_of before) (window_of before) n (queue_of before) (queue_of after) k a e p (adds_is a) not_going not_over s)

  -- its client took bytes
  pub took-by : (o : Option Held) (count : ℕ) → held_at before n ≡ o → TakesAt o n count before after → Adds before after (Took n count)
  took-by None count is x =
      adds None None (Took n count) is (none_at is x) (λ a s. same_line (ap queue_of x)) refl refl
      (λ a pauses once s. late (config_of before) (window_of before) n (queue_of after) a (Took n count) tt s)
  took-by (Some k) count is x =
      adds (Some k) (Some x.0) (Took n count) is x.1 (λ a s. same_line x.4) refl refl
      (λ a pauses once s. rw x.4 (took (config_of before) (window_of before) n (queue_of before) k x.0 a count x.2 x.3 s))

  -- its client is gone
  gone-by : (o : Option Held) → held_at before n ≡ o → MovesOne n None before after → queue_of after ≡ queue_of before → Adds before after (Gone n)
  gone-by None is m queue =
      adds None None (Gone n) is m (λ a s. same_line queue) refl refl
      (λ a pauses once s. late (config_of before) (window_of before) n (queue_of after) a (Gone n) tt s)
  gone-by (Some k) is m queue = quits k (Gone n) Left (λ a. refl) (λ is. cc) (λ is. cc) refl refl is m (inl queue)

  pub goes : MovesOne n None before after → queue_of after ≡ queue_of before → Adds before after (Gone n)
  goes m queue = gone-by (held_at before n) refl m queue

  -- a piece went out to it
  pub sends : (k : Held) (k' : Held) (held holds : Option (List ℕ)) (w : Sends n (window_of before) k k' (queue_of before) (queue_of after) held holds) → held_at before n ≡ Some k → MovesOne n (Some k') before after
      → Adds before after (Told n (take w.count (history_of k).pending))
  sends k k' held holds w is m =
      adds (Some k) (Some k') (Told n (take w.count (history_of k).pending)) is m (λ a s. joins_line k a w.joins s) refl refl
      (λ a pauses once s. told (config_of before) (window_of before) n (queue_of before) (queue_of after) k k' a held holds w s)

  -- its client may send more
  pub grants : (k k' : Held) (held holds : Option (List ℕ)) → GrantsMore n k k' held holds → held_at before n ≡ Some k → MovesOne n (Some k') before after → queue_of after ≡ queue_of before
      → Adds before after (Granted n k.due)
  grants k k' held holds w is m queue =
      adds (Some k) (Some k') (Granted n k.due) is m (λ a s. same_line queue) refl refl
      (λ a pauses once s. subst (λ (q : List ℕ). Stands (config_of before) (window_of before) q n (Some k') (add_at a.place a (Granted n k.due))) (sym queue)
      (granted (config_of before) (window_of before) n (queue_of before) k k' a held holds w s))

  -- it was told that it waits
  pub tells_wait : (k k' : Held) (held holds : Option (List ℕ)) → (history_of k).state ≡ Open → TellsWait n k k' held holds → held_at before n ≡ Some k → MovesOne n (Some k') before after
      → queue_of after ≡ queue_of before → Adds before after (Awaited n k.part k.heard)
  tells_wait k k' held holds is_open w is m queue =
      adds (Some k) (Some k') (Awaited n k.part k.heard) is m (λ a s. same_line queue) refl refl
      (λ a pauses once s. subst (λ (q : List ℕ). Stands (config_of before) (window_of before) q n (Some k') (add_at a.place a (Awaited n k.part k.heard))) (sym queue)
      (awaited (config_of before) (window_of before) n (queue_of before) k k' a held holds is_open w s))

  -- it was told that a user was let in
  pub tells_known : (k k' : Held) (held holds : Option (List ℕ)) → TellsKnown n k k' held holds → held_at before n ≡ Some k → MovesOne n (Some k') before after → queue_of after ≡ queue_of before → Adds before after (Known n)
  tells_known k k' held holds w is m queue =
      adds (Some k) (Some k') (Known n) is m (λ a s. same_line queue) refl refl
      (λ a pauses once s. subst (λ (q : List ℕ). Stands (config_of before) (window_of before) q n (Some k') (add_at a.place a (Known n))) (sym queue)
      (known (config_of before) (window_of before) n (queue_of before) k k' a held holds w s))

  -- its end was told
  pub ends : (k : Held) → held_at before n ≡ Some k → IsDone (history_of k) → MovesOne n None before after → queue_of after ≡ queue_of before → Adds before after (Told n [])
  ends k is done m queue =
      adds (Some k) None (Told n []) is m (λ a s. same_line queue) refl refl
      (λ a pauses once s. over (config_of before) (window_of before) n (queue_of before) k a done s)

  -- one of these
  pub speaks : (k k' : Held) (held holds : Option (List ℕ)) → held_at before n ≡ Some k → MovesOne n (Some k') before after → Speaks n (window_of before) k k' (queue_of before) (queue_of after) held holds
      → TellsNext n before after held holds
  speaks k k' held holds is m (inl w) = record {
    event = Told n (take w.count (history_of k).pending);
    number_is = refl;
    out = tt;
    wrote = w.wrote;
    adds = sends k k' held holds w is m;
    known = tt;
  }
  speaks k k' held holds is m (inr (inl x)) = record {
    event = Granted n k.due;
    number_is = refl;
    out = x.0;
    wrote = x.2.wrote;
    adds = grants k k' held holds x.2 is m x.1;
    known = tt;
  }
  speaks k k' held holds is m (inr (inr (inl x))) = record {
    event = Awaited n k.part k.heard;
    number_is = refl;
    out = tt;
    wrote = x.2.wrote;
    adds = tells_wait k k' held holds x.0 x.2 is m x.1;
    known = tt;
  }
  speaks k k' held holds is m (inr (inr (inr x))) = record {
    event = Known n;
    number_is = refl;
    out = tt;
    wrote = x.1.wrote;
    adds = tells_known k k' held holds x.1 is m x.0;
    known = rw is x.1.known;
  }

  -- it joined the queue, at most
  pub waits : (k k' : Held) → held_at before n ≡ Some k → MovesOne n (Some k') before after → Waits n k k' (queue_of before) (queue_of after) → StaysSo before after
  waits k k' is m w = λ es h.
      moved-still before after n (Some k') m es h some within (joins_line k (account n es) w.joins (stood before es n (Some k) h some within is))
      (waiting (config_of before) (window_of before) n (queue_of before) (queue_of after) k k' (account n es) w (stood before es n (Some k) h some within is))

  -- it had its turn
  module _ {S : Type 0} (begins : S → ℕ → S → Type 0) (answers : S → Request (List ℕ) → Response → S → Type 0) (first : queue_of before ≡ n ∷ queue_of after) where
    pub turns : (k k' : Held) (s s' : S) (w : Steps begins answers n k k' s s') → held_at before n ≡ Some k → MovesOne n (Some k') before after → Adds before after (Answered n w.calls)
    turns k k' s s' w is m =
        adds (Some k) (Some k') (Answered n w.calls) is m (λ a s. line-popped n (count_begun before) (queue_of before) (queue_of after) first) refl refl
        (λ a pauses once x. answered (config_of before) (window_of before) n begins answers (queue_of before) (queue_of after) k k' a s s' w pauses (popped_once n (queue_of before) (queue_of after) first once) x)

    -- it goes on no more
    pub turns_late : held_at before n ≡ None → MovesOne n None before after → Adds before after (Answered n [])
    turns_late is m =
        adds None None (Answered n []) is m (λ a s. line-popped n (count_begun before) (queue_of before) (queue_of after) first) refl refl
        (λ a pauses once s. late (config_of before) (window_of before) n (queue_of after) a (Answered n []) refl s)

-- ---- a turn

module _ (before after : Clients) (n : ℕ) (first : queue_of before ≡ n ∷ queue_of after) where
  -- who stands in the queue has begun
  numbered : (es : List Event) → Has before es → IsNumber (count_begun before) n
  numbered es h = All-head (IsNumber (count_begun before)) n (queue_of after) (subst (All (IsNumber (count_begun before))) first h.places)

  module _ {S : Type 0} (begins : S → ℕ → S → Type 0) (answers : S → Request (List ℕ) → Response → S → Type 0) (s s' : S) where
    pub has_turn : (k k' : Held) (w : Steps begins answers n k k' s s') → held_at before n ≡ Some k → MovesOne n (Some k') before after → GivesTurn begins answers n before after s s'
    has_turn k k' w is m = record {
      calls = w.calls;
      turn = w.turn;
      adds = λ es h. let at = numbered es h in turns before after n at.0 at.1 begins answers first k k' s s' w is m es h;
      waits = rw is (λ some. let x = w.waits some in (x.1, x.2));
      rests = λ es h.
          let at = numbered es h in
          let config_is = (stood before es n (Some k) h at.0 at.1 is).1.config_is in
          let rests = subst (λ (c : Config). Rests c (history_of k')) (w.config ∙ config_is ∙ sym m.config) (w.rests (ap (λ (c : Config). c.max_pending) config_is ∙ h.pauses)) in
          rw (m.puts n, eq-eqb n n refl) ((rests, never_stalls (config_of after) (history_of k') rests), w.dues, w.news);
    }

    pub has_late_turn : held_at before n ≡ None → MovesOne n None before after → s' ≡ s → GivesTurn begins answers n before after s s'
    has_late_turn is m same = record {
      calls = [];
      turn = inl (refl, same);
      adds = λ es h. let at = numbered es h in turns_late before after n at.0 at.1 begins answers first is m es h;
      waits = rw is tt;
      rests = λ es h. rw (m.puts n, eq-eqb n n refl) tt;
    }

pub some_waits : (xs : List ℕ) → xs ≢ [] → 0 < length xs
some_waits [] some = absurd (some refl)
some_waits (x ∷ xs) some = omega arith
