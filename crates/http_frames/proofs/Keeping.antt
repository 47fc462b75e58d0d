-- How the clients stand where one connection moved.
use Rattle.std.proofs.Common.{◌≡◌, ◌≢◌, ℕ, ◌<◌, ◌≤◌, Bool, true, false, List, [], ◌∷◌, ◌++◌, Option, None, All, Contains, if◌then◌else◌, ◌==◌, refl, sym, ap, ◌∙◌, subst, arith, inl, inr, eqb-true, true≢false}
use Rattle.std.proofs.lemmas.Bool.{eq-eqb, ne_eqb}
use Rattle.std.proofs.lemmas.List.Sums.{fold_push}
use Rattle.std.proofs.lemmas.Bool.Decides.{eqb_tells}
use Rattle.std.proofs.lemmas.List.Elements.{All-push, All-weaker}
use Rattle.http_server.specs.declared.state.Config.{Config}
use Rattle.http_frames.specs.declared.clients.Clients.{Clients}
use Rattle.http_frames.specs.declared.held.Held.{Held}
use Rattle.http_frames.specs.declared.clients.Windows.{Windows}
use Rattle.http_frames.specs.Clients.{NoTwice, Stands, Has, StaysSo, Adds, asked_of, count_begun, closed_window, config_of, window_of, queue_of, held_at}
use Rattle.http_frames.specs.ConnectionEvents.{Event, Account, Came, Rejected, Took, Gone, Answered, Told, Granted, Awaited, Known, Ended, Clock, Free, From, Users, Late, Turned, Asked, Nothing, Touched, Closed, number_of, add_at, account, asks_after, awaits, is_general, IsNumber, IsOfBegun}
use Rattle.http_frames.specs.Private.Steps.{LooksAlike, MovesOne}
use Rattle.http_frames.proofs.Accounts.{account-same, account-other, account-general}
use Rattle.http_frames.proofs.Places.{Line}
use Rattle.http_frames.proofs.Standing.{elsewhere, opened}

stands-same : (config config' : Config) (window window' : Windows) (queue : List ℕ) (q : ℕ) (o o' : Option Held) (a a' : Account) → config' ≡ config → window' ≡ window → o' ≡ o → a' ≡ a
    → Stands config window queue q o a → Stands config' window' queue q o' a'
stands-same config config' window window' queue q o o' a a' c w p r x = rw (c, w, p, r) x

-- what happens to one connection asks nothing
asking_same : (b : Bool) (e : Event) → is_general e ≡ false → asks_after b e ≡ b
asking_same b (Came n bytes) plain = refl
asking_same b (Rejected n bytes) plain = refl
asking_same b (Took n count) plain = refl
asking_same b (Gone n) plain = refl
asking_same b (Answered n calls) plain = refl
asking_same b (Told n bytes) plain = refl
asking_same b (Granted n count) plain = refl
asking_same b (Awaited n part count) plain = refl
asking_same b (Known n) plain = refl
asking_same b (Ended n) plain = refl
asking_same b (Clock moment) plain = refl
asking_same b (Free count) plain = refl
asking_same b (From n address) plain = refl
asking_same b (Users file) plain = refl
asking_same b (Late n) plain = refl
asking_same b (Turned address count) plain = refl
asking_same b Asked plain = cc
asking_same b Nothing plain = cc
asking_same b Touched plain = refl
asking_same b Closed plain = refl

awaits-push : (es : List Event) (e : Event) → awaits (es ++ e ∷ []) ≡ asks_after (awaits es) e
awaits-push es e = fold_push asks_after false es e

pub awaits-same : (es : List Event) (e : Event) → is_general e ≡ false → awaits (es ++ e ∷ []) ≡ awaits es
awaits-same es e plain = awaits-push es e ∙ asking_same (awaits es) e plain

-- the connection under a number, after these events
abbrev pub StandsAt : Clients → List Event → ℕ → Type 0
StandsAt c es q = Stands (config_of c) (window_of c) (queue_of c) q (held_at c q) (account q es)

module _ (before after : Clients) (es es' : List Event) (n : ℕ) (h : Has before es) (config : config_of after ≡ config_of before) (window : window_of after ≡ window_of before)
    (fewer : (q : ℕ) → q ≤ count_begun after → q ≢ n → q ≤ count_begun before) (others : (q : ℕ) → (n == q) ≡ false → held_at after q ≡ held_at before q)
    (accounts : (q : ℕ) → (n == q) ≡ false → account q es' ≡ account q es) (stay : (q : ℕ) → (n == q) ≡ false → Contains (queue_of before) q → Contains (queue_of after) q)
    (back : (q : ℕ) → (n == q) ≡ false → Contains (queue_of after) q → Contains (queue_of before) q) (once : NoTwice (queue_of after))
    (places : All (IsNumber (count_begun after)) (queue_of after)) (numbers : All (IsOfBegun (count_begun after)) es') (asked : asked_of after ≡ awaits es')
    (beyond : (q : ℕ) → count_begun after < q → held_at after q ≡ None) (here : StandsAt after es' n) where
  another : (q : ℕ) → 0 < q → q ≤ count_begun after → (n ≡ q → ⊥) → (n == q) ≡ false → StandsAt after es' q
  another q pos le ne test =
      stands-same (config_of before) (config_of after) (window_of before) (window_of after) (queue_of after) q (held_at before q) (held_at after q) (account q es) (account q es') config window
      (others q test) (accounts q test)
      (elsewhere (config_of before) (window_of before) q (queue_of before) (queue_of after) (held_at before q) (account q es) (stay q test) (back q test) (h.stands q pos (fewer q le (λ e. ne (sym e)))))

  each : (q : ℕ) → 0 < q → q ≤ count_begun after → StandsAt after es' q
  each q pos le = elim (eqb_tells n q) [
    | inl e ↦ subst (λ m. StandsAt after es' m) e.1 here
    | inr e ↦ another q pos le e.1 e.0
  ]

  pub kept : Has after es'
  kept = record {
    pauses = ap (λ (c : Config). c.max_pending) config ∙ h.pauses;
    asked = asked;
    beyond = beyond;
    numbers = numbers;
    places = places;
    once = once;
    stands = each;
  }

-- one connection moved
module _ (before after : Clients) (n : ℕ) (o : Option Held) (m : MovesOne n o before after) (es : List Event) (h : Has before es) (some : 0 < n) (within : n ≤ count_begun before)
    (line : Line n (count_begun before) (queue_of before) (queue_of after)) where
  pub itself : held_at after n ≡ o
  itself = m.puts n ∙ ap (λ (b : Bool). if b then o else held_at before n) (eq-eqb n n refl)

  others : (q : ℕ) → (n == q) ≡ false → held_at after q ≡ held_at before q
  others q test = m.puts q ∙ ap (λ (b : Bool). if b then o else held_at before q) test

  places : All (IsNumber (count_begun after)) (queue_of after)
  places = subst (λ b. All (IsNumber b) (queue_of after)) (sym m.begun) (line.places h.places)

  same_begun : (e : Event) → IsOfBegun (count_begun before) e → IsOfBegun (count_begun after) e
  same_begun e x = λ plain. let y = x plain in (y.0, omega (arith, y.1, m.begun))

  beyond : (q : ℕ) → count_begun after < q → held_at after q ≡ None
  beyond q above = others q (ne_eqb n q (λ same. omega (arith, same, within, above, m.begun))) ∙ h.beyond q (omega (arith, above, m.begun))

  at_here : (a : Account) (es' : List Event) → account n es' ≡ a → Stands (config_of before) (window_of before) (queue_of after) n o a → StandsAt after es' n
  at_here a es' is s =
      stands-same (config_of before) (config_of after) (window_of before) (window_of after) (queue_of after) n o (held_at after n) a (account n es') m.config m.window itself is s

  -- and nothing happened to it
  pub moved-still : Stands (config_of before) (window_of before) (queue_of after) n o (account n es) → Has after es
  moved-still s =
      kept before after es es n h m.config m.window (λ q le ne. omega (arith, le, m.begun)) others (λ q test. refl) line.stay line.back (line.once h.once) places
      (All-weaker (IsOfBegun (count_begun before)) (IsOfBegun (count_begun after)) same_begun es h.numbers) (m.asked ∙ h.asked) beyond (at_here (account n es) es refl s)

  -- and one thing happened to it
  pub moved : (e : Event) → is_general e ≡ false → number_of e ≡ n → Stands (config_of before) (window_of before) (queue_of after) n o (add_at (account n es).place (account n es) e) → Has after (es ++ e ∷ [])
  moved e plain same s =
      kept before after es (es ++ e ∷ []) n h m.config m.window (λ q le ne. omega (arith, le, m.begun)) others
      (λ q test. account-other q es e (ap (λ (x : ℕ). x == q) same ∙ test)) line.stay line.back (line.once h.once) places
      (All-push (IsOfBegun (count_begun after)) es e (All-weaker (IsOfBegun (count_begun before)) (IsOfBegun (count_begun after)) same_begun es h.numbers)
      (λ _. subst (λ x. (0 < x) × (x ≤ count_begun after)) (sym same) (some, omega (arith, within, m.begun))))
      (m.asked ∙ h.asked ∙ sym (awaits-same es e plain)) beyond
      (at_here (add_at (account n es).place (account n es) e) (es ++ e ∷ []) (account-same n es e same) s)

-- how it stood before
pub stood : (c : Clients) (es : List Event) (n : ℕ) (o : Option Held) → Has c es → 0 < n → n ≤ count_begun c → held_at c n ≡ o → Stands (config_of c) (window_of c) (queue_of c) n o (account n es)
stood c es n o h some within is = subst (λ o. Stands (config_of c) (window_of c) (queue_of c) n o (account n es)) is (h.stands n some within)

-- nothing moved
pub unmoved : (c : Clients) (n : ℕ) → MovesOne n (held_at c n) c c
unmoved c n = record { puts = λ q. unmoved_at q (n == q) refl; begun = refl; config = refl; window = refl; asked = refl }
  where
    unmoved_by : (q : ℕ) (b : Bool) → (n == q) ≡ b → held_at c q ≡ (if b then held_at c n else held_at c q)
    unmoved_by q true same = ap (held_at c) (sym (eqb-true n q same))
    unmoved_by q false other = refl

    unmoved_at : (q : ℕ) (b : Bool) → (n == q) ≡ b → held_at c q ≡ (if n == q then held_at c n else held_at c q)
    unmoved_at q b is = subst (λ t. held_at c q ≡ (if t then held_at c n else held_at c q)) (sym is) (unmoved_by q b is)

-- a connection that goes on no more stays so
pub none_moves : (before after : Clients) (n : ℕ) → held_at before n ≡ None → ((q : ℕ) → held_at after q ≡ held_at before q) → count_begun after ≡ count_begun before → config_of after ≡ config_of before
    → window_of after ≡ window_of before → asked_of after ≡ asked_of before → MovesOne n None before after
none_moves before after n none same begun_is config_is window_is asked_is = record { puts = λ q. at q (n == q) refl; begun = begun_is; config = config_is; window = window_is; asked = asked_is }
  where
    by : (q : ℕ) (b : Bool) → (n == q) ≡ b → held_at after q ≡ (if b then None else held_at before q)
    by q true is = same q ∙ ap (held_at before) (sym (eqb-true n q is)) ∙ none
    by q false is = same q

    at : (q : ℕ) (b : Bool) → (n == q) ≡ b → held_at after q ≡ (if n == q then None else held_at before q)
    at q b is = subst (λ t. held_at after q ≡ (if t then None else held_at before q)) (sym is) (by q b is)

-- nothing that is seen changed
pub alike_stays : (before after : Clients) → LooksAlike before after → StaysSo before after
alike_stays before after x = λ es h. record {
  pauses = ap (λ (c : Config). c.max_pending) x.config ∙ h.pauses;
  asked = x.asked ∙ h.asked;
  beyond = λ q above. x.held q ∙ h.beyond q (omega (arith, above, x.begun));
  numbers = All-weaker (IsOfBegun (count_begun before)) (IsOfBegun (count_begun after)) (λ e y plain. let z = y plain in (z.0, omega (arith, z.1, x.begun))) es h.numbers;
  places = subst (All (IsNumber (count_begun after))) (sym x.queue) (subst (λ b. All (IsNumber b) (queue_of before)) (sym x.begun) h.places);
  once = subst NoTwice (sym x.queue) h.once;
  stands = λ q some within. stands-same (config_of before) (config_of after) (window_of before) (window_of after) (queue_of after) q (held_at before q) (held_at after q) (account q es) (account q es) x.config x.window (x.held q) refl
      (elsewhere (config_of before) (window_of before) q (queue_of before) (queue_of after) (held_at before q) (account q es) (λ at. subst (λ l. Contains l q) (sym x.queue) at) (λ at. subst (λ l. Contains l q) x.queue at) (h.stands q some (omega (arith, within, x.begun))));
}

-- ---- what happens to no connection in particular

module _ (before : Clients) (es : List Event) (e : Event) (general : is_general e ≡ true) (h : Has before es) where
  numbers_then : All (IsOfBegun (count_begun before)) (es ++ e ∷ [])
  numbers_then = All-push (IsOfBegun (count_begun before)) es e h.numbers (λ plain. absurd (true≢false (sym general ∙ plain)))

  stands_then : (q : ℕ) → 0 < q → q ≤ count_begun before → Stands (config_of before) (window_of before) (queue_of before) q (held_at before q) (account q (es ++ e ∷ []))
  stands_then q some within = subst (Stands (config_of before) (window_of before) (queue_of before) q (held_at before q)) (sym (account-general q es e general some)) (h.stands q some within)

  -- only what was asked changed
  pub asks_then : (asked : Bool) → asked ≡ asks_after (awaits es) e → Has (record before { asked = asked }) (es ++ e ∷ [])
  asks_then asked is = record {
    pauses = h.pauses;
    asked = is ∙ sym (awaits-push es e);
    beyond = h.beyond;
    numbers = numbers_then;
    places = h.places;
    once = h.once;
    stands = stands_then;
  }

  -- only the windows opened
  pub closes_then : asks_after (awaits es) e ≡ awaits es → Has (record before { windows = closed_window (window_of before) }) (es ++ e ∷ [])
  closes_then same = record {
    pauses = h.pauses;
    asked = h.asked ∙ sym (awaits-push es e ∙ same);
    beyond = h.beyond;
    numbers = numbers_then;
    places = h.places;
    once = h.once;
    stands = λ q some within. opened (config_of before) (window_of before) q (queue_of before) (held_at before q) (account q (es ++ e ∷ [])) (stands_then q some within);
  }

-- nothing that is seen changed
pub word_then : (before after : Clients) (e : Event) → is_general e ≡ true → ((b : Bool) → asks_after b e ≡ b) → LooksAlike before after → Adds before after e
word_then before after e general same x = λ es h. let now = alike_stays before after x es h in record {
  pauses = now.pauses;
  asked = now.asked ∙ sym (awaits-push es e ∙ same (awaits es));
  beyond = now.beyond;
  numbers = numbers_then after es e general now;
  places = now.places;
  once = now.once;
  stands = stands_then after es e general now;
}

pub all_alike : (c : Clients) → LooksAlike c c
all_alike c = record { held = λ q. refl; begun = refl; config = refl; window = refl; asked = refl; queue = refl }
