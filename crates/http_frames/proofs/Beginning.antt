-- How a connection begins.
use Rattle.std.proofs.Common.{◌≡◌, ℕ, ◌+◌, Bool, List, [], ◌∷◌, ◌++◌, length, take, zero, suc, Some, None, All, Contains, if◌then◌else◌, refl, sym, ap, ◌∙◌, subst, arith, length-append, inl, inr, true≢false}
use Rattle.std.proofs.lemmas.Bool.{eq-eqb, ne_eqb}
use Rattle.std.proofs.lemmas.List.Elements.{All-contains, All-nil, All-push, All-weaker}
use Rattle.httparse.specs.Grammar.{print_request}
use Rattle.http1.specs.declared.conn.Limits.{Limits}
use Rattle.http1.specs.Message as Wire
use Rattle.http1.specs.Message.{ReadsRequests}
use Rattle.http_server.specs.declared.state.Config.{Config}
use Rattle.http_server.specs.Exchange.{ExpectsContinue}
use Rattle.http_server.specs.History.{IsServed, Rests, new_history}
use Rattle.http_server.proofs.MachineLemmas.{head_is_some}
use Rattle.http_frames.specs.declared.clients.Clients.{Clients}
use Rattle.http_frames.specs.declared.clients.Windows.{Windows}
use Rattle.http_frames.specs.Clients.{Alone, Stands, Has, NoTwice, count_begun, config_of, window_of, queue_of, held_at}
use Rattle.http_frames.specs.ConnectionEvents.{Event, Rejected, Stopped, IsIdle, new_account, account, add_at, IsNumber, IsOfBegun}
use Rattle.http_frames.specs.Private.Steps.{LooksAlike, BeginsFresh}
use Rattle.http_frames.proofs.Accounts.{account-none, account-same, account-other}
use Rattle.http_frames.proofs.Keeping.{awaits-same, kept}
use Rattle.http_frames.proofs.Standing.{turned_away}

-- of no bytes no request is read
no_request : (limits : Limits) (ms : List Wire.Request) (rest : List ℕ) → ReadsRequests limits [] ms rest → (ms ≡ []) × (rest ≡ [])
no_request limits [] rest x = (refl, sym x)
no_request limits (m ∷ ms) rest x =
    absurd (omega (arith, head_is_some m.head, ap length x.1.head.reads.1, length-append (print_request m.head) x.1.after_head))

no_wait : (limits : Limits) (rest : List ℕ) → rest ≡ [] → ¬ (ExpectsContinue limits rest)
no_wait limits rest none x =
    absurd (omega (arith, head_is_some x.0, ap length (sym none ∙ x.3.reads.1), length-append (print_request x.0) x.2))

take_none : (n : ℕ) → take {A = ℕ} n [] ≡ []
take_none zero = refl
take_none (suc n) = refl

pub new_rests : (config : Config) → Rests config new_history
new_rests config = λ is_open room. (
  refl,
  λ ms rest x. omega (arith, ap length (no_request config.limits ms rest x).0),
  λ ms rest x same waits. absurd (no_wait config.limits rest (no_request config.limits ms rest x).1 waits),
)

pub new_served : (config : Config) → IsServed config new_history
new_served config = record {
  answered = [];
  text = [];
  rest = [];
  serves = (refl, refl);
  interim = [];
  is_interim = inl refl;
  stands = (refl, refl);
}

-- a connection to which nothing happened
pub new_alone : (config : Config) (window : Windows) → Alone config window new_account
new_alone config window = record {
  history = new_history;
  served = ∣ new_served config ∣₁;
  calls = refl;
  sent = refl;
  taken = omega arith;
  within = λ goes_on. omega arith;
  rest = [];
  received = refl;
  whole = λ is_open. (refl, refl);
  ended = λ yes. yes;
  intake = omega arith;
  granted = omega arith;
  answered = λ ms rest x. omega (arith, ap length (no_request config.limits ms rest x).0);
  counted = refl;
  over = λ is. cc;
  late = All-nil IsIdle;
}

-- a new connection joins the others
module _ (number : ℕ) (before after : Clients) (es : List Event) (h : Has before es) (next : number ≡ count_begun before + 1) (b : BeginsFresh number before after) where
  itself : held_at after number ≡ Some b.new
  itself = b.puts number ∙ ap (λ (t : Bool). if t then Some b.new else held_at before number) (eq-eqb number number refl)

  fresh : Stands (config_of after) (window_of after) (queue_of after) number (Some b.new) new_account
  unfolding new_alone
  fresh = (
    new_alone (config_of after) (window_of after),
    record {
      config_is = b.settings ∙ sym b.config;
      history_is = b.history;
      going = refl;
      ended = b.unended;
      ahead = omega (arith, b.ahead);
      room = λ goes_on. omega (arith, b.ahead);
      heard = sym b.heard;
      behind = omega (arith, b.behind);
      fits = omega (arith, b.behind);
      due = omega (arith, b.due);
      answered = λ ms rest x. omega (arith, ap length (no_request (config_of after).limits ms rest (subst (λ (t : List ℕ). ReadsRequests (config_of after).limits t ms rest) (take_none (0 + b.new.due)) x)).0);
      queued = λ is. absurd (true≢false (sym is ∙ b.unqueued));
      unqueued = λ is at. omega (arith, next, (All-contains (IsNumber (count_begun before)) (queue_of before) number h.places (subst (λ l. Contains l number) b.queue at)).1);
      waits = inr (new_rests (config_of after));
    },
  )

  pub new_has : Has after es
  new_has =
      kept before after es es number h b.config b.window (λ q le ne. omega (arith, le, ne, next, b.begins))
      (λ q test. b.puts q ∙ ap (λ (t : Bool). if t then Some b.new else held_at before q) test) (λ q test. refl) (λ q test at. subst (λ l. Contains l q) (sym b.queue) at) (λ q test at. subst (λ l. Contains l q) b.queue at) (subst NoTwice (sym b.queue) h.once)
      (subst (All (IsNumber (count_begun after))) (sym b.queue) (All-weaker (IsNumber (count_begun before)) (IsNumber (count_begun after)) (λ q x. (x.0, omega (arith, x.1, next, b.begins))) (queue_of before) h.places))
      (All-weaker (IsOfBegun (count_begun before)) (IsOfBegun (count_begun after)) (λ e x plain. let y = x plain in (y.0, omega (arith, y.1, next, b.begins))) es h.numbers)
      (b.asked ∙ h.asked)
      (λ q above. b.puts q ∙ ap (λ (t : Bool). if t then Some b.new else held_at before q) (ne_eqb number q (λ same. omega (arith, same, above, b.begins))) ∙ h.beyond q (omega (arith, above, next, b.begins)))
      (rw (itself, account-none number (count_begun before) es (omega (arith, next)) h.numbers) fresh)

-- one for which there is no memory: it begins, and is ended at once
module _ (number : ℕ) (before after : Clients) (es : List Event) (bytes : List ℕ) (h : Has before es) (next : number ≡ count_begun before + 1) (b : LooksAlike before after) where
  away : Stands (config_of after) (window_of after) (queue_of after) number None (account number (es ++ Rejected number bytes ∷ []))
  away =
      subst (Stands (config_of after) (window_of after) (queue_of after) number None)
      (sym (account-same number es (Rejected number bytes) refl ∙ ap (λ a. add_at a.place a (Rejected number bytes)) (account-none number (count_begun before) es (omega (arith, next)) h.numbers)))
      (turned_away (config_of after) (window_of after) number (queue_of after) (Rejected number bytes) Stopped refl (λ is. cc) (λ is. cc) (new_alone (config_of after) (window_of after)))

  pub away_has : Has (record after { begun = number }) (es ++ Rejected number bytes ∷ [])
  away_has =
      kept before (record after { begun = number }) es (es ++ Rejected number bytes ∷ []) number h b.config b.window (λ q le ne. omega (arith, le, ne, next))
      (λ q test. b.held q) (λ q test. account-other q es (Rejected number bytes) test) (λ q test at. subst (λ l. Contains l q) (sym b.queue) at) (λ q test at. subst (λ l. Contains l q) b.queue at) (subst NoTwice (sym b.queue) h.once)
      (subst (All (IsNumber number)) (sym b.queue) (All-weaker (IsNumber (count_begun before)) (IsNumber number) (λ q x. (x.0, omega (arith, x.1, next))) (queue_of before) h.places))
      (All-push (IsOfBegun number) es (Rejected number bytes) (All-weaker (IsOfBegun (count_begun before)) (IsOfBegun number) (λ e x plain. let y = x plain in (y.0, omega (arith, y.1, next))) es h.numbers) (λ plain. (omega (arith, next), omega arith)))
      (b.asked ∙ h.asked ∙ sym (awaits-same es (Rejected number bytes) refl))
      (λ q above. b.held q ∙ h.beyond q (omega (arith, above, next)))
      (subst (λ o. Stands (config_of after) (window_of after) (queue_of after) number o (account number (es ++ Rejected number bytes ∷ []))) (sym (b.held number ∙ h.beyond number (omega (arith, next)))) away)
