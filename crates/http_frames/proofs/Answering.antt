-- How one connection stands after bytes of it came, after its turn, and after a piece or its end went out to it.
use Rattle.std.proofs.Common.{◌≡◌, ◌≢◌, ℕ, ◌+◌, ◌≤◌, Bool, true, false, List, [], ◌++◌, Option, Some, None, Contains, length, take, if◌then◌else◌, ◌==◌, refl, sym, ap, ◌∙◌, subst, arith, append_assoc, append-nil, length-append, length-take-le, inl, inr, true≢false}
use Rattle.std.proofs.lemmas.Bool.{ne_eqb}
use Rattle.std.proofs.lemmas.List.{nil_from_length}
use Rattle.http.specs.declared.request.Request.{Request}
use Rattle.http_server.specs.declared.response.Response.{Response}
use Rattle.http_server.specs.declared.state.Config.{Config}
use Rattle.http_server.specs.declared.state.State.TheVariants.{Open}
use Rattle.http_server.specs.Connection.{config_of as connection_config}
use Rattle.http_server.specs.Exchange.{Call}
use Rattle.http_server.specs.History.{History, Rests, IsDone, after_read, after_sent}
use Rattle.http_frames.specs.declared.held.Held.{Held}
use Rattle.http_frames.specs.declared.clients.Windows.{Windows}
use Rattle.http_frames.specs.Clients.{AreAnswered, Stands, history_of}
use Rattle.http_frames.specs.ConnectionEvents.{Account, Came, Answered, Told, add_came, add_told, add_at}
use Rattle.http_frames.specs.Private.Steps.{IsDeaf, Hears, Steps, Sends}
use Rattle.http_frames.proofs.Accounts.{at_going}
use Rattle.http_frames.proofs.Places.{not_over}
use Rattle.http_frames.proofs.Standing.{same_answered, called_answered, more_answered, all_answered, served}

module _ (config : Config) (window : Windows) (n : ℕ) where
  -- ---- bytes of it came

  -- they were received
  heard-by : (queue queue' : List ℕ) (k k' : Held) (a : Account) (bytes : List ℕ) → Hears window.into n bytes k k' queue queue' → (s : Stands config window queue n (Some k) a) → a.ended ≡ false
      → Stands config window queue' n (Some k') (add_came false a bytes)
  heard-by queue queue' k k' a bytes w s unended =
      let is_open : s.0.history.state ≡ Open = ap (λ (h : History). h.state) (sym s.1.history_is) ∙ w.open_is in
      let was = s.0.whole is_open in
      let now : history_of k' ≡ after_read s.0.history bytes = w.reads.history ∙ ap (λ (h : History). after_read h bytes) s.1.history_is in
      let config_is : connection_config k'.connection ≡ config = w.reads.config ∙ s.1.config_is in
      let h_unended : s.0.history.ended ≡ false = was.1 ∙ unended in
      let ended_is : (history_of k').ended ≡ (length bytes == 0) = ap (λ (h : History). h.ended) now ∙ ap (λ (b : Bool). if b then b else length bytes == 0) h_unended in
      let grown : length (history_of k').received ≡ a.granted + k'.behind =
      omega (arith, ap (λ (h : History). length h.received) now, length-append s.0.history.received bytes, s.1.behind, w.behind) in
      let at = w.is_in s.1.queued in (
        record {
          history = history_of k';
          served = served config window n k' config_is;
          calls = ap (λ (h : History). h.calls) now ∙ s.0.calls;
          sent = ap (λ (h : History). h.sent) now ∙ s.0.sent;
          taken = s.0.taken;
          within = s.0.within;
          rest = [];
          received = ap (λ (t : List ℕ). t ++ bytes) (s.0.received ∙ ap (λ (t : List ℕ). s.0.history.received ++ t) was.0 ∙ append-nil _) ∙ sym (ap (λ (h : History). h.received) now) ∙ sym (append-nil _);
          whole = λ open_now. (refl, ended_is);
          ended = λ yes. sym ended_is ∙ yes;
          intake = omega (arith, grown, w.fits);
          granted = omega (arith, grown);
          answered = more_answered config.limits a.granted s.0.history (history_of k') bytes [] s.0.granted (ap (λ (h : History). h.received) now) (ap (λ (h : History). h.calls) now ∙ sym (append-nil _)) s.0.answered;
          counted = s.0.counted;
          over = λ is. let going = s.1.going in cc;
          late = s.0.late;
        },
        record {
          config_is = config_is;
          history_is = refl;
          going = s.1.going;
          ended = w.ended ∙ sym ended_is;
          ahead = rw w.ahead s.1.ahead;
          room = rw w.ahead s.1.room;
          heard = omega (arith, ap (λ (h : History). length h.received) now, length-append s.0.history.received bytes, s.1.heard, w.heard);
          behind = grown;
          fits = w.fits;
          due = omega (arith, w.due, w.behind, s.1.due);
          answered = subst (λ (m : ℕ). AreAnswered config.limits (a.granted + m) (history_of k')) (sym w.due)
              (more_answered config.limits (a.granted + k.due) s.0.history (history_of k') bytes [] (omega (arith, s.1.due, s.1.behind)) (ap (λ (h : History). h.received) now) (ap (λ (h : History). h.calls) now ∙ sym (append-nil _)) s.1.answered);
          queued = λ is. at;
          unqueued = λ is. absurd (true≢false (sym w.queued ∙ is));
          waits = inl at;
        },
      )

  pub heard : (queue queue' : List ℕ) (k k' : Held) (a : Account) (bytes : List ℕ) → Hears window.into n bytes k k' queue queue' → Stands config window queue n (Some k) a
      → Stands config window queue' n (Some k') (add_at a.place a (Came n bytes))
  heard queue queue' k k' a bytes w s =
      let is_open : s.0.history.state ≡ Open = ap (λ (h : History). h.state) (sym s.1.history_is) ∙ w.open_is in
      let unended : a.ended ≡ false = sym (s.0.whole is_open).1 ∙ sym s.1.ended ∙ w.unended in
      subst (Stands config window queue' n (Some k')) (sym (at_going a (Came n bytes) s.1.going ∙ ap (λ (b : Bool). add_came b a bytes) unended)) (heard-by queue queue' k k' a bytes w s unended)

  -- they were dropped
  dropped-by : (queue : List ℕ) (k : Held) (a : Account) (bytes : List ℕ) (b : Bool) → IsDeaf k → (s : Stands config window queue n (Some k) a) → a.ended ≡ b
      → Stands config window queue n (Some k) (add_came b a bytes)
  dropped-by queue k a bytes true deaf s is = s
  dropped-by queue k a bytes false deaf s is =
      let closed : s.0.history.state ≢ Open = elim deaf [
        | inl ended ↦ λ is_open. absurd (true≢false (sym ended ∙ s.1.ended ∙ (s.0.whole is_open).1 ∙ is))
        | inr closed ↦ λ is_open. closed (ap (λ (h : History). h.state) s.1.history_is ∙ is_open)
      ] in (
        record {
          history = s.0.history;
          served = s.0.served;
          calls = s.0.calls;
          sent = s.0.sent;
          taken = s.0.taken;
          within = s.0.within;
          rest = s.0.rest ++ bytes;
          received = ap (λ (t : List ℕ). t ++ bytes) s.0.received ∙ append_assoc s.0.history.received s.0.rest bytes;
          whole = λ is_open. absurd (closed is_open);
          ended = λ yes. absurd (true≢false (sym (s.0.ended yes) ∙ is));
          intake = s.0.intake;
          granted = s.0.granted;
          answered = s.0.answered;
          counted = s.0.counted;
          over = s.0.over;
          late = s.0.late;
        },
        record {
          config_is = s.1.config_is;
          history_is = s.1.history_is;
          going = s.1.going;
          ended = s.1.ended;
          ahead = s.1.ahead;
          room = s.1.room;
          heard = s.1.heard;
          behind = s.1.behind;
          fits = s.1.fits;
          due = s.1.due;
          answered = s.1.answered;
          queued = s.1.queued;
          unqueued = s.1.unqueued;
          waits = s.1.waits;
        },
      )

  pub dropped : (queue : List ℕ) (k : Held) (a : Account) (bytes : List ℕ) → IsDeaf k → Stands config window queue n (Some k) a
      → Stands config window queue n (Some k) (add_at a.place a (Came n bytes))
  dropped queue k a bytes deaf s = subst (Stands config window queue n (Some k)) (sym (at_going a (Came n bytes) s.1.going)) (dropped-by queue k a bytes a.ended deaf s refl)

  -- ---- a piece went out to it

  pub told : (queue queue' : List ℕ) (k k' : Held) (a : Account) (held holds : Option (List ℕ)) (w : Sends n window k k' queue queue' held holds) → Stands config window queue n (Some k) a
      → Stands config window queue' n (Some k') (add_at a.place a (Told n (take w.count (history_of k).pending)))
  told queue queue' k k' a held holds w s =
      let piece = take w.count (history_of k).pending in
      let long : length piece ≡ w.count = length-take-le w.count (history_of k).pending w.within in
      let full : (length piece == 0) ≡ false = ne_eqb (length piece) 0 (λ none. omega (arith, none, long, w.some)) in
      let now : history_of k' ≡ after_sent s.0.history w.count = w.history ∙ ap (λ (h : History). after_sent h w.count) s.1.history_is in
      let received : (history_of k').received ≡ s.0.history.received = ap (λ (h : History). h.received) now in
      let calls : (history_of k').calls ≡ s.0.history.calls = ap (λ (h : History). h.calls) now in
      let same : piece ≡ take w.count s.0.history.pending = ap (λ (h : History). take w.count h.pending) s.1.history_is in
      let config_is : connection_config k'.connection ≡ config = w.config ∙ s.1.config_is in
      let at = w.is_in s.1.queued in
      let longer : length (a.went ++ piece) ≡ length a.went + w.count = length-append a.went piece ∙ ap (λ (m : ℕ). length a.went + m) long in
      let ahead : length (a.went ++ piece) ≡ a.took + k'.ahead = omega (arith, longer, s.1.ahead, w.ahead) in
      subst (Stands config window queue' n (Some k')) (sym (at_going a (Told n piece) s.1.going ∙ ap (λ (b : Bool). add_told b a piece) full)) (
        record {
          history = history_of k';
          served = served config window n k' config_is;
          calls = ap (λ (h : History). h.calls) now ∙ s.0.calls;
          sent = ap (λ (h : History). h.sent) now ∙ ap (λ (t : List ℕ). s.0.history.sent ++ t) (sym same) ∙ ap (λ (t : List ℕ). t ++ piece) s.0.sent;
          taken = omega (arith, longer, s.0.taken);
          within = λ goes_on. let room = w.room goes_on in omega (arith, ahead, room);
          rest = s.0.rest;
          received = s.0.received ∙ ap (λ (t : List ℕ). t ++ s.0.rest) (sym (ap (λ (h : History). h.received) now));
          whole = λ is_open. let was = s.0.whole (sym (ap (λ (h : History). h.state) now) ∙ is_open) in (was.0, ap (λ (h : History). h.ended) now ∙ was.1);
          ended = λ yes. s.0.ended (sym (ap (λ (h : History). h.ended) now) ∙ yes);
          intake = subst (λ (t : List ℕ). length t ≤ a.granted + window.into) (sym received) s.0.intake;
          granted = subst (λ (t : List ℕ). a.granted ≤ length t) (sym received) s.0.granted;
          answered = same_answered config.limits a.granted s.0.history (history_of k') received calls s.0.answered;
          counted = s.0.counted;
          over = λ is. let going = s.1.going in cc;
          late = s.0.late;
        },
        record {
          config_is = config_is;
          history_is = refl;
          going = s.1.going;
          ended = w.ended ∙ s.1.ended ∙ sym (ap (λ (h : History). h.ended) now);
          ahead = ahead;
          room = w.room;
          heard = ap (λ (t : List ℕ). length t) received ∙ s.1.heard ∙ sym w.heard;
          behind = ap (λ (t : List ℕ). length t) received ∙ s.1.behind ∙ ap (λ (m : ℕ). a.granted + m) (sym w.behind);
          fits = rw w.behind s.1.fits;
          due = rw (w.due, w.behind) s.1.due;
          answered = subst (λ (m : ℕ). AreAnswered config.limits (a.granted + m) (history_of k')) (sym w.due) (same_answered config.limits (a.granted + k.due) s.0.history (history_of k') received calls s.1.answered);
          queued = λ is. at;
          unqueued = λ is. absurd (true≢false (sym w.queued ∙ is));
          waits = inl at;
        },
      )

  -- ---- its end was told

  pub over : (queue : List ℕ) (k : Held) (a : Account) → IsDone (history_of k) → Stands config window queue n (Some k) a → Stands config window queue n None (add_at a.place a (Told n []))
  over queue k a done s =
      subst (Stands config window queue n None) (sym (at_going a (Told n []) s.1.going)) (
        record {
          history = s.0.history;
          served = s.0.served;
          calls = s.0.calls;
          sent = s.0.sent;
          taken = s.0.taken;
          within = s.0.within;
          rest = s.0.rest;
          received = s.0.received;
          whole = s.0.whole;
          ended = s.0.ended;
          intake = s.0.intake;
          granted = s.0.granted;
          answered = s.0.answered;
          counted = s.0.counted;
          over = λ is. subst (λ (h : History). (h.state ≢ Open) × (h.pending ≡ [])) s.1.history_is (done.0, nil_from_length _ done.1);
          late = s.0.late;
        },
        λ is. cc,
      )

  -- ---- it had its turn

  module _ {S : Type 0} (begins : S → ℕ → S → Type 0) (answers : S → Request (List ℕ) → Response → S → Type 0) where
    pub answered : (queue queue' : List ℕ) (k k' : Held) (a : Account) (s0 s1 : S) (w : Steps begins answers n k k' s0 s1) → config.max_pending ≡ 0 → (Contains queue' n → ⊥) → Stands config window queue n (Some k) a
        → Stands config window queue' n (Some k') (add_at a.place a (Answered n w.calls))
    answered queue queue' k k' a s0 s1 w pauses out s =
        let h = s.0.history in
        let quiet : ((history_of k').received ≡ h.received) × ((history_of k').ended ≡ h.ended) × ((history_of k').sent ≡ h.sent) = (
          w.quiet.0 ∙ ap (λ (h : History). h.received) s.1.history_is,
          w.quiet.1 ∙ ap (λ (h : History). h.ended) s.1.history_is,
          w.quiet.2 ∙ ap (λ (h : History). h.sent) s.1.history_is,
        ) in
        let config_is : connection_config k'.connection ≡ config = w.config ∙ s.1.config_is in
        let opened : (history_of k').state ≡ Open → h.state ≡ Open =
        λ is. ap (λ (h : History). h.state) (sym s.1.history_is) ∙ not_over (history_of k).state (λ closed. closed (ap (λ (h : History). h.state) (sym (w.settled closed)) ∙ is)) in
        let made : (history_of k').calls ≡ h.calls ++ w.calls = w.made ∙ ap (λ (cs : List Call). cs ++ w.calls) (ap (λ (h : History). h.calls) s.1.history_is) in
        let behind : length (history_of k').received ≡ a.granted + k'.behind = ap (λ (t : List ℕ). length t) quiet.0 ∙ s.1.behind ∙ ap (λ (m : ℕ). a.granted + m) (sym w.behind) in
        let rests = w.rests (ap (λ (c : Config). c.max_pending) s.1.config_is ∙ pauses) in
        subst (Stands config window queue' n (Some k')) (sym (at_going a (Answered n w.calls) s.1.going)) (
          record {
            history = history_of k';
            served = served config window n k' config_is;
            calls = w.made ∙ ap (λ (cs : List Call). cs ++ w.calls) (ap (λ (h : History). h.calls) s.1.history_is ∙ s.0.calls);
            sent = quiet.2 ∙ s.0.sent;
            taken = s.0.taken;
            within = s.0.within;
            rest = s.0.rest;
            received = s.0.received ∙ ap (λ (t : List ℕ). t ++ s.0.rest) (sym quiet.0);
            whole = λ is_open. let was = s.0.whole (opened is_open) in (was.0, quiet.1 ∙ was.1);
            ended = λ yes. s.0.ended (sym quiet.1 ∙ yes);
            intake = subst (λ (t : List ℕ). length t ≤ a.granted + window.into) (sym quiet.0) s.0.intake;
            granted = subst (λ (t : List ℕ). a.granted ≤ length t) (sym quiet.0) s.0.granted;
            answered = called_answered config.limits a.granted h (history_of k') w.calls quiet.0 made s.0.answered;
            counted = s.0.counted;
            over = λ is. let going = s.1.going in cc;
            late = s.0.late;
          },
          record {
            config_is = config_is;
            history_is = refl;
            going = s.1.going;
            ended = w.ended ∙ s.1.ended ∙ sym quiet.1;
            ahead = rw w.ahead s.1.ahead;
            room = rw w.ahead s.1.room;
            heard = ap (λ (t : List ℕ). length t) quiet.0 ∙ s.1.heard ∙ sym w.heard;
            behind = behind;
            fits = rw w.behind s.1.fits;
            due = elim w.due [ inl same ↦ omega (arith, same, w.behind, s.1.due) | inr all ↦ omega (arith, all.0, w.behind) ];
            answered = elim w.due [
              | inl same ↦ subst (λ (m : ℕ). AreAnswered config.limits (a.granted + m) (history_of k')) (sym same) (called_answered config.limits (a.granted + k.due) h (history_of k') w.calls quiet.0 made s.1.answered)
              | inr all ↦ all_answered config (a.granted + k'.due) (history_of k') (omega (arith, behind, all.0, w.behind)) (subst (λ (c : Config). Rests c (history_of k')) config_is rests) all.1 all.2
            ];
            queued = λ is. absurd (true≢false (sym is ∙ w.unqueued));
            unqueued = λ is. out;
            waits = inr (subst (λ (c : Config). Rests c (history_of k')) config_is rests);
          },
        )
