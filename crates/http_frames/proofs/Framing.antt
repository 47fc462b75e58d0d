-- What happens by a frame.
use Rattle.std.proofs.Common.{◌≡◌, ◌⊎◌, ◌↔◌, ℕ, ◌+◌, ◌<◌, ◌≤◌, Bool, true, false, List, [], ◌∷◌, All, Option, Some, IfSome, IsTrue, Result, Ok, Err, IfOk, OnErr, codes, refl, sym, ◌∙◌, subst, append-nil, true≢false, inl, inr}
use Rattle.std.proofs.KnownBytes.{Appends-nil}
use Rattle.std.proofs.lemmas.List.Elements.{All-cons, All-nil}
use Rattle.std.specs.Io.KnownBytes.{Appends}
use Rattle.http.specs.declared.request.Request.{Request}
use Rattle.http_server.specs.declared.response.Response.{Response}
use Rattle.http_frames.specs.declared.clients.Clients.{Clients}
use Rattle.http_frames.specs.declared.held.Held.{Held}
use Rattle.http_frames.specs.declared.frames.Head.{Head}
use Rattle.http_frames.specs.declared.frames.Head.TheVariants as head
use Rattle.http_frames.specs.Clients.{Adds, Joins, StaysSo, Takes, asked_of, count_begun, config_of, held_at, queue_of, window_of}
use Rattle.http_frames.specs.ConnectionEvents.{Event, Came, Rejected, Took, Gone, Clock, Free, From, Users, Late, Turned, Nothing, Touched, IsNoTick, IsNumber, event_text}
use Rattle.http_frames.specs.Frames.{BreaksOff, IsFrame}
use Rattle.http_frames.specs.TurnRuns.{BreaksTold, EventDoes, InOrder, IsSaid, TellsAll, turn_in, turns_of, windows_after}
use Rattle.http_frames.specs.FrameSteps.{BreaksUnturned, IsWrongFor, TakesFrame}
use Rattle.http_frames.proofs.Ends.{taken_wrong, unasked}
use Rattle.http_frames.proofs.Happenings.{one_leads, one_said, told_leads, told_no_tick, told_said, told_turns}
use Rattle.http_frames.proofs.Moments.{clock_one, free_one, joined, late_one, turned_one, none as no_moments, touched_one, joins_line, one, same_line, still, users_one}

one_no_tick : (e : Event) → IsNoTick e → All IsNoTick (e ∷ [])
one_no_tick e no_tick = All-cons IsNoTick e [] no_tick (All-nil IsNoTick)

-- more was taken than was handed out, or of a connection that has not begun
pub untaken_frame : (h : Option Head) (n count : ℕ) (c : Clients) (r : Bool) → h ≡ Some (head.Taken n count) → IsTrue r ↔ (IsNumber (count_begun c) n × IfSome (held_at c n) (λ (k : Held). count ≤ k.ahead)) → r ≡ false → IsWrongFor c h
untaken_frame h n count c r is order none = subst (IsWrongFor c) (sym is) (taken_wrong c n count (λ fits. true≢false (sym (order.1 fits) ∙ none)))

-- the client of a connection that has not begun can't be too slow
pub unlate_frame : (h : Option Head) (n : ℕ) (c : Clients) → h ≡ Some (head.Late n) → ¬ (IsNumber (count_begun c) n) → IsWrongFor c h
unlate_frame h n c is not = subst (IsWrongFor c) (sym is) (λ events has. not)

module _ {S : Type 0} (begins : S → ℕ → S → Type 0) (answers : S → Request (List ℕ) → Response → S → Type 0) (clocked : S → ℕ → S → Type 0) (listed : S → List ℕ → S → Type 0) where
  -- one thing
  takes_one : (h : Option Head) (bytes : List ℕ) (e : Event) (c c' : Clients) (s s' : S) (held holds : Option (List ℕ)) → ((text : List ℕ) → IsFrame h bytes text → IsSaid e text) → Adds c c' e
      → InOrder (turn_in e) (queue_of c) (queue_of c') → config_of c' ≡ config_of c → window_of c' ≡ windows_after (window_of c) (e ∷ []) → EventDoes begins answers clocked listed e s s' → Appends held holds (event_text e)
      → turns_of (e ∷ []) ≡ [] → IsNoTick e → TakesFrame begins answers clocked listed true h bytes c c' s s' held holds
  takes_one h bytes e c c' s s' held holds says adds line config window does wrote plain no_tick = λ text frame.
      (e ∷ [], one c c' e adds line config window, one_leads begins answers clocked listed e s s' does, one_said e text (says text frame), rw (append-nil (event_text e)) wrote, plain, inr (one_no_tick e no_tick))

  -- nothing, since it is wrong
  refused : (h : Option Head) (bytes : List ℕ) (c c' : Clients) (s : S) (held holds : Option (List ℕ)) → c' ≡ c → holds ≡ held → IsWrongFor c h → TakesFrame begins answers clocked listed false h bytes c c' s s held holds
  refused h bytes c c' s held holds same kept wrong = (same, refl, kept, wrong)

  -- ---- bytes

  piece_taken : (n l : ℕ) (bytes : List ℕ) (c c' : Clients) (s : S) (held holds : Option (List ℕ)) → Takes n bytes c c' held holds → Joins n (queue_of c) (queue_of c') → config_of c' ≡ config_of c → window_of c' ≡ window_of c
      → TakesFrame begins answers clocked listed true (Some (head.Piece n l)) bytes c c' s s held holds
  piece_taken n l bytes c c' s held holds (inl x) joins config window =
      takes_one (Some (head.Piece n l)) bytes (Came n bytes) c c' s s held holds (λ text frame. frame) x.0 (joins_line n c c' joins) config window refl
      (subst (λ (t : Option (List ℕ)). Appends held t []) (sym x.1) (Appends-nil held)) refl tt
  piece_taken n l bytes c c' s held holds (inr x) joins config window =
      takes_one (Some (head.Piece n l)) bytes (Rejected n bytes) c c' s s held holds (λ text frame. frame) x.1 (joins_line n c c' joins) config window refl x.2 refl tt

  pub piece_frame : {E : Type 0} (r : Result Bool E) (h : Option Head) (n l : ℕ) (bytes : List ℕ) (c c' : Clients) (s : S) (held holds : Option (List ℕ)) → h ≡ Some (head.Piece n l)
      → IfOk r (λ taken. IsTrue taken ↔ ((0 < n) × (n ≤ count_begun c + 1))) → (r ≡ Ok true → Takes n bytes c c' held holds) → (r ≡ Ok false → (c' ≡ c) × (holds ≡ held)) → Joins n (queue_of c) (queue_of c')
      → config_of c' ≡ config_of c → window_of c' ≡ window_of c → IfOk r (λ right. TakesFrame begins answers clocked listed right h bytes c c' s s held holds)
  piece_frame (Ok true) h n l bytes c c' s held holds is order takes refuses joins config window =
      subst (λ (h : Option Head). TakesFrame begins answers clocked listed true h bytes c c' s s held holds) (sym is) (piece_taken n l bytes c c' s held holds (takes refl) joins config window)
  piece_frame (Ok false) h n l bytes c c' s held holds is order takes refuses joins config window =
      let x = refuses refl in
      refused h bytes c c' s held holds x.0 x.1 (subst (IsWrongFor c) (sym is) (λ events has number. true≢false (sym (order.1 number))))
  piece_frame (Err e) h n l bytes c c' s held holds is order takes refuses joins config window = tt

  pub piece_breaks : {A E : Type 0} (r : Result A E) (n : ℕ) (c c' : Clients) (s : S) (held holds : Option (List ℕ)) → OnErr r (StaysSo c c' ⊎ Adds c c' (Gone n)) → OnErr r (BreaksOff held holds) → Joins n (queue_of c) (queue_of c')
      → config_of c' ≡ config_of c → window_of c' ≡ window_of c → OnErr r (BreaksUnturned begins answers clocked listed c c' s s held holds)
  piece_breaks (Ok a) n c c' s held holds fails off joins config window = tt
  piece_breaks (Err e) n c c' s held holds (inl stays) off joins config window =
      ([], still c c' stays (joins_line n c c' joins) config window, refl, (held, Appends-nil held, off), refl, All-nil IsNoTick)
  piece_breaks (Err e) n c c' s held holds (inr adds) off joins config window =
      (Gone n ∷ [], one c c' (Gone n) adds (joins_line n c c' joins) config window, one_leads begins answers clocked listed (Gone n) s s refl, (held, Appends-nil held, off), refl, one_no_tick (Gone n) tt)

  -- ---- the client is gone

  pub gone_frame : (r : Bool) (h : Option Head) (n : ℕ) (bytes : List ℕ) (c c' : Clients) (s : S) (held : Option (List ℕ)) → h ≡ Some (head.Gone n) → IsTrue r ↔ IsNumber (count_begun c) n → (r ≡ true → Adds c c' (Gone n))
      → (r ≡ false → c' ≡ c) → queue_of c' ≡ queue_of c → config_of c' ≡ config_of c → window_of c' ≡ window_of c → TakesFrame begins answers clocked listed r h bytes c c' s s held held
  gone_frame true h n bytes c c' s held is order takes refuses queue config window =
      subst (λ (h : Option Head). TakesFrame begins answers clocked listed true h bytes c c' s s held held) (sym is)
      (takes_one (Some (head.Gone n)) bytes (Gone n) c c' s s held held (λ text frame. frame) (takes refl) (same_line c c' queue) config window refl (Appends-nil held) refl tt)
  gone_frame false h n bytes c c' s held is order takes refuses queue config window =
      refused h bytes c c' s held held (refuses refl) refl (subst (IsWrongFor c) (sym is) (λ events has number. true≢false (sym (order.1 number))))

  -- ---- nothing else has come

  pub nothing_frame : (r : Bool) (h : Option Head) (bytes : List ℕ) (c c' : Clients) (s : S) (held : Option (List ℕ)) → h ≡ Some head.Nothing → r ≡ asked_of c → (r ≡ true → Adds c c' Nothing) → (r ≡ false → c' ≡ c)
      → queue_of c' ≡ queue_of c → config_of c' ≡ config_of c → window_of c' ≡ window_of c → TakesFrame begins answers clocked listed r h bytes c c' s s held held
  nothing_frame true h bytes c c' s held is order takes refuses queue config window =
      subst (λ (h : Option Head). TakesFrame begins answers clocked listed true h bytes c c' s s held held) (sym is)
      (takes_one (Some head.Nothing) bytes Nothing c c' s s held held (λ text frame. frame) (takes refl) (same_line c c' queue) config window refl (Appends-nil held) refl tt)
  nothing_frame false h bytes c c' s held is order takes refuses queue config window =
      refused h bytes c c' s held held (refuses refl) refl (subst (IsWrongFor c) (sym is) (unasked c (sym order)))

  -- ---- the moment

  pub clock_frame : (h : Option Head) (m : ℕ) (bytes : List ℕ) (c : Clients) (s s' : S) (held : Option (List ℕ)) → h ≡ Some (head.Clock m) → clocked s m s' → TakesFrame begins answers clocked listed true h bytes c c s s' held held
  clock_frame h m bytes c s s' held is word =
      subst (λ (h : Option Head). TakesFrame begins answers clocked listed true h bytes c c s s' held held) (sym is)
      (λ text frame. (Clock m ∷ [], clock_one c m, one_leads begins answers clocked listed (Clock m) s s' word, one_said (Clock m) text frame, Appends-nil held, refl, inl tt))

  -- ---- what is free on the disk

  pub free_frame : (h : Option Head) (n : ℕ) (bytes : List ℕ) (c : Clients) (s : S) (held : Option (List ℕ)) → h ≡ Some (head.Free n) → TakesFrame begins answers clocked listed true h bytes c c s s held held
  free_frame h n bytes c s held is =
      subst (λ (h : Option Head). TakesFrame begins answers clocked listed true h bytes c c s s held held) (sym is)
      (λ text frame. (Free n ∷ [], free_one c n, one_leads begins answers clocked listed (Free n) s s refl, one_said (Free n) text frame, Appends-nil held, refl, inr (one_no_tick (Free n) tt)))

  -- ---- whether the file may still be written

  pub touch_frame : (h : Option Head) (bytes : List ℕ) (c : Clients) (s : S) (held holds : Option (List ℕ)) → h ≡ Some head.Touch → Appends held holds (codes "touched\n") → TakesFrame begins answers clocked listed true h bytes c c s s held holds
  touch_frame h bytes c s held holds is wrote =
      subst (λ (h : Option Head). TakesFrame begins answers clocked listed true h bytes c c s s held holds) (sym is)
      (λ text frame. (
        Touched ∷ [],
        touched_one c,
        one_leads begins answers clocked listed Touched s s refl,
        one_said Touched text frame,
        rw (append-nil (event_text Touched)) wrote,
        refl,
        inr (one_no_tick Touched tt),
      ))

  pub touch_breaks : (c : Clients) (s : S) (held holds : Option (List ℕ)) → BreaksOff held holds → BreaksUnturned begins answers clocked listed c c s s held holds
  touch_breaks c s held holds off = ([], no_moments c, refl, (held, Appends-nil held, off), refl, All-nil IsNoTick)

  -- ---- clients that were sent away

  pub late_frame : (h : Option Head) (n : ℕ) (bytes : List ℕ) (c : Clients) (s : S) (held : Option (List ℕ)) → h ≡ Some (head.Late n) → TakesFrame begins answers clocked listed true h bytes c c s s held held
  late_frame h n bytes c s held is =
      subst (λ (h : Option Head). TakesFrame begins answers clocked listed true h bytes c c s s held held) (sym is)
      (λ text frame. (Late n ∷ [], late_one c n, one_leads begins answers clocked listed (Late n) s s refl, one_said (Late n) text frame, Appends-nil held, refl, inr (one_no_tick (Late n) tt)))

  pub turned_frame : (h : Option Head) (count : ℕ) (bytes : List ℕ) (c : Clients) (s : S) (held : Option (List ℕ)) → h ≡ Some (head.Turned count) → TakesFrame begins answers clocked listed true h bytes c c s s held held
  turned_frame h count bytes c s held is =
      subst (λ (h : Option Head). TakesFrame begins answers clocked listed true h bytes c c s s held held) (sym is)
      (λ text frame. (
        Turned bytes count ∷ [],
        turned_one c bytes count,
        one_leads begins answers clocked listed (Turned bytes count) s s refl,
        one_said (Turned bytes count) text frame,
        Appends-nil held,
        refl,
        inr (one_no_tick (Turned bytes count) tt),
      ))

  -- ---- the users

  pub users_frame : (h : Option Head) (l : ℕ) (file : List ℕ) (c : Clients) (s s' : S) (held : Option (List ℕ)) → h ≡ Some (head.Users l) → listed s file s'
      → TakesFrame begins answers clocked listed true h file c c s s' held held
  users_frame h l file c s s' held is word =
      subst (λ (h : Option Head). TakesFrame begins answers clocked listed true h file c c s s' held held) (sym is)
      (λ text frame. (Users file ∷ [], users_one c file, one_leads begins answers clocked listed (Users file) s s' word, one_said (Users file) text frame, Appends-nil held, refl, inr (one_no_tick (Users file) tt)))

  -- ---- the address of the client of the next connection

  pub from_frame : (r : Bool) (h : Option Head) (n : ℕ) (address : List ℕ) (c c' : Clients) (s : S) (held : Option (List ℕ)) → h ≡ Some (head.From n) → IsTrue r ↔ (n ≡ count_begun c + 1) → (r ≡ true → Adds c c' (From n address))
      → (r ≡ false → c' ≡ c) → queue_of c' ≡ queue_of c → config_of c' ≡ config_of c → window_of c' ≡ window_of c → TakesFrame begins answers clocked listed r h address c c' s s held held
  from_frame true h n address c c' s held is order takes refuses queue config window =
      subst (λ (h : Option Head). TakesFrame begins answers clocked listed true h address c c' s s held held) (sym is)
      (takes_one (Some (head.From n)) address (From n address) c c' s s held held (λ text frame. frame) (takes refl) (same_line c c' queue) config window refl (Appends-nil held) refl tt)
  from_frame false h n address c c' s held is order takes refuses queue config window =
      refused h address c c' s held held (refuses refl) refl (subst (IsWrongFor c) (sym is) (λ events has next. true≢false (sym (order.1 next))))

  -- ---- the client has taken bytes

  module _ (h : Option Head) (n count : ℕ) (bytes : List ℕ) (c c1 c2 : Clients) (s : S) (held holds : Option (List ℕ)) (is : h ≡ Some (head.Taken n count)) (adds : Adds c c1 (Took n count)) (queue : queue_of c1 ≡ queue_of c)
      (config : config_of c1 ≡ config_of c) (window : window_of c1 ≡ window_of c) where
    pub taken_frame : TellsAll c1 c2 held holds → TakesFrame begins answers clocked listed true h bytes c c2 s s held holds
    taken_frame y =
        subst (λ (h : Option Head). TakesFrame begins answers clocked listed true h bytes c c2 s s held holds) (sym is) (λ text frame. (
          Took n count ∷ y.0,
          joined c c1 c2 (Took n count ∷ []) y.0 (one c c1 (Took n count) adds (same_line c c1 queue) config window) y.1,
          (s, refl, told_leads begins answers clocked listed y.0 s y.2),
          (text, [], sym (append-nil text), frame, told_said y.0 y.2),
          y.3,
          told_turns y.0 y.2,
          inr (All-cons IsNoTick (Took n count) y.0 tt (told_no_tick y.0 y.2)),
        ))

    pub taken_breaks : BreaksTold c1 c2 held holds → BreaksUnturned begins answers clocked listed c c2 s s held holds
    taken_breaks y = (
      Took n count ∷ y.0,
      joined c c1 c2 (Took n count ∷ []) y.0 (one c c1 (Took n count) adds (same_line c c1 queue) config window) y.1,
      (s, refl, told_leads begins answers clocked listed y.0 s y.2),
      y.3,
      told_turns y.0 y.2,
      All-cons IsNoTick (Took n count) y.0 tt (told_no_tick y.0 y.2),
    )
