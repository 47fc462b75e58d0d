-- How what was told, written and read is put together.
use Rattle.std.proofs.Common.{◌≡◌, ℕ, List, [], ◌∷◌, ◌++◌, Option, false, codes, refl, sym, ◌∙◌, subst, append-nil}
use Rattle.std.proofs.KnownBytes.{Appends-kept, Appends-nil, Consumes-kept, Consumes-nil, Consumes-trans}
use Rattle.std.proofs.lemmas.List.Elements.{All-append, All-cons, All-nil}
use Rattle.std.specs.Io.KnownBytes.{Appends, Keeps}
use Rattle.http.specs.declared.request.Request.{Request}
use Rattle.http_server.specs.declared.response.Response.{Response}
use Rattle.http_frames.specs.declared.clients.Clients.{Clients}
use Rattle.http_frames.specs.Clients.{Adds, GivesTurn, Joins, StaysSo, TellsNext, config_of, queue_of, window_of}
use Rattle.http_frames.specs.ConnectionEvents.{Event, Answered, Asked, IsOut, event_text}
use Rattle.http_frames.specs.Frames.{BreaksOff}
use Rattle.http_frames.specs.TurnRuns.{Breaks, BreaksTold, EventDoes, InOrder, IsSaid, EventsLead, Moments, ServesFrames, TellsAll, WritesAnswers, told_text, turn_in, windows_after}
use Rattle.http_frames.proofs.Fronts.{kept_none, whole}
use Rattle.http_frames.proofs.Happenings.{leads-append, one_leads, one_said, said-append, telling, texts_then, told_leads, told_said, up_to_then}
use Rattle.http_frames.proofs.Moments.{joined, joins_line, none, one, same_line, still}

-- ---- what was told

module _ (c c1 c2 : Clients) (held held1 held2 : Option (List ℕ)) where
  pub told_then : TellsAll c c1 held held1 → TellsAll c1 c2 held1 held2 → TellsAll c c2 held held2
  told_then x y = (x.0 ++ y.0, joined c c1 c2 x.0 y.0 x.1 y.1, All-append (IsOut false) x.0 y.0 x.2 y.2, texts_then x.0 y.0 held held1 held2 x.3 y.3)

  pub told_then_breaks : TellsAll c c1 held held1 → BreaksTold c1 c2 held1 held2 → BreaksTold c c2 held held2
  told_then_breaks x y = (x.0 ++ y.0, joined c c1 c2 x.0 y.0 x.1 y.1, All-append (IsOut false) x.0 y.0 x.2 y.2, up_to_then x.0 y.0 held held1 held2 x.3 y.3)

pub told_none : (c : Clients) (held : Option (List ℕ)) → TellsAll c c held held
told_none c held = ([], none c, All-nil (IsOut false), Appends-nil held)

pub told_still : (c c' : Clients) (held : Option (List ℕ)) → StaysSo c c' → InOrder [] (queue_of c) (queue_of c') → config_of c' ≡ config_of c → window_of c' ≡ window_of c → TellsAll c c' held held
told_still c c' held stays line config window = ([], still c c' stays line config window, All-nil (IsOut false), Appends-nil held)

pub told_breaks_still : (c c' : Clients) (held holds : Option (List ℕ)) → StaysSo c c' → InOrder [] (queue_of c) (queue_of c') → config_of c' ≡ config_of c → window_of c' ≡ window_of c → BreaksOff held holds
    → BreaksTold c c' held holds
told_breaks_still c c' held holds stays line config window off = ([], still c c' stays line config window, All-nil (IsOut false), (held, Appends-nil held, off))

pub told_breaks : (c c' : Clients) (held holds : Option (List ℕ)) → TellsAll c c' held holds → BreaksTold c c' held holds
told_breaks c c' held holds x = (x.0, x.1, x.2, (holds, x.3, whole holds))

pub told_one : (n : ℕ) (c c' : Clients) (held holds : Option (List ℕ)) → TellsNext n c c' held holds → Joins n (queue_of c) (queue_of c') → config_of c' ≡ config_of c → window_of c' ≡ window_of c
    → TellsAll c c' held holds
told_one n c c' held holds t joins config window =
    let x = telling (window_of c).closed t.event t.out in (
      t.event ∷ [],
      one c c' t.event t.adds (subst (λ (ts : List ℕ). InOrder ts (queue_of c) (queue_of c')) (sym x.turn) (joins_line n c c' joins)) config (window ∙ sym (x.window (window_of c))),
      All-cons (IsOut false) t.event [] x.out (All-nil (IsOut false)),
      rw (append-nil (event_text t.event)) t.wrote,
    )

-- ---- what was written

module _ {S : Type 0} (begins : S → ℕ → S → Type 0) (answers : S → Request (List ℕ) → Response → S → Type 0) (clocked : S → ℕ → S → Type 0) (listed : S → List ℕ → S → Type 0) where
  pub wrote_none : (c : Clients) (s : S) (held : Option (List ℕ)) → WritesAnswers begins answers clocked listed c c s s held held
  wrote_none c s held = ([], none c, refl, refl, Appends-nil held)

  -- nobody waited for a turn
  pub wrote_still : (c c' : Clients) (s s' : S) (held holds : Option (List ℕ)) → StaysSo c c' → InOrder [] (queue_of c) (queue_of c') → config_of c' ≡ config_of c → window_of c' ≡ window_of c → s' ≡ s → Keeps held holds
      → WritesAnswers begins answers clocked listed c c' s s' held holds
  wrote_still c c' s s' held holds stays line config window same keeps = ([], still c c' stays line config window, same, refl, kept_none held holds keeps)

  pub breaks_none : (c : Clients) (s : S) (held holds : Option (List ℕ)) → BreaksOff held holds → Breaks begins answers clocked listed c c s s held holds
  breaks_none c s held holds off = ([], none c, refl, (held, Appends-nil held, off))

  -- what was told
  pub wrote_told : (c c' : Clients) (s : S) (held holds : Option (List ℕ)) → TellsAll c c' held holds → WritesAnswers begins answers clocked listed c c' s s held holds
  wrote_told c c' s held holds x = (x.0, x.1, told_leads begins answers clocked listed x.0 s x.2, told_said x.0 x.2, x.3)

  pub wrote_told_breaks : (c c' : Clients) (s : S) (held holds : Option (List ℕ)) → BreaksTold c c' held holds → Breaks begins answers clocked listed c c' s s held holds
  wrote_told_breaks c c' s held holds x = (x.0, x.1, told_leads begins answers clocked listed x.0 s x.2, x.3)

  -- one thing that no frame said
  pub wrote_one : (e : Event) (c c' : Clients) (s s' : S) (held holds : Option (List ℕ)) → Adds c c' e → InOrder (turn_in e) (queue_of c) (queue_of c') → config_of c' ≡ config_of c
      → window_of c' ≡ windows_after (window_of c) (e ∷ []) → EventDoes begins answers clocked listed e s s' → IsSaid e [] → Appends held holds (event_text e) → WritesAnswers begins answers clocked listed c c' s s' held holds
  wrote_one e c c' s s' held holds adds line config window does said wrote =
      (e ∷ [], one c c' e adds line config window, one_leads begins answers clocked listed e s s' does, one_said e [] said, rw (append-nil (event_text e)) wrote)

  -- a turn
  pub wrote_turn : (n : ℕ) (c c' : Clients) (s s' : S) (held : Option (List ℕ)) → GivesTurn begins answers n c c' s s' → queue_of c ≡ n ∷ queue_of c' → config_of c' ≡ config_of c → window_of c' ≡ window_of c
      → WritesAnswers begins answers clocked listed c c' s s' held held
  wrote_turn n c c' s s' held t first config window =
      wrote_one (Answered n t.calls) c c' s s' held held t.adds ([], sym first ∙ sym (append-nil (queue_of c))) config window t.turn refl (Appends-nil held)

  pub writes_breaks : (c c' : Clients) (s s' : S) (held holds : Option (List ℕ)) → WritesAnswers begins answers clocked listed c c' s s' held holds → Breaks begins answers clocked listed c c' s s' held holds
  writes_breaks c c' s s' held holds x = (x.0, x.1, x.2, (holds, x.4, whole holds))

  -- and nothing more was written
  pub wrote_kept : (c c' : Clients) (s s' : S) (held holds after : Option (List ℕ)) → WritesAnswers begins answers clocked listed c c' s s' held holds → Keeps holds after → WritesAnswers begins answers clocked listed c c' s s' held after
  wrote_kept c c' s s' held holds after x keeps = (x.0, x.1, x.2, x.3, Appends-kept held holds after (told_text x.0) x.4 keeps)

  pub wrote_breaks : (c c' : Clients) (s s' : S) (held holds after : Option (List ℕ)) → WritesAnswers begins answers clocked listed c c' s s' held holds → BreaksOff holds after → Breaks begins answers clocked listed c c' s s' held after
  wrote_breaks c c' s s' held holds after x off = (x.0, x.1, x.2, (holds, x.4, off))

  module _ (c c1 c2 : Clients) (s s1 s2 : S) where
    -- what happened, one after the other
    happened : (xs ys : List Event) → Moments xs c c1 → EventsLead begins answers clocked listed s xs s1 → Moments ys c1 c2 → EventsLead begins answers clocked listed s1 ys s2
        → (more : List Event) × Moments more c c2 × EventsLead begins answers clocked listed s more s2
    happened xs ys x p y q = (xs ++ ys, joined c c1 c2 xs ys x y, leads-append begins answers clocked listed xs ys s s1 s2 p q)

    pub wrote_then : (held held1 held2 : Option (List ℕ)) → WritesAnswers begins answers clocked listed c c1 s s1 held held1 → WritesAnswers begins answers clocked listed c1 c2 s1 s2 held1 held2 → WritesAnswers begins answers clocked listed c c2 s s2 held held2
    unfolding happened
    wrote_then held held1 held2 x y =
        let b = happened x.0 y.0 x.1 x.2 y.1 y.2 in
        (b.0, b.1, b.2, said-append x.0 y.0 [] [] x.3 y.3, texts_then x.0 y.0 held held1 held2 x.4 y.4)

    pub wrote_then_breaks : (held held1 held2 : Option (List ℕ)) → WritesAnswers begins answers clocked listed c c1 s s1 held held1 → Breaks begins answers clocked listed c1 c2 s1 s2 held1 held2 → Breaks begins answers clocked listed c c2 s s2 held held2
    unfolding happened
    wrote_then_breaks held held1 held2 x y =
        let b = happened x.0 y.0 x.1 x.2 y.1 y.2 in
        (b.0, b.1, b.2, up_to_then x.0 y.0 held held1 held2 x.4 y.3)

    -- frame after frame
    pub served_then : (input input1 input2 held held1 held2 : Option (List ℕ)) → ServesFrames begins answers clocked listed c c1 s s1 input input1 held held1
        → ServesFrames begins answers clocked listed c1 c2 s1 s2 input1 input2 held1 held2 → ServesFrames begins answers clocked listed c c2 s s2 input input2 held held2
    unfolding happened
    served_then input input1 input2 held held1 held2 x y =
        let b = happened x.0 y.0 x.1 x.2 y.1 y.2 in
        (b.0, b.1, b.2, (x.3.0 ++ y.3.0, said-append x.0 y.0 x.3.0 y.3.0 x.3.1 y.3.1, Consumes-trans input input1 input2 x.3.0 y.3.0 x.3.2 y.3.2), texts_then x.0 y.0 held held1 held2 x.4 y.4)

    pub served_then_breaks : (input input1 held held1 held2 : Option (List ℕ)) → ServesFrames begins answers clocked listed c c1 s s1 input input1 held held1 → Breaks begins answers clocked listed c1 c2 s1 s2 held1 held2
        → Breaks begins answers clocked listed c c2 s s2 held held2
    unfolding happened
    served_then_breaks input input1 held held1 held2 x y =
        let b = happened x.0 y.0 x.1 x.2 y.1 y.2 in
        (b.0, b.1, b.2, up_to_then x.0 y.0 held held1 held2 x.4 y.3)

  pub served_none : (c : Clients) (s : S) (input held : Option (List ℕ)) → ServesFrames begins answers clocked listed c c s s input input held held
  served_none c s input held = ([], none c, refl, ([], refl, Consumes-nil input), Appends-nil held)

  -- what was written, while nothing was read
  pub written_served : (c c' : Clients) (s s' : S) (input input' held holds : Option (List ℕ)) → WritesAnswers begins answers clocked listed c c' s s' held holds → Keeps input input' → ServesFrames begins answers clocked listed c c' s s' input input' held holds
  written_served c c' s s' input input' held holds x keeps = (x.0, x.1, x.2, ([], x.3, Consumes-kept input input input' [] (Consumes-nil input) keeps), x.4)

  pub serves_breaks : (c c' : Clients) (s s' : S) (input input' held holds : Option (List ℕ)) → ServesFrames begins answers clocked listed c c' s s' input input' held holds → Breaks begins answers clocked listed c c' s s' held holds
  serves_breaks c c' s s' input input' held holds x = (x.0, x.1, x.2, (holds, x.4, whole holds))

  -- `more` was asked
  pub wrote_ask : (c c' : Clients) (s : S) (held holds : Option (List ℕ)) → Adds c c' Asked → Appends held holds (codes "more\n") → queue_of c' ≡ queue_of c → config_of c' ≡ config_of c → window_of c' ≡ window_of c
      → WritesAnswers begins answers clocked listed c c' s s held holds
  wrote_ask c c' s held holds adds wrote queue config window = wrote_one Asked c c' s s held holds adds (same_line c c' queue) config window refl refl wrote

  -- nothing happened, and it failed there
  pub breaks_same : (c c' : Clients) (s : S) (held holds : Option (List ℕ)) → c' ≡ c → BreaksOff held holds → Breaks begins answers clocked listed c c' s s held holds
  breaks_same c c' s held holds same off = subst (λ (c' : Clients). Breaks begins answers clocked listed c c' s s held holds) (sym same) (breaks_none c s held holds off)
