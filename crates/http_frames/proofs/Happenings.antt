-- What lists of events say, one behind the other.
use Rattle.std.proofs.Common.{◌≡◌, ℕ, Bool, false, List, [], ◌∷◌, ◌++◌, Option, All, refl, sym, ap, ◌∙◌, subst, append_assoc, append-nil}
use Rattle.std.proofs.KnownBytes.{Appends-trans}
use Rattle.std.proofs.lemmas.Grind.{flat_map-append}
use Rattle.std.proofs.lemmas.List.Elements.{All-cons, All-head, All-nil, All-tail}
use Rattle.std.specs.Io.KnownBytes.{Appends}
use Rattle.http.specs.declared.request.Request.{Request}
use Rattle.http_server.specs.declared.response.Response.{Response}
use Rattle.http_frames.specs.declared.clients.Windows.{Windows}
use Rattle.http_frames.specs.ConnectionEvents.{Event, Came, Rejected, Took, Gone, Answered, Told, Granted, Awaited, Known, Ended, Clock, Free, From, Users, Late, Turned, Asked, Nothing, Touched, Closed, IsNoTick, IsOut, event_text}
use Rattle.http_frames.specs.TurnRuns.{AreSaid, EventDoes, InOrder, IsSaid, EventsLead, WritesUpTo, told_text, turn_in, turns_of, windows_after}

-- ---- the windows

pub windows-append : (w : Windows) (xs ys : List Event) → windows_after w (xs ++ ys) ≡ windows_after (windows_after w xs) ys
windows-append w [] ys = refl
windows-append w (e ∷ xs) ys = windows-append (windows_after w (e ∷ [])) xs ys

-- ---- the queue

pub in_order_then : (ts us q q1 q2 : List ℕ) → InOrder ts q q1 → InOrder us q1 q2 → InOrder (ts ++ us) q q2
in_order_then ts us q q1 q2 x y = (
  x.0 ++ y.0,
  append_assoc ts us q2 ∙ ap (λ (t : List ℕ). ts ++ t) y.1 ∙ sym (append_assoc ts q1 y.0) ∙ ap (λ (t : List ℕ). t ++ y.0) x.1 ∙ append_assoc q x.0 y.0,
)

-- ---- the input

pub said-append : (xs ys : List Event) (text text' : List ℕ) → AreSaid xs text → AreSaid ys text' → AreSaid (xs ++ ys) (text ++ text')
said-append [] ys text text' x y = rw x y
said-append (e ∷ xs) ys text text' x y =
    (x.0, x.1 ++ text', ap (λ (t : List ℕ). t ++ text') x.2 ∙ append_assoc x.0 x.1 text', x.3, said-append xs ys x.1 text' x.4 y)

pub one_said : (e : Event) (text : List ℕ) → IsSaid e text → AreSaid (e ∷ []) text
one_said e text x = (text, [], sym (append-nil text), x, refl)

-- ---- the output

pub up_to_then : (xs ys : List Event) (held held1 held2 : Option (List ℕ)) → Appends held held1 (told_text xs) → WritesUpTo ys held1 held2 → WritesUpTo (xs ++ ys) held held2
up_to_then xs ys held held1 held2 x y =
    (y.0, rw (flat_map-append event_text xs ys) (Appends-trans held held1 y.0 (told_text xs) (told_text ys) x y.1), y.2)

pub texts_then : (xs ys : List Event) (held held1 held2 : Option (List ℕ)) → Appends held held1 (told_text xs) → Appends held1 held2 (told_text ys) → Appends held held2 (told_text (xs ++ ys))
texts_then xs ys held held1 held2 x y = rw (flat_map-append event_text xs ys) (Appends-trans held held1 held2 (told_text xs) (told_text ys) x y)

-- ---- the service

module _ {S : Type 0} (begins : S → ℕ → S → Type 0) (answers : S → Request (List ℕ) → Response → S → Type 0) (clocked : S → ℕ → S → Type 0) (listed : S → List ℕ → S → Type 0) where
  pub leads-append : (xs ys : List Event) (s s1 s2 : S) → EventsLead begins answers clocked listed s xs s1 → EventsLead begins answers clocked listed s1 ys s2 → EventsLead begins answers clocked listed s (xs ++ ys) s2
  leads-append [] ys s s1 s2 x y = subst (λ (t : S). EventsLead begins answers clocked listed t ys s2) x y
  leads-append (e ∷ xs) ys s s1 s2 x y = (x.0, x.1, leads-append xs ys x.0 s1 s2 x.2 y)

  pub one_leads : (e : Event) (s s' : S) → EventDoes begins answers clocked listed e s s' → EventsLead begins answers clocked listed s (e ∷ []) s'
  one_leads e s s' x = (s', x, refl)

-- ---- what goes out

-- no turn is given, and no frame said it
pub record IsTelling (e : Event) : Type 0 where
  pub turn : turn_in e ≡ []
  pub said : IsSaid e []
  pub window : (w : Windows) → windows_after w (e ∷ []) ≡ w
  pub out : IsOut false e
  pub no_tick : IsNoTick e

pub telling : (closed : Bool) (e : Event) → IsOut closed e → IsTelling e
telling closed (Told n bytes) out = record { turn = refl; said = refl; window = λ w. refl; out = tt; no_tick = tt }
telling closed (Granted n count) out = record { turn = refl; said = refl; window = λ w. refl; out = refl; no_tick = tt }
telling closed (Awaited n part count) out = record { turn = refl; said = refl; window = λ w. refl; out = tt; no_tick = tt }
telling closed (Known n) out = record { turn = refl; said = refl; window = λ w. refl; out = tt; no_tick = tt }
telling closed (Ended n) out = record { turn = refl; said = refl; window = λ w. refl; out = tt; no_tick = tt }
telling closed (Came n bytes) out = absurd out
telling closed (Rejected n bytes) out = absurd out
telling closed (Took n count) out = absurd out
telling closed (Gone n) out = absurd out
telling closed (Answered n calls) out = absurd out
telling closed (Clock moment) out = absurd out
telling closed (Free count) out = absurd out
telling closed (From n address) out = absurd out
telling closed (Users file) out = absurd out
telling closed (Late n) out = absurd out
telling closed (Turned address count) out = absurd out
telling closed Asked out = absurd out
telling closed Nothing out = absurd out
telling closed Touched out = absurd out
telling closed Closed out = absurd out

pub told_said : (es : List Event) → All (IsOut false) es → AreSaid es []
told_said [] all = refl
told_said (e ∷ es) all = ([], [], refl, (telling false e (All-head (IsOut false) e es all)).said, told_said es (All-tail (IsOut false) e es all))

pub told_turns : (es : List Event) → All (IsOut false) es → turns_of es ≡ []
told_turns [] all = refl
told_turns (e ∷ es) all =
    ap (λ (t : List ℕ). t ++ turns_of es) (telling false e (All-head (IsOut false) e es all)).turn ∙ told_turns es (All-tail (IsOut false) e es all)

pub told_no_tick : (es : List Event) → All (IsOut false) es → All IsNoTick es
told_no_tick [] all = All-nil IsNoTick
told_no_tick (e ∷ es) all = All-cons IsNoTick e es (telling false e (All-head (IsOut false) e es all)).no_tick (told_no_tick es (All-tail (IsOut false) e es all))

module _ {S : Type 0} (begins : S → ℕ → S → Type 0) (answers : S → Request (List ℕ) → Response → S → Type 0) (clocked : S → ℕ → S → Type 0) (listed : S → List ℕ → S → Type 0) where
  told_does : (e : Event) (s : S) → IsOut false e → EventDoes begins answers clocked listed e s s
  told_does (Told n bytes) s out = refl
  told_does (Granted n count) s out = refl
  told_does (Awaited n part count) s out = refl
  told_does (Known n) s out = refl
  told_does (Ended n) s out = refl
  told_does (Came n bytes) s out = refl
  told_does (Rejected n bytes) s out = refl
  told_does (Took n count) s out = refl
  told_does (Gone n) s out = refl
  told_does (Answered n calls) s out = absurd out
  told_does (Clock moment) s out = absurd out
  told_does (Free count) s out = refl
  told_does (From n address) s out = refl
  told_does (Users file) s out = absurd out
  told_does (Late n) s out = refl
  told_does (Turned address count) s out = refl
  told_does Asked s out = refl
  told_does Nothing s out = refl
  told_does Touched s out = refl
  told_does Closed s out = refl

  -- nothing is done to the service meanwhile
  pub told_leads : (es : List Event) (s : S) → All (IsOut false) es → EventsLead begins answers clocked listed s es s
  told_leads [] s all = refl
  told_leads (e ∷ es) s all = (s, told_does e s (All-head (IsOut false) e es all), told_leads es s (All-tail (IsOut false) e es all))
