-- Events that are turns alone, and events that are none.
use Rattle.std.proofs.Common.{◌≡◌, ℕ, List, [], ◌∷◌, ◌++◌, All, refl, sym, ap, ◌∙◌, subst}
use Rattle.std.proofs.lemmas.List.Elements.{All-head, All-tail}
use Rattle.http.specs.declared.request.Request.{Request}
use Rattle.http_server.specs.declared.response.Response.{Response}
use Rattle.http_frames.specs.ConnectionEvents.{Event, Answered, Clock, Users, event_text, number_of}
use Rattle.http_frames.specs.TurnRuns.{AreSaid, EventDoes, EventsLead, IsSaid, told_text, turn_in, turns_of}
use Rattle.kept_frames.specs.KeptMoments.{IsTurn}

-- it is a turn: nothing is told, and no frame said it
record Silent (e : Event) : Type 0 where
  told : event_text e ≡ []
  said : IsSaid e []
  turn : turn_in e ≡ number_of e ∷ []

silent : (e : Event) → IsTurn e → Silent e
silent (Answered number calls) turn = record { told = refl; said = refl; turn = refl }
silent _ turn = absurd turn

pub turns_told : (es : List Event) → All IsTurn es → told_text es ≡ []
turns_told [] all = refl
turns_told (e ∷ es) all = ap (λ (t : List ℕ). t ++ told_text es) (silent e (All-head IsTurn e es all)).told ∙ turns_told es (All-tail IsTurn e es all)

pub turns_said : (es : List Event) → All IsTurn es → AreSaid es []
turns_said [] all = refl
turns_said (e ∷ es) all = ([], [], refl, (silent e (All-head IsTurn e es all)).said, turns_said es (All-tail IsTurn e es all))

-- where nobody had a turn, there are none
pub turns_none : (es : List Event) → All IsTurn es → turns_of es ≡ [] → es ≡ []
turns_none [] all none = refl
turns_none (e ∷ es) all none =
    let some : number_of e ∷ turns_of es ≡ [] = ap (λ (t : List ℕ). t ++ turns_of es) (sym (silent e (All-head IsTurn e es all)).turn) ∙ none in
    absurd (cc)

-- ---- no turns

first_none : (xs ys : List ℕ) → xs ++ ys ≡ [] → xs ≡ []
first_none [] ys none = refl
first_none (x ∷ xs) ys none = absurd (cc)

last_none : (xs ys : List ℕ) → xs ++ ys ≡ [] → ys ≡ []
last_none [] ys none = none
last_none (x ∷ xs) ys none = absurd (cc)

module _ {S : Type 0} (begins : S → ℕ → S → Type 0) (answers : S → Request (List ℕ) → Response → S → Type 0) (clocked : S → ℕ → S → Type 0) (listed : S → List ℕ → S → Type 0) (stands : List (List ℕ) → S → Type 0)
    (clocks : (records : List (List ℕ)) (old : S) (moment : ℕ) (new : S) → stands records old → clocked old moment new → stands records new)
    (lists : (records : List (List ℕ)) (old : S) (file : List ℕ) (new : S) → stands records old → listed old file new → stands records new) where
  does_keep : (e : Event) (records : List (List ℕ)) (s s' : S) → turn_in e ≡ [] → EventDoes begins answers clocked listed e s s' → stands records s → stands records s'
  does_keep (Answered number calls) records s s' none does stand = absurd (cc)
  does_keep (Clock moment) records s s' none does stand = clocks records s moment s' stand does
  does_keep (Users file) records s s' none does stand = lists records s file s' stand does
  does_keep _ records s s' none does stand = subst (stands records) (sym does) stand

  -- what was kept of the service stands for it still
  pub lead_keep : (es : List Event) (records : List (List ℕ)) (s s' : S) → turns_of es ≡ [] → EventsLead begins answers clocked listed s es s' → stands records s → stands records s'
  lead_keep [] records s s' none leads stand = subst (stands records) (sym leads) stand
  lead_keep (e ∷ es) records s s' none leads stand =
      lead_keep es records leads.0 s' (last_none (turn_in e) (turns_of es) none) leads.2
      (does_keep e records s leads.0 (first_none (turn_in e) (turns_of es) none) leads.1 stand)
