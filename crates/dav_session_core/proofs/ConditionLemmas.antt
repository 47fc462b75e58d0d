-- How lists of an `If` are looked at one after another, through questions that change nothing.
use Rattle.std.proofs.Common.{◌≡◌, inl, inr, ℕ, ◌+◌, ◌<◌, ◌≤◌, Bool, true, false, ◌&&◌, List, ◌∷◌, length, get_or, drop, map, Option, refl, sym, ap, subst, ◌∙◌}
use Rattle.std.proofs.lemmas.List.{drop_all, drop_more}
use Rattle.std.specs.Option.{option_or}
use Rattle.url.specs.Parts.{Parts}
use Rattle.dav_path_core.specs.Fronts.{Path}
use Rattle.dav_headers_core.specs.IfValues.{Located}
use Rattle.dav_guarded_core.specs.Step.{State}
use Rattle.dav_session_core.specs.Callers.{Caller, RunBy, SameLive, live}
use Rattle.dav_session_core.specs.Conditions.{ListsAre, conditions_hold}
use Rattle.dav_fields_core.specs.TaggedLists.{Base, SpeaksOf, spread_from}
use Rattle.dav_session_core.proofs.Asking.{by_join}
use Rattle.dav_session_core.proofs.CallerLaws.{by_none}

-- ---- questions one after another

-- what questions of a caller leave: the caller after them, and the state
pub record Looks (who : Caller) (s : State) (after : Caller) (s' : State) : Type 0 where
  pub run : RunBy who s s'
  pub live : SameLive who.now s s'
  pub caller : after ≡ who

-- what lasts is the same in the middle
pub same_state : (who : Caller) (s : State) (mid : Caller) (m : State) → Looks who s mid m → live mid.now m ≡ live who.now s
same_state who s mid m h = ap (λ (w : Caller). live w.now m) h.caller ∙ h.live

-- ---- conditions one after another

-- one more item of a list that code goes over, as contracts see it
pub drop_seen : {A B : Type 0} (view : A → B) (xs : List A) (i : ℕ) (x : A) → i < length xs → x ≡ get_or xs i x → map view (drop i xs) ≡ view x ∷ map view (drop (i + 1) xs)
drop_seen view xs i x lt is = ap (map view) (drop_more xs i x lt ∙ ap (λ y. y ∷ drop (i + 1) xs) (sym is))

-- the rest of the conditions decides where this one holds
pub goes_on_true : (first left rest whole : Bool) → left ≡ (first && rest) → first ≡ true → left ≡ whole → rest ≡ whole
goes_on_true first left rest whole split holds so_far = sym (split ∙ ap (λ b. b && rest) holds) ∙ so_far

-- ---- lists one after another

module _ (s : State) (base : Base) (here : Path) (last : Option Parts) (l : Located) (lists : List Located) (at : Option Path) where
  -- the rest of the lists decides where this one doesn't hold
  pub goes_on : SpeaksOf base here (option_or l.tag last) at → conditions_hold s at l.conditions ≡ false → (holds : Bool)
      → ListsAre s base here (spread_from (option_or l.tag last) lists) holds → ListsAre s base here (spread_from last (l ∷ lists)) holds
  goes_on speaks fails true h = inr h
  goes_on speaks fails false h = ((at, speaks, fails), h)

  -- this one decides where it holds
  pub holds_here : SpeaksOf base here (option_or l.tag last) at → conditions_hold s at l.conditions ≡ true → ListsAre s base here (spread_from last (l ∷ lists)) true
  holds_here speaks holds = inl (at, speaks, holds)

-- no list is left
pub none_left : {A : Type 0} (s : State) (base : Base) (here : Path) (last : Option Parts) (view : A → Located) (xs : List A) (i : ℕ) → length xs ≤ i
    → ListsAre s base here (spread_from last (map view (drop i xs))) false
none_left s base here last view xs i le = subst (λ ys. ListsAre s base here (spread_from last (map view ys)) false) (sym (drop_all i xs le)) tt
