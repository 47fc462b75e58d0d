-- Laws of conditions.
use Rattle.std.proofs.Common.{◌≡◌, ◌≢◌, inl, inr, ℕ, Bool, true, false, not, ◌&&◌, ◌||◌, List, [], ◌∷◌, ◌++◌, get_or, map, Option, Some, None, refl, sym, ap, subst, ◌∙◌}
use Rattle.std.specs.Prelude.{Contains, bytes_eq}
use Rattle.std.specs.List.{AllByRecursion, flat_map, list_any}
use Rattle.std.specs.Option.{option_or}
use Rattle.std.proofs.lemmas.Bool.{cases_Bool, and_parts, or_parts, false≢true, false_from_ne_true}
use Rattle.std.proofs.lemmas.List.{get_or_default}
use Rattle.std.proofs.lemmas.List.Folds.{Any-from_list_any, list_any_none}
use Rattle.std.proofs.lemmas.Slice.Eq.{bytes_eq-Decides}
use Rattle.url.specs.Parts.{Parts}
use Rattle.dav_path_core.specs.Fronts.{Path}
use Rattle.dav_headers_core.specs.IfBytes.{Condition, Token}
use Rattle.dav_headers_core.specs.IfValues.{Located}
use Rattle.dav_locks_core.specs.Lock.{Lock}
use Rattle.dav_locks_core.specs.Locks.{covers}
use Rattle.dav_guarded_core.specs.Step.{State}
use Rattle.dav_session_core.specs.Conditions.{ListsAre, OneHolds, Production, ProductionIs, ProductionsAre, conditions_hold, has_token, lists_of, untagged_list}
use Rattle.dav_fields_core.specs.TaggedLists.{Base, SpeaksOf, spread_from}
use Rattle.dav_session_core.proofs.ConditionLemmas.{goes_on, holds_here}

-- ---- a token

pub shows_lock : (s : State) (p : Path) (token : List ℕ) → conditions_hold s (Some p) (record { negated = false; item = Token token } ∷ []) ≡ true
    → (l : Lock) × Contains s.locks l × (l.token ≡ token) × (covers l p ≡ true)
shows_lock s p token h =
    let test : Lock → Bool = λ l. bytes_eq l.token token && covers l p in
    let found = Any-from_list_any test s.locks (and_parts (has_token s p token) true h).0 in
    let parts = and_parts (bytes_eq found.1.token token) (covers found.1 p) found.4 in
    (found.1, (found.0, found.2, found.3), (bytes_eq-Decides found.1.token token).0 parts.0, parts.1)

no_lock : (s : State) (p : Path) (token : List ℕ) → ((l : Lock) → Contains s.locks l → l.token ≢ token) → has_token s p token ≡ false
no_lock s p token none = list_any_none (λ l. bytes_eq l.token token && covers l p) s.locks (λ k d lt.
    let l = get_or s.locks k d in
    false_from_ne_true (bytes_eq l.token token && covers l p) (λ passes.
    none l (k, lt, get_or_default s.locks k l d lt) ((bytes_eq-Decides l.token token).0 (and_parts (bytes_eq l.token token) (covers l p) passes).0)))

pub not_holds : (s : State) (at : Option Path) (token : List ℕ) → ((l : Lock) → Contains s.locks l → l.token ≢ token)
    → conditions_hold s at (record { negated = true; item = Token token } ∷ []) ≡ true
not_holds s None token none = refl
not_holds s (Some p) token none = ap (λ b. not b && true) (no_lock s p token none)

-- ---- lists without tags

module _ (s : State) (base : Base) (here : Path) where
  abbrev of_request : Located → Bool
  of_request l = conditions_hold s (Some here) l.conditions

  -- a list without a tag, in front of such lists
  untagged_on : (l : Located) (lists : List Located) (rest t : Bool) → l.tag ≡ None → ListsAre s base here (spread_from None lists) rest → of_request l ≡ t
      → ListsAre s base here (spread_from None (l ∷ lists)) (t || rest)
  untagged_on l lists rest t bare later e = by t e
    where
      speaks : SpeaksOf base here (option_or l.tag None) (Some here)
      speaks = subst (λ t. SpeaksOf base here (option_or t None) (Some here)) (sym bare) refl

      then : ListsAre s base here (spread_from (option_or l.tag None) lists) rest
      then = subst (λ t. ListsAre s base here (spread_from (option_or t None) lists) rest) (sym bare) later

      by : (t : Bool) → of_request l ≡ t → ListsAre s base here (spread_from None (l ∷ lists)) (t || rest)
      by true e = holds_here s base here None l lists (Some here) speaks e
      by false e = goes_on s base here None l lists (Some here) speaks e rest then

  pub untagged_are : (lists : List Located) → AllByRecursion (λ l. l.tag ≡ None) lists
      → ListsAre s base here (spread_from None lists) (list_any (λ l. conditions_hold s (Some here) l.conditions) lists)
  untagged_are [] h = tt
  untagged_are (l ∷ lists) h = untagged_on l lists (list_any of_request lists) (of_request l) h.0 (untagged_are lists h.1) refl

  -- ---- lists behind a tag

  module _ (url : Parts) (at : Option Path) (speaks : SpeaksOf base here (Some url) at) where
    one_behind : (more : List (List Condition)) (rest : List Located) → list_any (conditions_hold s at) more ≡ true
        → ListsAre s base here (spread_from (Some url) (map untagged_list more ++ rest)) true
    one_behind [] rest h = absurd (false≢true h)
    one_behind (c ∷ more) rest h = elim (cases_Bool (conditions_hold s at c)) [
      | inl e ↦ holds_here s base here (Some url) (untagged_list c) (map untagged_list more ++ rest) at speaks e
      | inr e ↦ goes_on s base here (Some url) (untagged_list c) (map untagged_list more ++ rest) at speaks e true
          (one_behind more rest (sym (ap (λ b. b || list_any (conditions_hold s at) more) e) ∙ h))
    ]

    none_behind : (more : List (List Condition)) (rest : List Located) (holds : Bool) → list_any (conditions_hold s at) more ≡ false
        → ListsAre s base here (spread_from (Some url) rest) holds → ListsAre s base here (spread_from (Some url) (map untagged_list more ++ rest)) holds
    none_behind [] rest holds h later = later
    none_behind (c ∷ more) rest holds h later =
        let parts = or_parts (conditions_hold s at c) (list_any (conditions_hold s at) more) h in
        goes_on s base here (Some url) (untagged_list c) (map untagged_list more ++ rest) at speaks parts.0 holds (none_behind more rest holds parts.1 later)

  -- ---- productions

  -- the tag in front does not count
  any_last : (url : Parts) (productions : List Production) (holds : Bool) → ListsAre s base here (spread_from None (flat_map lists_of productions)) holds
      → ListsAre s base here (spread_from (Some url) (flat_map lists_of productions)) holds
  any_last url [] true h = absurd h
  any_last url [] false h = tt
  any_last url (p ∷ productions) holds h = h

  one_here : (p : Production) (rest : List Located) → ProductionIs s base here true p → ListsAre s base here (spread_from None (lists_of p ++ rest)) true
  one_here p rest (at, speaks, h) = elim (cases_Bool (conditions_hold s at p.first)) [
    | inl e ↦ holds_here s base here None (record { tag = Some p.tag; conditions = p.first }) (map untagged_list p.more ++ rest) at speaks e
    | inr e ↦ goes_on s base here None (record { tag = Some p.tag; conditions = p.first }) (map untagged_list p.more ++ rest) at speaks e true
        (one_behind p.tag at speaks p.more rest (sym (ap (λ b. b || list_any (conditions_hold s at) p.more) e) ∙ h))
  ]

  none_here : (p : Production) (rest : List Located) (holds : Bool) → ProductionIs s base here false p → ListsAre s base here (spread_from (Some p.tag) rest) holds
      → ListsAre s base here (spread_from None (lists_of p ++ rest)) holds
  none_here p rest holds (at, speaks, h) later =
      let parts = or_parts (conditions_hold s at p.first) (list_any (conditions_hold s at) p.more) h in
      goes_on s base here None (record { tag = Some p.tag; conditions = p.first }) (map untagged_list p.more ++ rest) at speaks parts.0 holds
      (none_behind p.tag at speaks p.more rest holds parts.1 later)

  -- a later one holds, whatever the first comes to
  later_holds : (p : Production) (rest : List Located) → OneHolds s base here (spread_from (Some p.tag) rest) → OneHolds s base here (spread_from None (lists_of p ++ rest))
  later_holds p rest h = inr (behind p.more)
    where
      behind : (more : List (List Condition)) → OneHolds s base here (spread_from (Some p.tag) (map untagged_list more ++ rest))
      behind [] = h
      behind (c ∷ more) = inr (behind more)

  pub productions_are : (productions : List Production) (holds : Bool) → ProductionsAre s base here productions holds
      → ListsAre s base here (spread_from None (flat_map lists_of productions)) holds
  productions_are [] true h = absurd h
  productions_are [] false h = tt
  productions_are (p ∷ productions) true (inl h) = one_here p (flat_map lists_of productions) h
  productions_are (p ∷ productions) true (inr h) =
      later_holds p (flat_map lists_of productions) (any_last p.tag productions true (productions_are productions true h))
  productions_are (p ∷ productions) false h =
      none_here p (flat_map lists_of productions) false h.0 (any_last p.tag productions false (productions_are productions false h.1))
