-- Patches of properties: what they come to, the room that they need, and how they are made.
use Rattle.std.proofs.Common.{◌≡◌, ◌⊎◌, inl, inr, ℕ, ◌<◌, ◌+◌, Bool, true, false, cond, ◌||◌, List, [], ◌∷◌, ◌++◌, length, take, get_or, map, Option, Some, None, is_some, IsSome, unwrap_or, Result, Ok, Err, OnOk, refl, sym, ap, ◌∙◌, subst, arith}
use Rattle.std.specs.Prelude.{IfSome, MatchOption, if◌then◌else◌}
use Rattle.std.specs.Option.{option_map}
use Rattle.std.specs.Ordering.{eq_by_cmp, is_eq}
use Rattle.std.specs.FinMap.{get, insert, remove, get-insert, get-remove, get-empty, same_map}
use Rattle.std.specs.Map.{lookup}
use Rattle.std.proofs.lemmas.List.{map-append}
use Rattle.std.proofs.lemmas.List.Folds.{list_any-append, list_any_at, list_any_more}
use Rattle.std.proofs.lemmas.List.Sums.{fold-append}
use Rattle.dav_path_core.proofs.lists.Orders.{eq_by_cmp_same, eq_by_cmp_true}
use Rattle.dav_path_core.proofs.lists.FinMaps.{none_some}
use Rattle.dav_files_core.specs.declared.fs.properties.DavProp.{DavProp}
use Rattle.dav_files_core.specs.Private.PropertyChanges.{Key, KeyChanges, ComesTo, AreMissing, NotesKey, changes_of, is_among_keys}
use Rattle.dav_files_core.specs.Private.PropertyMaps.{properties_of}
use Rattle.dav_files_core.specs.Properties.{property_of, patch_update, patch_answer, key_of, without_xml, patched_properties, patched_by, patch_answers}
use Rattle.dav_files_core.specs.Resources.{Property, Properties, key_cmp}
use Rattle.dav_files_core.proofs.properties.FinMapLemmas.{get-as_map, map_remove}
use Rattle.dav_files_core.proofs.properties.PropertyMapLemmas.{Kept, key_total, key_exact}

-- ---- maps of the code
abbrev Noted : Type 0
Noted = Key × Option DavProp

mapped : {A B : Type 0} (f : A → B) (o : Option A) → is_some (option_map f o) ≡ is_some o
mapped f None = refl
mapped f (Some x) = refl

pub kept_at : (es : List Kept) (key : Key) → is_some (get (properties_of es) key) ≡ is_some (lookup (λ k. is_eq (key_cmp key k)) es)
kept_at es key = ap is_some (get-as_map key_total key_exact property_of es key) ∙ mapped property_of (lookup (λ k. is_eq (key_cmp key k)) es)

abbrev TakesFirst : List Noted → List Noted → Option Noted → Type 0
TakesFirst old new r = MatchOption r
    ((q : Key) → get (changes_of old) q ≡ None)
    (λ e. (get (changes_of old) e.0 ≡ Some (option_map property_of e.1)) × (changes_of new ≡ remove (changes_of old) e.0) × (length new < length old))

pub takes_first : (Updated : Noted → Type 0) (old new : List Noted) (r : Option Noted) → (0 < length old → IsSome r)
    → IfSome r (λ p. lookup (λ k. is_eq (key_cmp p.0 k)) old ≡ Some p.1)
    → ((p : Noted) → Updated p → (q : Key) → lookup (λ k. is_eq (key_cmp q k)) new ≡ cond (is_eq (key_cmp p.0 q)) None (lookup (λ k. is_eq (key_cmp q k)) old)) → IfSome r Updated
    → length new + (if is_some r then 1 else 0) ≡ length old → TakesFirst old new r
takes_first Updated [] new None some value only updates len = λ q. get-empty key_cmp q
takes_first Updated (e ∷ es) new None some value only updates len = absurd (let h : false ≡ true = some (omega arith) in cc)
takes_first Updated old new (Some p) some value only updates len = (
  get-as_map key_total key_exact (option_map property_of) old p.0 ∙ ap (option_map (option_map property_of)) value,
  map_remove key_total key_exact (option_map property_of) old new p.0 (only p updates),
  omega (arith, len),
)

-- ---- changes, one at a time
module _ (props new : Properties) (k : Key) (change : Option DavProp) where
  abbrev Changed : Type 0
  Changed = (q : Key) → get new q ≡ cond (eq_by_cmp key_cmp q k) (option_map property_of change) (get props q)

  pub set_at : (p : DavProp) → change ≡ Some p → new ≡ insert props k (property_of p) → Changed
  set_at p some is q = ap (λ m. get m q) is ∙ get-insert key_total props k (property_of p) q ∙ ap (λ c. cond (eq_by_cmp key_cmp q k) (option_map property_of c) (get props q)) (sym some)

  pub gone_at : change ≡ None → new ≡ remove props k → Changed
  gone_at none is q = ap (λ m. get m q) is ∙ get-remove key_total props k q ∙ ap (λ c. cond (eq_by_cmp key_cmp q k) (option_map property_of c) (get props q)) (sym none)

-- what is left of the changes comes to the same after one of them
module _ (changes changes' : KeyChanges) (props props' : Properties) (k : Key) (p : Option Property) (here : get changes k ≡ Some p) (rest : changes' ≡ remove changes k)
    (made : (q : Key) → get props' q ≡ cond (eq_by_cmp key_cmp q k) p (get props q)) where
  left : (q : Key) → get changes' q ≡ cond (eq_by_cmp key_cmp q k) None (get changes q)
  left q = ap (λ m. get m q) rest ∙ get-remove key_total changes k q

  pub one_less : (q : Key) → unwrap_or (get changes' q) (get props' q) ≡ unwrap_or (get changes q) (get props q)
  one_less q = (λ i. unwrap_or (left q i) (made q i)) ∙ by (eq_by_cmp key_cmp q k) refl
    where
      by : (b : Bool) → eq_by_cmp key_cmp q k ≡ b → unwrap_or (cond b None (get changes q)) (cond b p (get props q)) ≡ unwrap_or (get changes q) (get props q)
      by true e = ap (λ (o : Option (Option Property)). unwrap_or o (get props q)) (sym (ap (get changes) (eq_by_cmp_true key_exact q k e) ∙ here))
      by false e = refl

  pub room_left : ((q : Key) (x : Property) → get changes q ≡ Some (Some x) → IsSome (get props q)) → (q : Key) (x : Property) → get changes' q ≡ Some (Some x) → IsSome (get props' q)
  room_left room q x there = by (eq_by_cmp key_cmp q k) refl
    where
      by : (b : Bool) → eq_by_cmp key_cmp q k ≡ b → IsSome (get props' q)
      by true e = none_some (get changes' q) (Some x) (left q ∙ ap (λ b. cond b None (get changes q)) e) there
      by false e = ap is_some (made q ∙ ap (λ b. cond b p (get props q)) e) ∙ room q x (sym (left q ∙ ap (λ b. cond b None (get changes q)) e) ∙ there)

-- ---- keys that are missing
pub among_more : (keys new : List Key) (k q : Key) → new ≡ keys ++ (k ∷ []) → is_among_keys new q ≡ (is_among_keys keys q || (eq_by_cmp key_cmp q k || false))
among_more keys new k q is = ap (λ keys. is_among_keys keys q) is ∙ list_any-append (eq_by_cmp key_cmp q) keys (k ∷ [])

-- one that has nothing is
pub is_noted : (props : Properties) (keys : List Key) (k : Key) (new : List Key) → is_some (get props k) ≡ false → new ≡ keys ++ (k ∷ []) → NotesKey props keys k new
is_noted props keys k new free is = record {
  only = λ q h. by q (is_among_keys keys q) (eq_by_cmp key_cmp q k) refl refl (sym (among_more keys new k q is) ∙ h);
  others = λ q h. among_more keys new k q is ∙ ap (λ b. b || (eq_by_cmp key_cmp q k || false)) h;
  noted = inr (among_more keys new k k is ∙ ap (λ b. is_among_keys keys k || (b || false)) (eq_by_cmp_same key_total k) ∙ either (is_among_keys keys k));
}
  where
    none : (o : Option Property) → is_some o ≡ false → o ≡ None
    none None h = refl
    none (Some p) h = absurd (cc)

    either : (b : Bool) → (b || (true || false)) ≡ true
    either true = refl
    either false = refl

    by : (q : Key) (a b : Bool) → is_among_keys keys q ≡ a → eq_by_cmp key_cmp q k ≡ b → (a || (b || false)) ≡ true → (is_among_keys keys q ≡ true) ⊎ ((q ≡ k) × (get props q ≡ None))
    by q true b old same h = inl old
    by q false true old same h = let e = eq_by_cmp_true key_exact q k same in inr (e, ap (get props) e ∙ none (get props k) free)
    by q false false old same h = absurd (cc)

module _ (props : Properties) (changes changes' : KeyChanges) (k : Key) (change : Option Property) (is : changes' ≡ insert changes k change) where
  after : (q : Key) → get changes' q ≡ cond (eq_by_cmp key_cmp q k) (Some change) (get changes q)
  after q = ap (λ m. get m q) is ∙ get-insert key_total changes k change q

  still : (q : Key) → IsSome (get changes q) → IsSome (get changes' q)
  still q h = by (eq_by_cmp key_cmp q k) (ap is_some (after q))
    where
      by : (b : Bool) → is_some (get changes' q) ≡ is_some (cond b (Some change) (get changes q)) → IsSome (get changes' q)
      by true e = e
      by false e = e ∙ h

  -- one change more
  missing_more : (old new : List Key) → AreMissing props changes old → ((q : Key) → is_among_keys new q ≡ true → (is_among_keys old q ≡ true) ⊎ ((q ≡ k) × (get props q ≡ None)))
      → ((q : Key) → is_among_keys old q ≡ true → is_among_keys new q ≡ true) → (IsSome change → IsSome (get props k) ⊎ (is_among_keys new k ≡ true)) → AreMissing props changes' new
  missing_more old new missing only others noted = record {
    absent = λ q h. elim (only q h) [
      | inl among ↦ missing.absent q among
      | inr new ↦ new.1
    ];
    changed = λ q h. elim (only q h) [
      | inl among ↦ still q (missing.changed q among)
      | inr new ↦ ap is_some (after q ∙ ap (λ b. cond b (Some change) (get changes q)) (ap (λ x. eq_by_cmp key_cmp x k) new.0 ∙ eq_by_cmp_same key_total k))
    ];
    complete = λ q p h. by q p (eq_by_cmp key_cmp q k) refl (sym (after q) ∙ h);
  }
    where
      by : (q : Key) (p : Property) (b : Bool) → eq_by_cmp key_cmp q k ≡ b → cond b (Some change) (get changes q) ≡ Some (Some p) → IsSome (get props q) ⊎ (is_among_keys new q ≡ true)
      by q p true same h =
          let set : change ≡ Some p = cc in
          subst (λ x. IsSome (get props x) ⊎ (is_among_keys new x ≡ true)) (sym (eq_by_cmp_true key_exact q k same)) (noted (ap is_some set))
      by q p false same h = elim (missing.complete q p h) [
        | inl there ↦ inl there
        | inr among ↦ inr (others q among)
      ]

module _ {A E : Type 0} (props : Properties) (changes changes' : KeyChanges) (k : Key) (old : List Key) where
  pub taken_more : (r : Result A E) → OnOk r (changes' ≡ insert changes k None) → AreMissing props changes old → OnOk r (AreMissing props changes' old)
  taken_more (Ok x) is missing = missing_more props changes changes' k None is old old missing (λ q h. inl h) (λ q h. h) (λ set. absurd (cc))
  taken_more (Err e) is missing = tt

  pub set_more : (new : List Key) (p : Property) → NotesKey props old k new → (r : Result A E) → OnOk r (changes' ≡ insert changes k (Some p)) → AreMissing props changes old
      → OnOk r (AreMissing props changes' new)
  set_more new p notes (Ok x) is missing = missing_more props changes changes' k (Some p) is old new missing notes.only notes.others (λ _. notes.noted)
  set_more new p notes (Err e) is missing = tt

-- ---- what a patch comes to
pub none_comes : (es : List Noted) → es ≡ [] → ComesTo [] (changes_of es)
none_comes es is props q = ap (λ (o : Option (Option Property)). unwrap_or o (get props q)) (sym (ap (λ es. get (changes_of es) q) is ∙ get-empty key_cmp q))

pub none_missing : (props : Properties) (es : List Noted) (keys : List Key) → es ≡ [] → keys ≡ [] → AreMissing props (changes_of es) keys
none_missing props es keys empty is = record {
  absent = λ q h. nothing q h;
  changed = λ q h. nothing q h;
  complete = λ q p h. none_some (get (changes_of es) q) (Some p) (ap (λ es. get (changes_of es) q) empty ∙ get-empty key_cmp q) h;
}
  where
    nothing : {A : Type 0} (q : Key) → is_among_keys keys q ≡ true → A
    nothing q h = let both : false ≡ true = sym (ap (λ keys. is_among_keys keys q) is) ∙ h in absurd (cc)

pub comes_more : (patch : List (Bool × Property)) (changes changes' : KeyChanges) (e : Bool × Property) → ComesTo patch changes
    → changes' ≡ insert changes (key_of e.1) (if e.0 then Some e.1 else None) → ComesTo (patch ++ (e ∷ [])) changes'
comes_more patch changes changes' e comes is props q =
    ap (λ m. get m q) (fold-append patched_by props patch (e ∷ [])) ∙ step e.0 is
  where
    m : Properties
    m = patched_properties props patch

    k : Key
    k = key_of e.1

    by : (b : Bool) (o : Option Property) → cond b o (get m q) ≡ unwrap_or (cond b (Some o) (get changes q)) (get props q)
    by true o = refl
    by false o = comes props q

    noted : (o : Option Property) → changes' ≡ insert changes k o → cond (eq_by_cmp key_cmp q k) o (get m q) ≡ unwrap_or (get changes' q) (get props q)
    noted o is = by (eq_by_cmp key_cmp q k) o ∙ ap (λ (o : Option (Option Property)). unwrap_or o (get props q)) (sym (ap (λ m. get m q) is ∙ get-insert key_total changes k o q))

    step : (b : Bool) → changes' ≡ insert changes k (if b then Some e.1 else None) → get (if b then insert m k e.1 else remove m k) q ≡ unwrap_or (get changes' q) (get props q)
    step true is = get-insert key_total m k e.1 q ∙ noted (Some e.1) is
    step false is = get-remove key_total m k q ∙ noted None is

-- the same in the words of the code
pub entry_more : (entries : List (Bool × DavProp)) (changes changes' : KeyChanges) (e : Bool × DavProp) → ComesTo (map patch_update entries) changes
    → changes' ≡ insert changes (key_of (property_of e.1)) (if e.0 then Some (property_of e.1) else None) → ComesTo (map patch_update (entries ++ (e ∷ []))) changes'
entry_more entries changes changes' e comes is =
    subst (λ patch. ComesTo patch changes') (sym (map-append patch_update entries (e ∷ []))) (comes_more (map patch_update entries) changes changes' (patch_update e) comes is)

pub answer_more : (entries : List (Bool × DavProp)) (answers answers' : List (ℕ × DavProp)) (e : Bool × DavProp) (a : DavProp) → map patch_answer answers ≡ patch_answers (map patch_update entries)
    → answers' ≡ answers ++ ((200, a) ∷ []) → property_of a ≡ without_xml (property_of e.1) → map patch_answer answers' ≡ patch_answers (map patch_update (entries ++ (e ∷ [])))
answer_more entries answers answers' e a answered is seen =
    ap (map patch_answer) is ∙ map-append patch_answer answers ((200, a) ∷ []) ∙ (λ i. answered i ++ ((200, seen i) ∷ []))
    ∙ sym (ap patch_answers (map-append patch_update entries (e ∷ [])) ∙ map-append (λ (e : Bool × Property). (200, without_xml e.1)) (map patch_update entries) (patch_update e ∷ []))

-- ---- room for what is new
module _ (keys : List Key) (i : ℕ) (k : Key) (inside : i < length keys) (is : k ≡ get_or keys i k) where
  other_key : (q : Key) → is_among_keys keys q ≡ false → eq_by_cmp key_cmp q k ≡ false
  other_key q h = by (eq_by_cmp key_cmp q k) refl
    where
      by : (b : Bool) → eq_by_cmp key_cmp q k ≡ b → b ≡ false
      by true e = let both : true ≡ false = sym (list_any_at (eq_by_cmp key_cmp q) keys i k inside (ap (eq_by_cmp key_cmp q) (sym is) ∙ e)) ∙ h in absurd (cc)
      by false e = refl

  among_next : (q : Key) → is_among_keys (take (i + 1) keys) q ≡ (is_among_keys (take i keys) q || eq_by_cmp key_cmp q k)
  among_next q = list_any_more (eq_by_cmp key_cmp q) keys i k inside ∙ ap (λ x. is_among_keys (take i keys) q || eq_by_cmp key_cmp q x) (sym is)

  module _ (props between new : Properties) (copy : Key) (same : copy ≡ k) (x : Property) (set : new ≡ insert between copy x) where
    filled : (q : Key) → get new q ≡ cond (eq_by_cmp key_cmp q k) (Some x) (get between q)
    filled q = ap (λ m. get m q) set ∙ get-insert key_total between copy x q ∙ ap (λ k. cond (eq_by_cmp key_cmp q k) (Some x) (get between q)) same

    pub others_stay : ((q : Key) → is_among_keys keys q ≡ false → get between q ≡ get props q) → (q : Key) → is_among_keys keys q ≡ false → get new q ≡ get props q
    others_stay stay q h = filled q ∙ ap (λ b. cond b (Some x) (get between q)) (other_key q h) ∙ stay q h

    pub room_made : ((q : Key) → is_among_keys (take i keys) q ≡ true → IsSome (get between q)) → (q : Key) → is_among_keys (take (i + 1) keys) q ≡ true → IsSome (get new q)
    room_made made q h = by (eq_by_cmp key_cmp q k) (is_among_keys (take i keys) q) refl (sym (among_next q) ∙ h) (ap is_some (filled q))
      where
        by : (b a : Bool) → is_among_keys (take i keys) q ≡ a → (a || b) ≡ true → is_some (get new q) ≡ is_some (cond b (Some x) (get between q)) → IsSome (get new q)
        by true a is h e = e
        by false true is h e = e ∙ made q is
        by false false is h e = absurd (cc)

  pub taken_next : (props between new : Properties) → new ≡ remove between k → ((q : Key) → get between q ≡ cond (is_among_keys (take i keys) q) None (get props q))
      → (q : Key) → get new q ≡ cond (is_among_keys (take (i + 1) keys) q) None (get props q)
  taken_next props between new gone taken q =
      ap (λ m. get m q) gone ∙ get-remove key_total between k q ∙ ap (cond (eq_by_cmp key_cmp q k) None) (taken q)
      ∙ by (is_among_keys (take i keys) q) (eq_by_cmp key_cmp q k) ∙ ap (λ b. cond b None (get props q)) (sym (among_next q))
    where
      by : (a b : Bool) → cond b None (cond a None (get props q)) ≡ cond (a || b) None (get props q)
      by true true = refl
      by true false = refl
      by false true = refl
      by false false = refl

-- what was put at keys that had nothing, and taken out there, is as if it had not been put
pub undone : (props between new : Properties) (keys : List Key) → ((q : Key) → is_among_keys keys q ≡ true → get props q ≡ None)
    → ((q : Key) → is_among_keys keys q ≡ false → get between q ≡ get props q) → ((q : Key) → get new q ≡ (if is_among_keys keys q then None else get between q)) → new ≡ props
undone props between new keys absent others gone = same_map key_total key_exact new props (λ q. gone q ∙ by q (is_among_keys keys q) refl)
  where
    by : (q : Key) (b : Bool) → is_among_keys keys q ≡ b → (if b then None else get between q) ≡ get props q
    by q true e = sym (absent q e)
    by q false e = others q e

-- ---- the whole of a patch
module _ (props room new : Properties) (patch : List (Bool × Property)) (changes : KeyChanges) (keys : List Key) (missing : AreMissing props changes keys)
    (others : (q : Key) → is_among_keys keys q ≡ false → get room q ≡ get props q) (made : (q : Key) → is_among_keys keys q ≡ true → IsSome (get room q)) where
  pub all_patched : ComesTo patch changes → ((q : Key) → get new q ≡ unwrap_or (get changes q) (get room q)) → new ≡ patched_properties props patch
  all_patched comes done = same_map key_total key_exact new (patched_properties props patch) (λ q. done q ∙ by q (get changes q) refl ∙ sym (comes props q))
    where
      by : (q : Key) (o : Option (Option Property)) → get changes q ≡ o → unwrap_or o (get room q) ≡ unwrap_or o (get props q)
      by q (Some x) e = refl
      by q None e = others q (unchanged (is_among_keys keys q) refl)
        where
          unchanged : (b : Bool) → is_among_keys keys q ≡ b → b ≡ false
          unchanged true among = let both : false ≡ true = sym (ap is_some e) ∙ missing.changed q among in absurd (cc)
          unchanged false among = refl
