-- Properties that stand at their own keys are made again by the list of them.
use Rattle.std.proofs.Common.{◌≡◌, ◌⊎◌, inl, inr, ℕ, Bool, true, false, List, [], ◌∷◌, map, Option, Some, None, refl, sym, ap, ◌∙◌, if◌then◌else◌}
use Rattle.std.specs.List.{fold}
use Rattle.std.specs.FinMap.{empty, entries, get, get-empty, insert, remove, same_map, values}
use Rattle.dav_path_core.proofs.lists.EntryLemmas.{In-entries, entries-In}
use Rattle.dav_path_core.proofs.lists.FinMaps.{dec, get_other, get_same, inserted, none_some, one_some, removed}
use Rattle.dav_path_core.proofs.lists.MemberLemmas.{In}
use Rattle.dav_path_core.proofs.lists.SameMembers.{In-map}
use Rattle.dav_files_core.specs.Private.PropertyMaps.{AreKeyed}
use Rattle.dav_files_core.specs.Properties.{key_of, patched_properties, patched_by}
use Rattle.dav_files_core.specs.Resources.{Property, Properties, key_cmp}
use Rattle.dav_files_core.specs.Restoring.{properties_from, with_property}
use Rattle.dav_files_core.proofs.properties.PropertyMapLemmas.{key_total, key_exact}

-- ---- what is done to properties keeps it so
pub keyed_empty : AreKeyed empty
keyed_empty key p is = none_some (get empty key) p (get-empty key_cmp key) is

keyed_insert : (props : Properties) → AreKeyed props → (p : Property) → AreKeyed (insert props (key_of p) p)
keyed_insert props keyed p key x is = elim (inserted key_total key_exact props (key_of p) p key x is) [
  | inl new ↦ ap key_of new.1 ∙ sym new.0
  | inr old ↦ keyed key x old.1
]

keyed_remove : (props : Properties) → AreKeyed props → (k : List ℕ × List ℕ) → AreKeyed (remove props k)
keyed_remove props keyed k key x is = keyed key x (removed key_total key_exact props k key x is).1

keyed_patched_by : (props : Properties) → AreKeyed props → (e : Bool × Property) → AreKeyed (patched_by props e)
keyed_patched_by props keyed e = elim (e.0) as (λ b. AreKeyed (if b then insert props (key_of e.1) e.1 else remove props (key_of e.1))) [
  | true ↦ keyed_insert props keyed e.1
  | false ↦ keyed_remove props keyed (key_of e.1)
]

pub keyed_patched : (patch : List (Bool × Property)) (props : Properties) → AreKeyed props → AreKeyed (patched_properties props patch)
keyed_patched [] props keyed = keyed
keyed_patched (e ∷ patch) props keyed = keyed_patched patch (patched_by props e) (keyed_patched_by props keyed e)

with_all : Properties → List Property → Properties
with_all = fold with_property

keyed_with_all : (ps : List Property) (props : Properties) → AreKeyed props → AreKeyed (with_all props ps)
unfolding with_all
keyed_with_all [] props keyed = keyed
keyed_with_all (p ∷ ps) props keyed = keyed_with_all ps (with_property props p) (keyed_insert props keyed p)

pub keyed_from : (ps : List Property) → AreKeyed (properties_from ps)
unfolding with_all
keyed_from ps = keyed_with_all ps empty keyed_empty

-- ---- some properties that are put in, one after another
module _ (key : List ℕ × List ℕ) where
  -- what is there then was put in, or was there
  came : (ps : List Property) (props : Properties) (x : Property) → get (with_all props ps) key ≡ Some x → In x ps ⊎ (get props key ≡ Some x)
  unfolding with_all
  came [] props x is = inr is
  came (p ∷ ps) props x is = elim (came ps (with_property props p) x is) [
    | inl i ↦ inl (inr i)
    | inr before ↦ elim (inserted key_total key_exact props (key_of p) p key x before) [
      | inl new ↦ inl (inl (sym new.1))
      | inr old ↦ inr old.1
    ]
  ]

  -- where something was, something is
  stays : (ps : List Property) (props : Properties) (x : Property) → get props key ≡ Some x → (y : Property) × (get (with_all props ps) key ≡ Some y)
  unfolding with_all
  stays [] props x is = (x, is)
  stays (p ∷ ps) props x is = elim (dec key_total key_exact key (key_of p)) [
    | inl same ↦ stays ps (with_property props p) p (ap (get (with_property props p)) same ∙ get_same key_total key_exact props (key_of p) p)
    | inr other ↦ stays ps (with_property props p) x (get_other key_total key_exact props (key_of p) p key other ∙ is)
  ]

  -- what is put in has something at its key
  goes : (ps : List Property) (props : Properties) (x : Property) → key_of x ≡ key → In x ps → (y : Property) × (get (with_all props ps) key ≡ Some y)
  unfolding with_all
  goes [] props x is i = absurd i
  goes (p ∷ ps) props x is i = elim i [
    | inl same ↦ stays ps (with_property props p) p (ap (get (with_property props p)) (sym is ∙ ap key_of (sym same)) ∙ get_same key_total key_exact props (key_of p) p)
    | inr later ↦ goes ps (with_property props p) x is later
  ]

of_entry : (es : List ((List ℕ × List ℕ) × Property)) (p : Property) → In p (map (λ e. e.1) es) → (key : List ℕ × List ℕ) × In (key, p) es
of_entry [] p i = absurd i
of_entry (e ∷ es) p i = elim i [
  | inl same ↦ (e.0, inl (λ i. (e.0, same i)))
  | inr later ↦ let w = of_entry es p later in (w.0, inr w.1)
]

-- ---- the list of all makes them again
module _ (props : Properties) (keyed : AreKeyed props) where
  in_values : (key : List ℕ × List ℕ) (p : Property) → get props key ≡ Some p → In p (values props)
  in_values key p is = In-map (λ (e : (List ℕ × List ℕ) × Property). e.1) (entries props) (key, p) (entries-In key_total key_exact props key p is)

  from_list : (key : List ℕ × List ℕ) (p : Property) → key_of p ≡ key → In p (values props) → get props key ≡ Some p
  from_list key p is i =
      let w = of_entry (entries props) p i in
      let here : get props w.0 ≡ Some p = In-entries key_total props (w.0, p) w.1 in
      ap (get props) (sym is ∙ keyed w.0 p here) ∙ here

  made_of : (key : List ℕ × List ℕ) (p : Property) → get (properties_from (values props)) key ≡ Some p → get props key ≡ Some p
  unfolding with_all
  made_of key p is = elim (came key (values props) empty p is) [
    | inl i ↦ from_list key p (keyed_from (values props) key p is) i
    | inr nothing ↦ none_some (get empty key) p (get-empty key_cmp key) nothing
  ]

  same_at : (key : List ℕ × List ℕ) (new old : Option Property) → get (properties_from (values props)) key ≡ new → get props key ≡ old → new ≡ old
  unfolding with_all
  same_at key None None made is = refl
  same_at key (Some p) old made is = sym (made_of key p made) ∙ is
  same_at key None (Some p) made is =
      let w = goes key (values props) empty p (keyed key p is) (in_values key p is) in
      none_some (get (properties_from (values props)) key) w.0 made w.1

  pub made_again : properties_from (values props) ≡ props
  made_again = same_map key_total key_exact (properties_from (values props)) props (λ key. same_at key _ _ refl refl)
