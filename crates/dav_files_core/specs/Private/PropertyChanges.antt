-- What a patch of properties comes to, and the room that it needs (own).
use Rattle.std.specs.Prelude.{◌≡◌, ◌⊎◌, ℕ, Bool, true, List, map, Option, Some, None, IsSome, option_map, unwrap_or}
use Rattle.std.specs.List.{list_any}
use Rattle.std.specs.Ordering.{eq_by_cmp}
use Rattle.std.specs.FinMap.{FinMap, from_entries, get}
use Rattle.dav_files_core.specs.declared.fs.properties.DavProp.{DavProp}
use Rattle.dav_files_core.specs.Properties.{property_of, patched_properties}
use Rattle.dav_files_core.specs.Resources.{Property, Properties, key_cmp}

abbrev pub Key : Type 0
Key = List ℕ × List ℕ

-- what keys have in the end: a property, or none
abbrev pub KeyChanges : Type 0
KeyChanges = FinMap key_cmp (Option Property)

abbrev pub change_of : Key × Option DavProp → Key × Option Property
change_of e = (e.0, option_map property_of e.1)

abbrev pub changes_of : List (Key × Option DavProp) → KeyChanges
changes_of es = from_entries (map change_of es)

-- the changes, made at once, leave what the patch leaves
abbrev pub ComesTo : List (Bool × Property) → KeyChanges → Type 0
ComesTo patch changes = (props : Properties) (q : Key) → get (patched_properties props patch) q ≡ unwrap_or (get changes q) (get props q)

abbrev pub is_among_keys : List Key → Key → Bool
is_among_keys keys q = list_any (eq_by_cmp key_cmp q) keys

-- The keys have nothing yet. They are all that the changes set of such keys, and may be some that are set and taken out again.
pub record AreMissing (props : Properties) (changes : KeyChanges) (keys : List Key) : Type 0 where
  pub absent : (q : Key) → is_among_keys keys q ≡ true → get props q ≡ None
  pub changed : (q : Key) → is_among_keys keys q ≡ true → IsSome (get changes q)
  pub complete : (q : Key) (p : Property) → get changes q ≡ Some (Some p) → IsSome (get props q) ⊎ (is_among_keys keys q ≡ true)

-- a key that is to be set is among the keys where it has nothing yet, and no other is new there
pub record NotesKey (props : Properties) (old : List Key) (k : Key) (new : List Key) : Type 0 where
  pub only : (q : Key) → is_among_keys new q ≡ true → (is_among_keys old q ≡ true) ⊎ ((q ≡ k) × (get props q ≡ None))
  pub others : (q : Key) → is_among_keys old q ≡ true → is_among_keys new q ≡ true
  pub noted : IsSome (get props k) ⊎ (is_among_keys new k ≡ true)
