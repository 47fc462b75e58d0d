-- Locks, properties and resource maps that can be told as XML, and what they become.
use Rattle.std.proofs.Common.{◌≡◌, inl, inr, ℕ, zero, suc, ◌+◌, ◌≤◌, arith, Bool, true, false, cond, not, ◌&&◌, List, [], ◌∷◌, ◌++◌, length, Option, Some, None, refl, sym, ◌∙◌, ap, subst}
use Rattle.std.specs.Prelude.{drop, get_or, option_map, remove, set, take, ◌==◌}
use Rattle.std.specs.FinMap as maps
use Rattle.std.specs.FinMap.{empty, get, get-empty, insert}
use Rattle.std.specs.List.{AllByRecursion}
use Rattle.std.proofs.lemmas.Bool.{true≢false}
use Rattle.std.proofs.lemmas.Bool.Decides.{nat_tests}
use Rattle.dav_path_core.specs.Fronts.{Path, path_cmp}
use Rattle.dav_path_core.proofs.lists.FinMaps.{inserted, none_some, removed}
use Rattle.dav_path_core.proofs.lists.Orders.{path_exact, path_total}
use Rattle.dav_files_core.specs.Outcomes.{new_folder, start}
use Rattle.dav_files_core.specs.Properties.{key_of, patched_properties, patched_by}
use Rattle.dav_files_core.specs.Resources.{Properties, Property, Resource, ResourceMap, at_path, key_cmp}
use Rattle.dav_files_core.proofs.properties.PropertyMapLemmas.{key_exact, key_total}
use Rattle.dav_locks_core.specs.Lock.{Lock}
use Rattle.dav_locks_core.specs.Locks.{covering_at, covering_from, covers, discovered_locks, height, refreshed_lock}
use Rattle.dav_locks_core.specs.Stale.{has_come, is_stale, without_stale}
use Rattle.dav_documents_core.specs.KeptElements.{AreKept, IsKeptLock, IsKeptProperty}
use Rattle.dav_documents_core.specs.PropertyUpdates.{Update}
use Rattle.dav_documents_core.proofs.KeptReadingLaws.{IsKeptUpdate}
use Rattle.dav_documents_core.proofs.NamedLemmas.{passes_all}

-- ---- locks

abbrev pub AreKeptLocks : List Lock → Type 0
AreKeptLocks locks = AllByRecursion IsKeptLock locks

has_come_on : (last now : ℕ) (end : Option ℕ) → last ≤ now → has_come last end ≡ true → has_come now end ≡ true
has_come_on last now None later h = h
has_come_on last now (Some end) later h = grind (arith, nat_tests)

-- the locks that last at a later moment
pub kept_later : (last now : ℕ) (locks : List Lock) → last ≤ now → AreKeptLocks (without_stale last locks) → AreKeptLocks (without_stale now locks)
kept_later last now [] later h = tt
kept_later last now (l ∷ locks) later h = by (is_stale last l) (is_stale now l) refl refl (kept_later last now locks later) h
  where
    by : (before after : Bool) → is_stale last l ≡ before → is_stale now l ≡ after → (AreKeptLocks (without_stale last locks) → AreKeptLocks (without_stale now locks))
        → AreKeptLocks (cond (not before) (l ∷ without_stale last locks) (without_stale last locks))
        → AreKeptLocks (cond (not after) (l ∷ without_stale now locks) (without_stale now locks))
    by true true was is more k = more k
    by true false was is more k = absurd (true≢false (sym (has_come_on last now l.timeout_at later was) ∙ is))
    by false true was is more k = more k.1
    by false false was is more k = (k.0, more k.1)

pub all_behind : {X : Type 0} (P : X → Type 0) (xs ys : List X) → AllByRecursion P xs → AllByRecursion P ys → AllByRecursion P (xs ++ ys)
all_behind P [] ys h k = k
all_behind P (x ∷ xs) ys h k = (h.0, all_behind P xs ys h.1 k)

all_taken : {X : Type 0} (P : X → Type 0) (n : ℕ) (xs : List X) → AllByRecursion P xs → AllByRecursion P (take n xs)
all_taken P zero xs h = tt
all_taken P (suc n) [] h = tt
all_taken P (suc n) (x ∷ xs) h = (h.0, all_taken P n xs h.1)

all_dropped : {X : Type 0} (P : X → Type 0) (n : ℕ) (xs : List X) → AllByRecursion P xs → AllByRecursion P (drop n xs)
all_dropped P zero xs h = h
all_dropped P (suc n) [] h = tt
all_dropped P (suc n) (x ∷ xs) h = all_dropped P n xs h.1

pub removed_one : {X : Type 0} (P : X → Type 0) (xs : List X) (at : ℕ) → AllByRecursion P xs → AllByRecursion P (remove xs at)
removed_one P xs at h = all_behind P (take at xs) (drop (suc at) xs) (all_taken P at xs h) (all_dropped P (suc at) xs h)

-- one of them has another end
pub set_one : (now : ℕ) (timeout : Option ℕ) (locks : List Lock) (at : ℕ) (lock : Lock) → lock ≡ refreshed_lock now timeout (get_or locks at lock) → AreKeptLocks locks
    → AreKeptLocks (set locks at lock)
set_one now timeout [] at lock is h = tt
set_one now timeout (l ∷ locks) zero lock is h =
    (subst IsKeptLock (sym is) (record { token = h.0.token; rooted = h.0.rooted; owner = h.0.owner }), h.1)
set_one now timeout (l ∷ locks) (suc at) lock is h = (h.0, set_one now timeout locks at lock is h.1)

covering_kept : (locks : List Lock) (p : Path) (n more : ℕ) → AreKeptLocks locks → AreKeptLocks (covering_from locks p n more)
covering_kept locks p n zero h = tt
covering_kept locks p n (suc more) h =
    all_behind IsKeptLock (covering_at locks p n) (covering_from locks p (n + 1) more) (passes_all IsKeptLock (λ l. covers l p && (height l == n)) locks h)
    (covering_kept locks p (n + 1) more h)

-- the locks that cover a path
pub discovered_kept : (locks : List Lock) (p : Path) → AreKeptLocks locks → AreKeptLocks (discovered_locks locks p)
discovered_kept locks p h = covering_kept locks p 0 (suc (length p)) h

-- ---- properties

insert_kept : (props : Properties) (key : List ℕ × List ℕ) (p : Property) → AreKept props → IsKeptProperty p → AreKept (insert props key p)
insert_kept props key p h is other q found = elim (inserted key_total key_exact props key p other q found) [
  | inl new ↦ subst IsKeptProperty (sym new.1) is
  | inr old ↦ h other q old.1
]

remove_kept : (props : Properties) (key : List ℕ × List ℕ) → AreKept props → AreKept (maps.remove props key)
remove_kept props key h other q found = h other q (removed key_total key_exact props key other q found).1

pub patched_kept : (props : Properties) (updates : List Update) → AreKept props → AllByRecursion IsKeptUpdate updates → AreKept (patched_properties props updates)
patched_kept props [] h is = h
patched_kept props ((true, p) ∷ updates) h is = patched_kept (patched_by props (true, p)) updates (insert_kept props (key_of p) p h is.0) is.1
patched_kept props ((false, p) ∷ updates) h is = patched_kept (patched_by props (false, p)) updates (remove_kept props (key_of p) h) is.1

pub no_props : AreKept empty
no_props key p found = none_some (get empty key) p (get-empty key_cmp key) found

-- ---- maps

abbrev pub AllKept : ResourceMap → Type 0
AllKept m = (p : Path) (r : Resource) → at_path m p ≡ Some r → AreKept r.node.props

-- what stands in the map
abbrev pub IsKeptAt : Option Resource → Type 0
IsKeptAt o = (r : Resource) → o ≡ Some r → AreKept r.node.props

pub mapped_kept : (f : Resource → Resource) → ((r : Resource) → (f r).node.props ≡ r.node.props) → (o : Option Resource) → IsKeptAt o → IsKeptAt (option_map f o)
mapped_kept f same None h r is = absurd (cc)
mapped_kept f same (Some old) h r is =
    let one : f old ≡ r = cc in
    subst AreKept (sym (same old) ∙ ap (λ (x : Resource). x.node.props) one) (h old refl)

pub new_kept : (now : ℕ) → AllKept (start now)
new_kept now p r is = elim (inserted path_total path_exact empty [] (record { number = 1; node = new_folder now }) p r is) [
  | inl root ↦ subst AreKept (ap (λ (x : Resource). x.node.props) (sym root.1)) no_props
  | inr other ↦ none_some (get empty p) r (get-empty path_cmp p) other.1
]
