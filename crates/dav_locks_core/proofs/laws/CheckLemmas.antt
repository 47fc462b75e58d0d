-- What a check that finds no conflict says of the locks.
use Rattle.std.proofs.Common.{◌≡◌, ◌⊎◌, inl, inr, Bool, true, false, not, ◌&&◌, ◌||◌, List, [], sym, ◌∙◌, ap, subst}
use Rattle.std.proofs.lemmas.Bool.{and_parts, and_from, and_cases, or_cases, or_parts, or_left, cases_Bool, false≢true, not-false}
use Rattle.dav_path_core.specs.Fronts.{Path, is_front, is_same_path}
use Rattle.dav_path_core.proofs.paths.FrontLemmas.{is_same_path-same, is_same_path-refl, is_front-refl}
use Rattle.dav_locks_core.specs.Lock.{Lock}
use Rattle.dav_locks_core.specs.Locks.{LockCaller, lock_path, reaches, covers, is_held_by, any_held, is_at_or_below, refuses_change, check_conflicts}
use Rattle.dav_locks_core.specs.Held.{HoldsExclusive, HoldsBelow}
use Rattle.dav_locks_core.proofs.laws.ExclusiveLemmas.{two_reach}
use Rattle.dav_path_core.proofs.lists.EachLemmas.{none_passes}
use Rattle.dav_path_core.proofs.lists.MemberLemmas.{In, In-Contains, all_in, find_any}

-- one lock is held, or neither covers the path alone nor stands below
no_conflict_at : (locks : List Lock) (q : Path) (deep : Bool) (who : LockCaller) → check_conflicts locks q deep who ≡ [] → (l : Lock) → In l locks
    → (is_held_by l who ≡ true) ⊎ (((covers l q && (not l.shared || not (any_held locks q who))) ≡ false) × ((deep && is_at_or_below l q) ≡ false))
no_conflict_at locks q deep who none l i =
    let alone : Bool = covers l q && (not l.shared || not (any_held locks q who)) in
    let below : Bool = deep && is_at_or_below l q in
    let passes : refuses_change locks q deep who l ≡ false = all_in (λ l. refuses_change locks q deep who l ≡ false) locks l (none_passes (refuses_change locks q deep who) locks none) i in
    elim (cases_Bool (is_held_by l who)) [
      | inl t ↦ inl t
      | inr f ↦ inr (or_parts alone below (subst (λ b. (not b && (alone || below)) ≡ false) f passes))
    ]

-- an exclusive lock over what is reached is held
pub exclusive_held : (locks : List Lock) (q : Path) (deep : Bool) (who : LockCaller) → check_conflicts locks q deep who ≡ [] → (l : Lock) → In l locks
    → l.shared ≡ false → (p : Path) → covers l p ≡ true → reaches q deep p ≡ true → is_held_by l who ≡ true
exclusive_held locks q deep who none l i exclusive p covered reached = elim (no_conflict_at locks q deep who none l i) [
  | inl h ↦ h
  | inr apart ↦ elim (two_reach (lock_path l) q p l.deep deep covered reached) [
    | inl c ↦ absurd (false≢true (sym apart.0 ∙ and_from _ _ c (or_left _ _ (ap not exclusive))))
    | inr b ↦ absurd (false≢true (sym apart.1 ∙ b))
  ]
]

-- so are all exclusive locks that cover the path
pub holds_exclusive : (locks : List Lock) (q : Path) (deep : Bool) (who : LockCaller) → check_conflicts locks q deep who ≡ [] → HoldsExclusive locks q who
holds_exclusive locks q deep who none l c exclusive covered =
    exclusive_held locks q deep who none l (In-Contains locks l c) exclusive q covered (or_left (is_same_path q q) (deep && is_front q q) (is_same_path-refl q))

-- and, of a deep check, all locks at the path and below it
pub holds_below : (locks : List Lock) (q : Path) (deep : Bool) (who : LockCaller) → check_conflicts locks q deep who ≡ [] → deep ≡ true → HoldsBelow locks q who
holds_below locks q deep who none is l c under = elim (no_conflict_at locks q deep who none l (In-Contains locks l c)) [
  | inl h ↦ h
  | inr apart ↦ absurd (false≢true (sym apart.1 ∙ and_from _ _ is under))
]

-- what is reached stands at or below the check's path
reached_below : (q : Path) (deep : Bool) (p : Path) → reaches q deep p ≡ true → is_front q p ≡ true
reached_below q deep p reached = elim (or_cases (is_same_path q p) (deep && is_front q p) reached) [
  | inl here ↦ subst (λ w. is_front q w ≡ true) (is_same_path-same q p here) (is_front-refl q)
  | inr above ↦ (and_parts _ _ above).1
]

-- over what is reached and any lock covers, a lock is held that covers a front of it
pub any_lock_held : (locks : List Lock) (q : Path) (deep : Bool) (who : LockCaller) → check_conflicts locks q deep who ≡ [] → (l : Lock) → In l locks
    → (p : Path) → covers l p ≡ true → reaches q deep p ≡ true
    → (m : Lock) × In m locks × (is_held_by m who ≡ true) × ((q : Path) × (is_front q p ≡ true) × (covers m q ≡ true))
any_lock_held locks q deep who none l i p covered reached = elim (no_conflict_at locks q deep who none l i) [
  | inl h ↦ (l, i, h, (p, is_front-refl p, covered))
  | inr apart ↦ elim (two_reach (lock_path l) q p l.deep deep covered reached) [
    | inl c ↦
        let others : (not l.shared || not (any_held locks q who)) ≡ false =
        elim (and_cases _ _ apart.0) [ inl w ↦ absurd (false≢true (sym w ∙ c)) | inr w ↦ w ] in
        let found = find_any (λ m. covers m q && is_held_by m who) locks (not-false _ (or_parts _ _ others).1) in
        let parts = and_parts _ _ found.2 in
        (found.0, found.1, parts.1, (q, reached_below q deep p reached, parts.0))
    | inr b ↦ absurd (false≢true (sym apart.1 ∙ b))
  ]
]

-- every lock at or below the path of a deep check is held
pub below_held : (locks : List Lock) (q : Path) (who : LockCaller) → check_conflicts locks q true who ≡ [] → (l : Lock) → In l locks → is_at_or_below l q ≡ true → is_held_by l who ≡ true
below_held locks q who none l i below = elim (no_conflict_at locks q true who none l i) [
  | inl h ↦ h
  | inr apart ↦ absurd (false≢true (sym apart.1 ∙ below))
]
