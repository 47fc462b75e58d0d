-- Locks that stood together are restored one behind the other.
use Rattle.std.proofs.Common.{◌≡◌, inl, inr, Bool, true, false, cond, List, [], ◌∷◌, ◌++◌, refl, ap, ◌∙◌}
use Rattle.std.specs.Prelude.{◌&&◌, ◌||◌, not}
use Rattle.std.specs.List.{AllByRecursion}
use Rattle.std.proofs.lemmas.Bool.{cases_Bool, and_parts, or_cases, or_right, and_from}
use Rattle.dav_path_core.specs.Fronts.{is_front, is_same_path}
use Rattle.dav_path_core.proofs.paths.FrontLemmas.{is_same_path-refl}
use Rattle.dav_locks_core.specs.Exclusive.{Compat, Exclusive}
use Rattle.dav_locks_core.specs.Lock.{Lock}
use Rattle.dav_locks_core.specs.Locks.{compatible, covers, is_at_or_below, lock_conflicts, lock_path, refuses_lock}

covers_itself : (l : Lock) → covers l (lock_path l) ≡ true
covers_itself l = ap (λ b. b || (l.deep && is_front (lock_path l) (lock_path l))) (is_same_path-refl (lock_path l))

-- a lock doesn't refuse one with which it is compatible wherever both cover
wanted_by : (l new : Lock) → Compat l new → refuses_lock (lock_path new) new.shared new.deep l ≡ false
wanted_by l new both = elim (cases_Bool reached) [
  | inl is ↦ ap (λ b. not b && reached) (elim (or_cases (covers l (lock_path new)) (new.deep && is_at_or_below l (lock_path new)) is) [
    | inl c ↦ both (lock_path new) c (covers_itself new)
    | inr b ↦
        let parts = and_parts new.deep (is_front (lock_path new) (lock_path l)) b in
        both (lock_path l) (covers_itself l) (or_right (is_same_path (lock_path new) (lock_path l)) (new.deep && is_front (lock_path new) (lock_path l)) (and_from _ _ parts.0 parts.1))
  ])
  | inr apart ↦ ap (λ b. not (compatible l.shared new.shared) && b) apart ∙ neither (not (compatible l.shared new.shared))
]
  where
    neither : (b : Bool) → (b && false) ≡ false
    neither true = refl
    neither false = refl

    reached : Bool
    reached = covers l (lock_path new) || (new.deep && is_at_or_below l (lock_path new))

-- so none of those in front stands in its way
pub free_behind : (front : List Lock) (l : Lock) (rest : List Lock) → Exclusive (front ++ l ∷ rest) → lock_conflicts front (lock_path l) l.shared l.deep ≡ []
free_behind [] l rest h = refl
free_behind (k ∷ front) l rest h =
    ap (λ b. cond b (k ∷ lock_conflicts front (lock_path l) l.shared l.deep) (lock_conflicts front (lock_path l) l.shared l.deep)) (wanted_by k l (at front h.0))
    ∙ free_behind front l rest h.1
  where
    at : (front : List Lock) → AllByRecursion (Compat k) (front ++ l ∷ rest) → Compat k l
    at [] a = a.0
    at (x ∷ front) a = at front a.1
