-- That locks of which none stands at a path or below it refuse the same at the path and below it.
use Rattle.std.proofs.Common.{◌≡◌, inl, inr, Bool, true, false, not, ◌&&◌, ◌||◌, List, ◌++◌, refl, sym, ap, ◌∙◌}
use Rattle.std.proofs.lemmas.Bool.{cases_Bool, true≢false, false_from_ne_true}
use Rattle.std.proofs.lemmas.List.Elements.{filter_agree}
use Rattle.dav_path_core.specs.Fronts.{Path, is_front, is_same_path}
use Rattle.dav_path_core.proofs.lists.PlaceLemmas.{filter-filter}
use Rattle.dav_path_core.proofs.paths.FrontLemmas.{fronts_of_one, is_front-refl, is_front-trans, is_same_path-same}
use Rattle.dav_locks_core.specs.Lock.{Lock}
use Rattle.dav_locks_core.specs.Locks.{LockCaller as LocksCaller, any_held, check_conflicts, covers, is_held_by, is_at_or_below, lock_path, refuses_change, without_below}
use Rattle.dav_path_core.proofs.paths.SubtreePaths.{front_of}
use Rattle.dav_locks_core.proofs.answers.CoveringTokens.{any_agree, any_filter}

module _ (p rest : Path) where
  -- one of them that covers the path covers what is below it
  covers_below : (l : Lock) → is_at_or_below l p ≡ false → covers l (p ++ rest) ≡ covers l p
  covers_below l out = ap (λ b. b || (l.deep && is_front (lock_path l) (p ++ rest))) (elsewhere (p ++ rest) (front_of p rest))
      ∙ ap (λ b. l.deep && b) (same_front (is_front (lock_path l) p) refl) ∙ sym (ap (λ b. b || (l.deep && is_front (lock_path l) p)) (elsewhere p (is_front-refl p)))
    where
      elsewhere : (q : Path) → is_front p q ≡ true → is_same_path (lock_path l) q ≡ false
      elsewhere q below = false_from_ne_true _ (λ same. true≢false (sym below ∙ ap (is_front p) (sym (is_same_path-same (lock_path l) q same)) ∙ out))

      same_front : (b : Bool) → is_front (lock_path l) p ≡ b → is_front (lock_path l) (p ++ rest) ≡ is_front (lock_path l) p
      same_front true is = is_front-trans (lock_path l) p (p ++ rest) is (front_of p rest) ∙ sym is
      same_front false is = false_from_ne_true _ (λ h. elim (fronts_of_one (lock_path l) p (p ++ rest) h (front_of p rest)) [
        | inl above ↦ true≢false (sym above ∙ is)
        | inr below ↦ true≢false (sym below ∙ out)
      ]) ∙ sym is

  kept_alike : (f g : Lock → Bool) → ((l : Lock) → is_at_or_below l p ≡ false → f l ≡ g l) → (l : Lock) → (not (is_at_or_below l p) && f l) ≡ (not (is_at_or_below l p) && g l)
  kept_alike f g same l = elim (cases_Bool (is_at_or_below l p)) [
    | inl below ↦ rw (below) refl
    | inr out ↦ rw (out) (same l out)
  ]

  held_alike : (who : LocksCaller) (locks : List Lock) → any_held (without_below p locks) (p ++ rest) who ≡ any_held (without_below p locks) p who
  held_alike who locks =
      any_filter (λ l. covers l (p ++ rest) && is_held_by l who) (λ l. not (is_at_or_below l p)) locks
      ∙ any_agree (λ l. (covers l (p ++ rest) && is_held_by l who) && not (is_at_or_below l p)) (λ l. (covers l p && is_held_by l who) && not (is_at_or_below l p)) same locks
      ∙ sym (any_filter (λ l. covers l p && is_held_by l who) (λ l. not (is_at_or_below l p)) locks)
    where
      same : (l : Lock) → ((covers l (p ++ rest) && is_held_by l who) && not (is_at_or_below l p)) ≡ ((covers l p && is_held_by l who) && not (is_at_or_below l p))
      same l = elim (cases_Bool (is_at_or_below l p)) [
        | inl below ↦ rw (below) (none (covers l (p ++ rest) && is_held_by l who) ∙ sym (none (covers l p && is_held_by l who)))
        | inr out ↦ rw (out) (ap (λ b. (b && is_held_by l who) && true) (covers_below l out))
      ]
        where
          none : (b : Bool) → (b && false) ≡ false
          none true = refl
          none false = refl

  -- so what they refuse below the path they refuse there
  pub anew_below : (who : LocksCaller) (locks : List Lock)
      → check_conflicts (without_below p locks) (p ++ rest) false who ≡ check_conflicts (without_below p locks) p false who
  anew_below who locks =
      filter-filter (refuses (p ++ rest)) (λ l. not (is_at_or_below l p)) locks ∙ filter_agree _ _ (kept_alike (refuses (p ++ rest)) (refuses p) same) locks
      ∙ sym (filter-filter (refuses p) (λ l. not (is_at_or_below l p)) locks)
    where
      left : List Lock
      left = without_below p locks

      refuses : Path → Lock → Bool
      refuses q = refuses_change left q false who

      same : (l : Lock) → is_at_or_below l p ≡ false → refuses (p ++ rest) l ≡ refuses p l
      same l out = ap (λ b. not (is_held_by l who) && ((b && (not l.shared || not (any_held left (p ++ rest) who))) || false)) (covers_below l out)
          ∙ ap (λ b. not (is_held_by l who) && ((covers l p && (not l.shared || not b)) || false)) (held_alike who locks)
