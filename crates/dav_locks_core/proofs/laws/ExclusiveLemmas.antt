-- What keeps a list of locks exclusive.
use Rattle.std.proofs.Common.{◌≡◌, ◌⊎◌, inl, inr, ℕ, zero, suc, Bool, true, false, not, ◌&&◌, ◌||◌, cond, Option, List, [], ◌∷◌, ◌++◌, get_or, set, sym, ◌∙◌, refl, ap, subst}
use Rattle.std.specs.Prelude.{filter, remove}
use Rattle.std.specs.List.{AllByRecursion}
use Rattle.std.proofs.lemmas.Bool.{and_parts, and_from, or_cases, or_left, or_parts, or_right, cases_Bool, false≢true, false_from_ne_true}
use Rattle.dav_path_core.specs.Fronts.{Path, is_front, is_same_path}
use Rattle.dav_path_core.proofs.paths.FrontLemmas.{is_same_path-same, is_same_path-refl, is_front-trans, fronts_of_one}
use Rattle.dav_locks_core.specs.Lock.{Lock}
use Rattle.dav_locks_core.specs.Locks.{LockCaller, lock_path, covers, is_held_by, any_held, compatible, refuses_lock, lock_conflicts, refuses_change, check_conflicts, is_at_or_below, refreshed_lock}
use Rattle.dav_locks_core.specs.Exclusive.{Compat, Exclusive}
use Rattle.dav_path_core.proofs.lists.MemberLemmas.{In, all_in, find_any}
use Rattle.dav_path_core.proofs.lists.EachLemmas.{none_passes, filter_none, weaker, all_filter, all_push, all_remove, all_set}

-- two that reach one path, each at its path or, where it is deep, below: the first reaches the second's path, or stands below a deep second
pub two_reach : (a q p : Path) (da dq : Bool) → (is_same_path a p || (da && is_front a p)) ≡ true → (is_same_path q p || (dq && is_front q p)) ≡ true
    → ((is_same_path a q || (da && is_front a q)) ≡ true) ⊎ ((dq && is_front q a) ≡ true)
two_reach a q p da dq ha hq = elim (or_cases (is_same_path q p) (dq && is_front q p) hq) [
  | inl here ↦ inl (subst (λ w. (is_same_path a w || (da && is_front a w)) ≡ true) (sym (is_same_path-same q p here)) ha)
  | inr above ↦
      let parts = and_parts dq (is_front q p) above in
      elim (or_cases (is_same_path a p) (da && is_front a p) ha) [
        | inl at ↦ inr (and_from _ _ parts.0 (subst (λ w. is_front q w ≡ true) (sym (is_same_path-same a p at)) parts.1))
        | inr deep ↦
            let deep_parts = and_parts da (is_front a p) deep in
            elim (fronts_of_one a q p deep_parts.1 parts.1) [
              | inl r ↦ inl (or_right _ _ (and_from _ _ deep_parts.0 r))
              | inr r ↦ inr (and_from _ _ parts.0 r)
            ]
      ]
]

-- a lock that doesn't refuse a wanted one is compatible with it wherever both cover
Compat-wanted : (l new : Lock) → refuses_lock (lock_path new) new.shared new.deep l ≡ false → Compat l new
Compat-wanted l new h p cl cn = elim (cases_Bool (compatible l.shared new.shared)) [
  | inl t ↦ t
  | inr f ↦
      let reached : Bool = covers l (lock_path new) || (new.deep && is_at_or_below l (lock_path new)) in
      let free : reached ≡ false = subst (λ b. (not b && reached) ≡ false) f h in
      let apart = or_parts (covers l (lock_path new)) (new.deep && is_at_or_below l (lock_path new)) free in
      elim (two_reach (lock_path l) (lock_path new) p l.deep new.deep cl cn) [
        | inl c ↦ absurd (false≢true (sym apart.0 ∙ c))
        | inr b ↦ absurd (false≢true (sym apart.1 ∙ b))
      ]
]

pub Exclusive-push : (locks : List Lock) (new : Lock) → Exclusive locks → lock_conflicts locks (lock_path new) new.shared new.deep ≡ [] → Exclusive (locks ++ new ∷ [])
Exclusive-push locks new h free = push locks h (none_passes (refuses_lock (lock_path new) new.shared new.deep) locks free)
  where
    push : (locks : List Lock) → Exclusive locks → AllByRecursion (λ l. refuses_lock (lock_path new) new.shared new.deep l ≡ false) locks → Exclusive (locks ++ new ∷ [])
    push [] h free = (tt, tt)
    push (l ∷ locks) h free = (all_push (Compat l) locks new h.0 (Compat-wanted l new free.0), push locks h.1 free.1)

pub Exclusive-filter : (test : Lock → Bool) (locks : List Lock) → Exclusive locks → Exclusive (filter test locks)
Exclusive-filter test [] h = tt
Exclusive-filter test (l ∷ locks) h = elim (test l) as (λ b. Exclusive (cond b (l ∷ filter test locks) (filter test locks))) [
  | true ↦ (all_filter (Compat l) test locks h.0, Exclusive-filter test locks h.1)
  | false ↦ Exclusive-filter test locks h.1
]

pub Exclusive-remove : (locks : List Lock) (k : ℕ) → Exclusive locks → Exclusive (remove locks k)
Exclusive-remove [] zero h = tt
Exclusive-remove [] (suc k) h = tt
Exclusive-remove (l ∷ locks) zero h = h.1
Exclusive-remove (l ∷ locks) (suc k) h = (all_remove (Compat l) locks k h.0, Exclusive-remove locks k h.1)

-- another timeout changes nothing of what a lock covers
pub Exclusive-refreshed : (locks : List Lock) (k now : ℕ) (timeout : Option ℕ) (d : Lock) → Exclusive locks → Exclusive (set locks k (refreshed_lock now timeout (get_or locks k d)))
Exclusive-refreshed [] zero now timeout d h = tt
Exclusive-refreshed [] (suc k) now timeout d h = tt
Exclusive-refreshed (l ∷ locks) zero now timeout d h = h
Exclusive-refreshed (l ∷ locks) (suc k) now timeout d h =
    (all_set (Compat l) locks k (refreshed_lock now timeout (get_or locks k d)) d (λ c. c) h.0, Exclusive-refreshed locks k now timeout d h.1)

-- ---- locks that cover one path, one of which is held

two_in : (locks : List Lock) → Exclusive locks → (l m : Lock) → In l locks → In m locks → (l ≡ m) ⊎ ((p : Path) → covers l p ≡ true → covers m p ≡ true → l.shared ≡ true)
two_in [] h l m i j = absurd i
two_in (k ∷ locks) h l m (inl e) (inl f) = inl (sym e ∙ f)
two_in (k ∷ locks) h l m (inl e) (inr j) =
    inr (λ p cl cm. ap (λ (l : Lock). l.shared) (sym e) ∙ (and_parts _ _ (all_in (Compat k) locks m h.0 j p (ap (λ l. covers l p) e ∙ cl) cm)).0)
two_in (k ∷ locks) h l m (inr i) (inl f) =
    inr (λ p cl cm. (and_parts _ _ (all_in (Compat k) locks l h.0 i p (ap (λ m. covers m p) f ∙ cm) cl)).1)
two_in (k ∷ locks) h l m (inr i) (inr j) = two_in locks h.1 l m i j

all_of : {P : Lock → Type 0} (xs : List Lock) → ((l : Lock) → In l xs → P l) → AllByRecursion P xs
all_of [] h = tt
all_of (l ∷ xs) h = (h l (inl refl), all_of xs (λ x i. h x (inr i)))

held_or_shared : (h c s a z : Bool) → ((h ≡ true) ⊎ (c ≡ true → s ≡ true)) → a ≡ true → (not h && ((c && (not s || not a)) || (false && z))) ≡ false
held_or_shared true c s a z one any = refl
held_or_shared false false s a z one any = refl
held_or_shared false true true true z one any = refl
held_or_shared false true true false z one any = absurd (false≢true any)
held_or_shared false true false a z (inl e) any = absurd (false≢true e)
held_or_shared false true false a z (inr e) any = absurd (false≢true (e refl))

pub held_is_enough : (locks : List Lock) (p : Path) (who : LockCaller) → Exclusive locks → any_held locks p who ≡ true → check_conflicts locks p false who ≡ []
held_is_enough locks p who exclusive any =
    let m = find_any (λ l. covers l p && is_held_by l who) locks any in
    let parts = and_parts (covers m.0 p) (is_held_by m.0 who) m.2 in
    let one : (l : Lock) → In l locks → (is_held_by l who ≡ true) ⊎ (covers l p ≡ true → l.shared ≡ true) = λ l i.
    elim (two_in locks exclusive l m.0 i m.1) [
      | inl same ↦ inl (ap (λ l. is_held_by l who) same ∙ parts.1)
      | inr both ↦ inr (λ c. both p c parts.0)
    ] in
    filter_none (refuses_change locks p false who) locks
    (all_of locks (λ l i. held_or_shared (is_held_by l who) (covers l p) l.shared (any_held locks p who) (is_at_or_below l p) (one l i) any))

-- under an exclusive deep lock that is held there is no other, so no check finds a conflict
no_other : (h c b s a deep : Bool) → (h ≡ true) ⊎ ((c ≡ false) × (b ≡ false)) → (not h && ((c && (not s || not a)) || (deep && b))) ≡ false
no_other true c b s a deep one = refl
no_other false c b s a deep (inl e) = absurd (false≢true e)
no_other false c b s a true (inr e) = ap (λ c. (c && (not s || not a)) || b) e.0 ∙ e.1
no_other false c b s a false (inr e) = ap (λ c. (c && (not s || not a)) || false) e.0

pub held_above : (locks : List Lock) (l : Lock) (p : Path) (deep : Bool) (who : LockCaller) → Exclusive locks → In l locks → l.shared ≡ false → l.deep ≡ true → is_held_by l who ≡ true
    → is_front (lock_path l) p ≡ true → check_conflicts locks p deep who ≡ []
held_above locks l p deep who exclusive i own is_deep is_held above =
    filter_none (refuses_change locks p deep who) locks (all_of locks (λ k j. no_other (is_held_by k who) (covers k p) (is_at_or_below k p) k.shared (any_held locks p who) deep (one k j)))
  where
    over : (q : Path) → is_front (lock_path l) q ≡ true → covers l q ≡ true
    over q h = or_right (is_same_path (lock_path l) q) (l.deep && is_front (lock_path l) q) (and_from _ _ is_deep h)

    one : (k : Lock) → In k locks → (is_held_by k who ≡ true) ⊎ ((covers k p ≡ false) × (is_at_or_below k p ≡ false))
    one k j = elim (two_in locks exclusive l k i j) [
      | inl same ↦ inl (ap (λ l. is_held_by l who) (sym same) ∙ is_held)
      | inr both ↦ inr (
        false_from_ne_true (covers k p) (λ c. false≢true (sym own ∙ both p (over p above) c)),
        false_from_ne_true (is_at_or_below k p) (λ b. false≢true (sym own ∙ both (lock_path k) (over (lock_path k) (is_front-trans (lock_path l) p (lock_path k) above b)) (or_left (is_same_path (lock_path k) (lock_path k)) (k.deep && is_front (lock_path k) (lock_path k)) (is_same_path-refl (lock_path k))))),
      )
    ]

-- where every lock that covers the path is held
covered_held : (h c s a z : Bool) → (c && not h) ≡ false → (not h && ((c && (not s || not a)) || (false && z))) ≡ false
covered_held true c s a z e = refl
covered_held false false s a z e = refl
covered_held false true s a z e = absurd (false≢true (sym e))

pub all_held : (locks : List Lock) (p : Path) (who : LockCaller) → filter (λ l. covers l p && not (is_held_by l who)) locks ≡ [] → check_conflicts locks p false who ≡ []
all_held locks p who none =
    filter_none (refuses_change locks p false who) locks
    (weaker (λ l. (covers l p && not (is_held_by l who)) ≡ false) (λ l. refuses_change locks p false who l ≡ false)
    (λ l e. covered_held (is_held_by l who) (covers l p) l.shared (any_held locks p who) (is_at_or_below l p) e) locks (none_passes (λ l. covers l p && not (is_held_by l who)) locks none))
