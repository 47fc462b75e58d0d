-- Whose locks stand at a path and above, and what is left where one of them ends.
use Rattle.std.proofs.Common.{◌≡◌, ◌⊎◌, inl, inr, ℕ, ◌+◌, ◌<◌, Bool, true, false, not, ◌&&◌, ◌||◌, cond, List, [], ◌∷◌, length, get_or, Option, Some, None, Result, Ok, Err, refl, sym, ◌∙◌, ap, subst, arith}
use Rattle.std.specs.Prelude.{bytes_eq, nat_le, option_map, Contains, IfErr, OnOk, remove}
use Rattle.std.specs.List.{list_any}
use Rattle.std.proofs.lemmas.Bool.{cases_Bool, and_parts, false≢true, true≢false, not-true}
use Rattle.std.proofs.lemmas.List.Elements.{Contains-get_or}
use Rattle.dav_path_core.specs.Fronts.{Path, is_front, is_same_path, parent}
use Rattle.dav_path_core.proofs.lists.MemberLemmas.{In-Contains, Contains-In, find_any}
use Rattle.dav_path_core.proofs.paths.FrontLemmas.{is_front-refl, is_front-trans, is_same_path-same, is_same_path-refl}
use Rattle.dav_locks_core.specs.Lock.{Lock}
use Rattle.dav_locks_core.specs.Locks.{lock_path, covers, found_token, found_from, found_here, better, height}
use Rattle.dav_locks_core.proofs.laws.EndedLemmas.{found_at, found_from_at}
use Rattle.dav_guarded_core.specs.Requests.{Answer, Command, Reply, Refusal, Fs, Locked, NoLock, OutOfMemory}
use Rattle.dav_guarded_core.specs.Step.{IsState, Serves, State}
use Rattle.dav_session_core.specs.Callers.{Caller, asking, is_own, live}
use Rattle.dav_faults_core.specs.declared.faults.Fault.{Fault}
use Rattle.dav_faults_core.specs.declared.faults.Fault.TheVariants as fault
use Rattle.dav_session_core.specs.Conditions.{has_token}
use Rattle.dav_session_core.specs.Private.Owning.{AllOwn, is_anothers}
use Rattle.dav_session_core.specs.Unlocking.{EndsOwn, IsAnothers}
use Rattle.dav_session_core.proofs.ConditionLemmas.{Looks, same_state}
use Rattle.dav_path_core.proofs.paths.AbovePaths.{above, any_false}

-- ---- a lock at the path or above

pub covers_here : (l : Lock) (p : Path) → covers l p ≡ true → is_front (lock_path l) p ≡ true
covers_here l p h = elim (cases_Bool (is_same_path (lock_path l) p)) [
  | inl same ↦ subst (λ q. is_front (lock_path l) q ≡ true) (is_same_path-same (lock_path l) p same) (is_front-refl (lock_path l))
  | inr other ↦ (and_parts l.deep (is_front (lock_path l) p) (subst (λ b. (b || (l.deep && is_front (lock_path l) p)) ≡ true) other h)).1
]

pub at_covers : (l : Lock) (p : Path) → lock_path l ≡ p → covers l p ≡ true
at_covers l p h = ap (λ b. b || (l.deep && is_front (lock_path l) p)) (ap (is_same_path (lock_path l)) (sym h) ∙ is_same_path-refl (lock_path l))

pub at_root : (l : Lock) → is_front (lock_path l) [] ≡ true → covers l [] ≡ true
at_root l h = by (lock_path l) refl h
  where
    by : (q : Path) → lock_path l ≡ q → is_front q [] ≡ true → covers l [] ≡ true
    by [] is h = at_covers l [] is
    by (x ∷ q) is h = absurd (false≢true h)

-- ---- whether each lock with a token is the caller's own

module _ (s : State) (who : Caller) (p : Path) (token : List ℕ) where
  -- so far: each one is, or stands at a place above that is left, or at it
  abbrev pub OwnSoFar : Path → Type 0
  OwnSoFar here = (l : Lock) → Contains s.locks l → found_here p token l ≡ true → (is_own who l ≡ true) ⊎ (is_front (lock_path l) here ≡ true)

  pub at_first : OwnSoFar p
  at_first l i h = inr (and_parts (bytes_eq l.token token) (is_front (lock_path l) p) h).1

  own_by : (l : Lock) (here : Path) → bytes_eq l.token token ≡ true → covers l here ≡ true → (is_anothers who token l && covers l here) ≡ false → is_own who l ≡ true
  own_by l here named covered h = elim (cases_Bool (is_own who l)) [
    | inl own ↦ own
    | inr other ↦
        let all : (is_anothers who token l && covers l here) ≡ true =
        ap (λ b. (b && not (is_own who l)) && covers l here) named ∙ ap (λ b. not b && covers l here) other ∙ covered in
        absurd (true≢false (sym all ∙ h))
  ]

  abbrev pub NoneAt : Path → Bool → Type 0
  NoneAt here found_token = list_any (λ l. is_anothers who token l && covers l here) s.locks ≡ found_token

  pub one_up : (here : Path) → NoneAt here false → OwnSoFar here → OwnSoFar (parent here)
  one_up here none so_far l i h = elim (so_far l i h) [
    | inl own ↦ inl own
    | inr front ↦ elim (above (lock_path l) here front) [
      | inl same ↦
          inl (own_by l here (and_parts (bytes_eq l.token token) (is_front (lock_path l) p) h).0 (at_covers l here same)
          (any_false (λ l. is_anothers who token l && covers l here) s.locks l none (In-Contains s.locks l i)))
      | inr up ↦ inr up
    ]
  ]

  pub all_own : (here : Path) → length here ≡ 0 → NoneAt here false → OwnSoFar here → AllOwn s who p token
  all_own [] none_left none so_far = λ l i h. elim (so_far l i h) [
    | inl own ↦ own
    | inr front ↦
        own_by l [] (and_parts (bytes_eq l.token token) (is_front (lock_path l) p) h).0 (at_root l front)
        (any_false (λ l. is_anothers who token l && covers l []) s.locks l none (In-Contains s.locks l i))
  ]
  all_own (x ∷ here) none_left none so_far = absurd (omega (arith, none_left))

  -- one that is another's
  pub anothers : (here : Path) → is_front here p ≡ true → NoneAt here true → IsAnothers s who p token
  anothers here front some =
      let l = find_any (λ l. is_anothers who token l && covers l here) s.locks some in
      let parts = and_parts (is_anothers who token l.0) (covers l.0 here) l.2 in
      let named = and_parts (bytes_eq l.0.token token) (not (is_own who l.0)) parts.0 in (
        l.0,
        Contains-In s.locks l.0 l.1,
        ap (λ b. b && is_front (lock_path l.0) p) named.0 ∙ is_front-trans (lock_path l.0) here p (covers_here l.0 here parts.1) front,
        not-true (is_own who l.0) named.1,
      )

-- no lock is another's exactly where each one is the caller's own
pub none_anothers : (s : State) (who : Caller) (p : Path) (token : List ℕ) → AllOwn s who p token → ¬ IsAnothers s who p token
none_anothers s who p token own (l, i, here, other) = true≢false (sym (own l i here) ∙ other)

pub all_are_own : (s : State) (who : Caller) (p : Path) (token : List ℕ) → (¬ IsAnothers s who p token) → AllOwn s who p token
all_are_own s who p token none l i here = elim (cases_Bool (is_own who l)) [
  | inl own ↦ own
  | inr other ↦ absurd (none (l, i, here, other))
]

-- ---- behind questions of the same caller

module _ (who : Caller) (start : State) (asker : Caller) (m : State) (p : Path) (token : List ℕ) (here : Path) where
  pub none_as : (found_token : Bool) → Looks who start asker m → NoneAt (live asker.now m) asker p token here found_token → NoneAt (live who.now start) who p token here found_token
  none_as found_token looks h =
      subst (λ (w : Caller). NoneAt (live who.now start) w p token here found_token) looks.caller
      (subst (λ (s : State). NoneAt s asker p token here found_token) (same_state who start asker m looks) h)

  pub checked_own : {A : Type 0} (result : Result A Fault) → length here ≡ 0 → Looks who start asker m
      → OnOk result (NoneAt (live asker.now m) asker p token here false) → OwnSoFar (live who.now start) who p token here
      → OnOk result (AllOwn (live who.now start) who p token)
  checked_own (Ok x) none_left looks h own = all_own (live who.now start) who p token here none_left (none_as false looks h) own
  checked_own (Err e) none_left looks h own = tt

  pub refused_own : {A : Type 0} (result : Result A Fault) → Looks who start asker m → is_front here p ≡ true
      → IfErr result (λ e. (e ≡ fault.InsufficientStorage) ⊎ ((e ≡ fault.Forbidden) × NoneAt (live asker.now m) asker p token here true))
      → IfErr result (λ e. (e ≡ fault.InsufficientStorage) ⊎ ((e ≡ fault.Forbidden) × IsAnothers (live who.now start) who p token))
  refused_own (Ok x) looks front h = tt
  refused_own (Err e) looks front (inl short) = inl short
  refused_own (Err e) looks front (inr h) = inr (h.0, anothers (live who.now start) who p token here front (none_as true looks h.1))

-- ---- the lock that is found

no_better : (a b : Option (ℕ × ℕ)) → better a b ≡ None → (a ≡ None) × (b ≡ None)
no_better None b h = (refl, h)
no_better (Some a) None h = absurd (cc)
no_better (Some a) (Some b) h = elim (cases_Bool (nat_le a.1 b.1)) [
  | inl t ↦ let e : Some a ≡ None = subst (λ w. cond w (Some a) (Some b) ≡ None) t h in absurd (cc)
  | inr f ↦ let e : Some b ≡ None = subst (λ w. cond w (Some a) (Some b) ≡ None) f h in absurd (cc)
]

module _ (p : Path) (token : List ℕ) where
  none_from : (n : ℕ) (locks : List Lock) → found_from n locks p token ≡ None → list_any (λ l. bytes_eq l.token token && covers l p) locks ≡ false
  none_from n [] h = refl
  none_from n (l ∷ locks) h =
      let parts = no_better (cond (found_here p token l) (Some (n, height l)) None) (found_from (n + 1) locks p token) h in
      elim (cases_Bool (bytes_eq l.token token && covers l p)) [
        | inl t ↦
            let named = and_parts (bytes_eq l.token token) (covers l p) t in
            let here : found_here p token l ≡ true = ap (λ b. b && is_front (lock_path l) p) named.0 ∙ covers_here l p named.1 in
            let place : ℕ × ℕ = (n, height l) in
            let e : Some place ≡ None = subst (λ w. cond w (Some place) None ≡ None) here parts.0 in
            absurd (cc)
        | inr f ↦ ap (λ b. b || list_any (λ l. bytes_eq l.token token && covers l p) locks) f ∙ none_from (n + 1) locks parts.1
      ]

  pub none_covers : (s : State) → found_token s.locks p token ≡ None → has_token s p token ≡ false
  unfolding found_token
  none_covers s h = by (found_from 0 s.locks p token) refl h
    where
      by : (o : Option (ℕ × ℕ)) → found_from 0 s.locks p token ≡ o → option_map (λ f. f.0) o ≡ None → has_token s p token ≡ false
      by None is g = none_from 0 s.locks is
      by (Some f) is g = absurd (cc)

  pub found_within : (locks : List Lock) (k : ℕ) → found_token locks p token ≡ Some k → k < length locks
  unfolding found_token
  found_within locks k h = by (found_from 0 locks p token) refl h
    where
      by : (o : Option (ℕ × ℕ)) → found_from 0 locks p token ≡ o → option_map (λ f. f.0) o ≡ Some k → k < length locks
      by None is g = absurd (cc)
      by (Some f) is g =
          let r = found_from_at 0 locks p token f is in
          let same : f.0 ≡ k = cc in
          omega (arith, r.1, r.2, same)

  pub found_own : (s : State) (who : Caller) (k : ℕ) → found_token s.locks p token ≡ Some k → AllOwn s who p token → (l : Lock) → is_own who (get_or s.locks k l) ≡ true
  found_own s who k h all l =
      all (get_or s.locks k l) (Contains-get_or s.locks k l (found_within s.locks k h)) (found_at s.locks p token k h l)

-- ---- an `Unlock`

-- it is refused only where no lock is found
pub not_unlocked : (who : Caller) (s s' : State) (p : Path) (token : List ℕ) (e : Refusal) → Serves s (asking who (Command.Unlock p token)) (Err e) s'
    → found_token s.locks p token ≡ None
not_unlocked who s s' p token (Fs e) h = absurd (false≢true h.0.0)
not_unlocked who s s' p token (Locked l) h = absurd (In-Contains [] l h.0)
not_unlocked who s s' p token NoLock h = h.0
not_unlocked who s s' p token OutOfMemory h = absurd (h.0 refl)

rest_of : (s s' : State) (locks : List Lock) → IsState s' s.map locks s.rng → s' ≡ record s { locks = locks }
rest_of s s' locks h = rw (sym h.map_is, sym h.locks_are, sym h.rng_is) refl

pub unlocked : (who : Caller) (s s' : State) (p : Path) (token : List ℕ) (reply : Reply) → AllOwn s who p token
    → Serves s (asking who (Command.Unlock p token)) (Ok reply) s' → EndsOwn s who p token s'
unlocked who s s' p token reply own h = record {
  place = h.1.0;
  found_there = h.1.1;
  own = found_own p token s who h.1.0 h.1.1 own;
  left = rest_of s s' (remove s.locks h.1.0) h.1.3;
}

-- it ends a lock of the caller's own that covers the path
pub own_ends : (who : Caller) (s s' : State) (p : Path) (token : List ℕ) (a : Answer) → has_token s p token ≡ true → (¬ IsAnothers s who p token)
    → Serves s (asking who (Command.Unlock p token)) a s' → EndsOwn s who p token s'
own_ends who s s' p token (Ok reply) covered own h = unlocked who s s' p token reply (all_are_own s who p token own) h
own_ends who s s' p token (Err e) covered own h =
    absurd (true≢false (sym covered ∙ none_covers p token s (not_unlocked who s s' p token e h)))
