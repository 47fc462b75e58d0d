-- How a lock gets another end, and lists that are filtered or whose items are replaced.
use Rattle.std.proofs.Common.{◌≡◌, ◌⊎◌, inl, inr, ℕ, zero, suc, ◌+◌, ◌<◌, Bool, true, false, cond, List, [], ◌∷◌, ◌++◌, length, get_or, take, drop, map, Option, Some, None, Ok, Err, refl, sym, ◌∙◌, ap, subst, add-one, arith}
use Rattle.std.specs.Prelude.{filter, is_some, set}
use Rattle.std.proofs.lemmas.Bool.{false≢true, true≢false}
use Rattle.std.proofs.lemmas.Iterator.{YieldsList}
use Rattle.std.proofs.lemmas.Iterator.Consumers.{YieldsList-end, YieldsList-turn}
use Rattle.std.proofs.lemmas.List.{length-map}
use Rattle.dav_path_core.specs.Fronts.{Path}
use Rattle.dav_path_core.proofs.lists.MemberLemmas.{In}
use Rattle.dav_path_core.proofs.lists.PlaceLemmas.{map-filter}
use Rattle.dav_locks_core.specs.Locks.{discovered_locks}
use Rattle.dav_guarded_core.specs.Requests.{Command, Reply, Refusal, Locks, Fs, Locked, NoLock, OutOfMemory}
use Rattle.dav_guarded_core.specs.Step.{Same, Serves, State, Step}
use Rattle.dav_guarded_core.proofs.StepLaws.{Same-equal}
use Rattle.dav_session_core.specs.Callers.{Asks, Caller, RunBy, asking, live}
use Rattle.dav_session_core.specs.Private.Owning.{AllOwn}
use Rattle.dav_session_core.specs.Refreshing.{RefreshesOwn}
use Rattle.dav_session_core.proofs.Asking.{asks_join}
use Rattle.dav_session_core.proofs.CallerLaws.{asks_of, by_one}
use Rattle.dav_session_core.proofs.ConditionLemmas.{Looks, same_state}
use Rattle.dav_session_core.proofs.OwnLemmas.{found_own}

-- ---- a `Refresh`

-- it gives another end to a lock that is the caller's own, where each one with the token is
pub refreshed_own : (who : Caller) (s s' : State) (p : Path) (token : List ℕ) (timeout : Option ℕ) (reply : Reply) → AllOwn s who p token
    → Serves s (asking who (Command.Refresh p token timeout)) (Ok reply) s' → RefreshesOwn s who p token timeout s'
refreshed_own who s s' p token timeout reply own h = record {
  place = h.1.0;
  found_there = h.1.2;
  own = found_own p token s who h.1.0 h.1.2 own;
  lock = h.1.1;
  lock_is = h.1.3;
  left = Same-equal (record s { locks = set s.locks h.1.0 h.1.1 }) s' h.1.5;
}

-- what a refusal leaves is what a question leaves
pub refused_run : (who : Caller) (c : Command) (p : Path) (s s' : State) (e : Refusal) → Step s (asking who c) (Err e) s' → RunBy who s s'
refused_run who c p s s' e h = by_one who s s' (Command.Discover p) (Ok (Locks (discovered_locks (live who.now s).locks p))) refl (refl, (refl, left e h))
  where
    left : (e : Refusal) → Step s (asking who c) (Err e) s' → Same (live who.now s) s'
    left (Fs e) h = h.1
    left (Locked l) h = h.1
    left NoLock h = h.1
    left OutOfMemory h = h.1

-- ---- what a filter keeps

-- it passes the test
pub first_has : {A : Type 0} (test : A → Bool) (xs : List A) (x : A) (others : List A) → filter test xs ≡ x ∷ others → test x ≡ true
first_has test [] x others h = absurd (cc)
first_has test (y ∷ xs) x others h = by (test y) refl h (first_has test xs x others)
  where
    by : (b : Bool) → test y ≡ b → cond b (y ∷ filter test xs) (filter test xs) ≡ x ∷ others → (filter test xs ≡ x ∷ others → test x ≡ true) → test x ≡ true
    by true is h later = let same : y ≡ x = cc in ap test (sym same) ∙ is
    by false is h later = later h

-- ---- what a filter gives at its first two calls

module _ {S A B C : Type 0} {steps : S → Option A → S → Type 0} {v : A → B} {s : S} (f : B → C) (test : C → Bool) (xs : List B)
    (gives : YieldsList steps v s (filter (λ x. test (f x)) xs)) where
  pub gives_none : (r : Option A) (t : S) → r ≡ None → steps s r t → filter test (map f xs) ≡ []
  gives_none r t is step = sym (map-filter f test xs) ∙ ap (map f) (sym (YieldsList-end gives [] s refl r t is step).0)

  pub gives_one : (q r : Option A) (t u : S) (x : A) → q ≡ Some x → steps s q t → is_some r ≡ false → steps t r u → filter test (map f xs) ≡ f (v x) ∷ []
  gives_one q None t u x first step lacks last =
      sym (map-filter f test xs) ∙ ap (map f) (sym (YieldsList-end gives (x ∷ []) t (t, subst (λ o. steps s o t) first step, refl) None u refl last).0)
  gives_one q (Some y) t u x first step lacks last = absurd (true≢false lacks)

  pub gives_two : (q r : Option A) (t u : S) (x : A) → q ≡ Some x → steps s q t → is_some r ≡ true → steps t r u → 1 < length (filter test (map f xs))
  gives_two q (Some y) t u x first step has next =
      let more : 1 < length (filter (λ x. test (f x)) xs) =
      (YieldsList-turn gives (x ∷ []) t (t, subst (λ o. steps s o t) first step, refl) (Some y) u y refl next).0 in
      rw (sym (map-filter f test xs), length-map) more
  gives_two q None t u x first step has next = absurd (false≢true has)

-- ---- lists whose items are replaced

-- a list whose items up to i are replaced, and which has the item x at i
pub replaced_more : {A : Type 0} (f : A → A) (xs : List A) (i : ℕ) (x y : A) → i < length xs → x ≡ get_or xs i x → y ≡ f x
    → take (i + 1) (set xs i y) ++ map f (drop (i + 1) (set xs i y)) ≡ take i xs ++ map f (drop i xs)
replaced_more f [] i x y lt is new = absurd (omega (arith, lt))
replaced_more f (z ∷ xs) zero x y lt is new = ap (λ w. w ∷ map f xs) (new ∙ ap f is)
replaced_more f (z ∷ xs) (suc i) x y lt is new =
    let more = replaced_more f xs i x y (omega (arith, lt)) is new in
    rw (add-one) (rw add-one at (ap (λ ys. z ∷ ys) more))

-- a member stays, or it is the one that another takes the place of
pub set_or_same : {A : Type 0} (xs : List A) (k : ℕ) (y x : A) → In x xs → In x (set xs k y) ⊎ ((d : A) → get_or xs k d ≡ x)
set_or_same [] k y x i = absurd i
set_or_same (z ∷ xs) zero y x (inl e) = inr (λ d. e)
set_or_same (z ∷ xs) zero y x (inr i) = inl (inr i)
set_or_same (z ∷ xs) (suc k) y x (inl e) = inl (inl e)
set_or_same (z ∷ xs) (suc k) y x (inr i) = elim (set_or_same xs k y x i) [
  | inl j ↦ inl (inr j)
  | inr same ↦ inr same
]
