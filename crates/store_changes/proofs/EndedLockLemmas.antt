-- Locks that have a token, and the request that ends one.
use Rattle.std.proofs.Common.{◌≡◌, ◌<◌, ◌+◌, ◌^◌, ℕ, Bool, true, false, not, ◌&&◌, ◌||◌, cond, Option, Some, None, option_map, List, [], ◌∷◌, Err, nat_le, bytes_eq, refl, sym, ◌∙◌, ap, subst, arith, inl, inr}
use Rattle.std.specs.List.{list_any}
use Rattle.std.proofs.lemmas.Bool.{and_from, and_parts, false≢true, true≢false, or_cases, or_left, or_right}
use Rattle.dav_path_core.specs.Fronts.{Path, is_front}
use Rattle.dav_path_core.proofs.paths.FrontLemmas.{is_front-refl}
use Rattle.dav_locks_core.specs.Lock.{Lock}
use Rattle.dav_locks_core.specs.Locks.{better, found_from, found_here, found_token, height, lock_path}
use Rattle.dav_locks_core.specs.Stale.{is_stale, without_stale}
use Rattle.dav_guarded_core.specs.Requests.{Refusal, Fs, Locked, NoLock, OutOfMemory}
use Rattle.dav_guarded_core.specs.Stores.{Stores}
use Rattle.dav_notes_core.specs.Noting.{Noted}
use Rattle.dav_notes_core.specs.Stepping.{AnsweredBy}
use Rattle.store_changes.specs.declared.adding.Unimported.{Unimported}
use Rattle.store_changes.specs.Adding.{RefusesBy}
use Rattle.store_changes.specs.EndedLocks.{EndsStanding, ending_note, is_found_at, is_live_with, stands_with}

-- ---- one lock after another

-- one lock more, whether it has expired or not
any_more : (test : Lock → Bool) (now : ℕ) (l : Lock) (locks : List Lock) → list_any test (without_stale now locks) ≡ true → list_any test (without_stale now (l ∷ locks)) ≡ true
any_more test now l locks h = by (not (is_stale now l))
  where
    by : (b : Bool) → list_any test (cond b (l ∷ without_stale now locks) (without_stale now locks)) ≡ true
    by true = or_right (test l) (list_any test (without_stale now locks)) h
    by false = h

-- of all locks these are left, and none of those before them is the one that is looked for
pub record Passed (token : List ℕ) (now : ℕ) (all left : List Lock) : Type 0 where
  pub none : stands_with token now left ≡ stands_with token now all
  pub within : (test : Lock → Bool) → list_any test (without_stale now left) ≡ true → list_any test (without_stale now all) ≡ true

pub passes_none : (token : List ℕ) (now : ℕ) (all : List Lock) → Passed token now all all
passes_none token now all = record { none = refl; within = λ test h. h }

pub passes_one : (token : List ℕ) (now : ℕ) (all : List Lock) (l : Lock) (left : List Lock) → Passed token now all (l ∷ left) → is_live_with token now l ≡ false → Passed token now all left
passes_one token now all l left p other = record {
  none = sym (ap (λ (b : Bool). b || stands_with token now left) other) ∙ p.none;
  within = λ test h. p.within test (any_more test now l left h);
}

-- the lock that is looked for is found at its own path
pub finds_one : (token : List ℕ) (now : ℕ) (all : List Lock) (l : Lock) (left : List Lock) → Passed token now all (l ∷ left) → is_live_with token now l ≡ true → is_found_at (lock_path l) token now all ≡ true
finds_one token now all l left p named =
    let parts = and_parts (bytes_eq l.token token) (not (is_stale now l)) named in
    let here = and_from (bytes_eq l.token token) (is_front (lock_path l) (lock_path l)) parts.0 (is_front-refl (lock_path l)) in
    let there : list_any (found_here (lock_path l) token) (without_stale now (l ∷ left)) ≡ true =
    subst (λ (b : Bool). list_any (found_here (lock_path l) token) (cond b (l ∷ without_stale now left) (without_stale now left)) ≡ true) (sym parts.1)
    (or_left (found_here (lock_path l) token l) (list_any (found_here (lock_path l) token) (without_stale now left)) here) in
    p.within (found_here (lock_path l) token) there

-- what is found at a path stands
pub found_stands : (path : Path) (token : List ℕ) (now : ℕ) (locks : List Lock) → is_found_at path token now locks ≡ true → stands_with token now locks ≡ true
found_stands path token now [] h = h
found_stands path token now (l ∷ locks) h = by (not (is_stale now l)) h (found_stands path token now locks)
  where
    by : (b : Bool) → list_any (found_here path token) (cond b (l ∷ without_stale now locks) (without_stale now locks)) ≡ true
        → (is_found_at path token now locks ≡ true → stands_with token now locks ≡ true) → ((bytes_eq l.token token && b) || stands_with token now locks) ≡ true
    by false h rest = or_right (bytes_eq l.token token && false) (stands_with token now locks) (rest h)
    by true h rest = elim (or_cases (found_here path token l) (list_any (found_here path token) (without_stale now locks)) h) [
      | inl here ↦ or_left (bytes_eq l.token token && true) (stands_with token now locks) (and_from (bytes_eq l.token token) true (and_parts (bytes_eq l.token token) (is_front (lock_path l) path) here).0 refl)
      | inr there ↦ or_right (bytes_eq l.token token && true) (stands_with token now locks) (rest there)
    ]

-- a moment comes, and such a lock stands then
pub stands_then : (last m now : ℕ) (path : Path) (token : List ℕ) (locks : List Lock) → last + 1 < 2 ^ 64 → m ≡ now → is_found_at path token m locks ≡ true → (last + 1 < 2 ^ 64) × (stands_with token now locks ≡ true)
stands_then last m now path token locks comes at found = (comes, found_stands path token now locks (subst (λ (k : ℕ). is_found_at path token k locks ≡ true) at found))

-- ---- what is found by its token

some_better : (a : ℕ × ℕ) (o : Option (ℕ × ℕ)) → better (Some a) o ≡ None → ⊥
some_better a None h = cc
some_better a (Some b) h = by (nat_le a.1 b.1) h
  where
    by : (t : Bool) → cond t (Some a) (Some b) ≡ None → ⊥
    by true h = cc
    by false h = cc

none_from : (k : ℕ) (locks : List Lock) (path : Path) (token : List ℕ) → found_from k locks path token ≡ None → list_any (found_here path token) locks ≡ false
none_from k [] path token h = refl
none_from k (l ∷ locks) path token h = by (found_here path token l) h (none_from (k + 1) locks path token)
  where
    by : (b : Bool) → better (cond b (Some (k, height l)) None) (found_from (k + 1) locks path token) ≡ None
        → (found_from (k + 1) locks path token ≡ None → list_any (found_here path token) locks ≡ false) → (b || list_any (found_here path token) locks) ≡ false
    by true h rest = absurd (some_better (k, height l) (found_from (k + 1) locks path token) h)
    by false h rest = rest h

none_mapped : (o : Option (ℕ × ℕ)) → option_map (λ f. f.0) o ≡ None → o ≡ None
none_mapped None h = refl
none_mapped (Some f) h = cc

pub none_found : (locks : List Lock) (path : Path) (token : List ℕ) → found_token locks path token ≡ None → list_any (found_here path token) locks ≡ false
unfolding found_token
none_found locks path token h = none_from 0 locks path token (none_mapped (found_from 0 locks path token) h)

-- ---- the request

-- no answer to it is a refusal
not_refused : (s s' : Stores) (now : ℕ) (principal : Option (List ℕ)) (path : Path) (token : List ℕ) (x : Refusal) → is_found_at path token now s.locks ≡ true
    → AnsweredBy None s (ending_note now principal path token).request (Err x) s' → ⊥
not_refused s s' now principal path token (Fs e) found h = false≢true h.step.0.0
not_refused s s' now principal path token (Locked l) found h = omega (arith, h.step.0.1)
not_refused s s' now principal path token NoLock found h = true≢false (sym found ∙ none_found (without_stale now s.locks) path token h.step.0)
not_refused s s' now principal path token OutOfMemory found h = h.step.0 refl

pub never_refused : (s s' : Stores) (n : Noted) (e : Unimported) → EndsStanding s n → RefusesBy s n s' e → ⊥
never_refused s s' n e ends refused =
    not_refused s s' n.request.now ends.principal ends.path ends.token refused.0 ends.found (subst (λ (m : Noted). AnsweredBy m.drawn s m.request (Err refused.0) s') ends.is refused.2)
