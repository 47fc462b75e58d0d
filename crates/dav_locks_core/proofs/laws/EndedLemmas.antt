-- Which locks a list loses, and what stands where a token is found.
use Rattle.std.proofs.Common.{◌≡◌, ◌⊎◌, inl, inr, ℕ, ◌+◌, ◌<◌, zero, suc, Bool, true, false, ◌||◌, cond, List, [], ◌∷◌, ◌++◌, length, get_or, Option, Some, None, option_map, refl, sym, ◌∙◌, ap, subst, arith}
use Rattle.std.specs.Prelude.{filter, remove, set, nat_le}
use Rattle.std.proofs.lemmas.Bool.{cases_Bool, false≢true, or_left, or_right}
use Rattle.std.proofs.lemmas.Option.{none-some}
use Rattle.dav_path_core.specs.Fronts.{Path}
use Rattle.dav_locks_core.specs.Lock.{Lock}
use Rattle.dav_locks_core.specs.Locks.{found_token, found_from, found_here, better, height, refreshed_lock}
use Rattle.dav_locks_core.specs.Ended.{SameButTimes, LocksEnded}
use Rattle.dav_path_core.proofs.lists.MemberLemmas.{In}

pub LocksEnded-refl : (gone : Lock → Bool) (locks : List Lock) → LocksEnded gone locks locks
LocksEnded-refl gone [] = tt
LocksEnded-refl gone (a ∷ locks) = inl (refl, LocksEnded-refl gone locks)

pub LocksEnded-push : (gone : Lock → Bool) (locks : List Lock) (l : Lock) → LocksEnded gone locks (locks ++ l ∷ [])
LocksEnded-push gone [] l = tt
LocksEnded-push gone (a ∷ locks) l = inl (refl, LocksEnded-push gone locks l)

-- what goes is gone by the test
LocksEnded-one : (gone : Lock → Bool) (a : Lock) (old new : List Lock) → gone a ≡ true → LocksEnded gone old new → LocksEnded gone (a ∷ old) new
LocksEnded-one gone a old [] h k = (h, k)
LocksEnded-one gone a old (b ∷ new) h k = inr (h, k)

pub LocksEnded-remove : (gone : Lock → Bool) (locks : List Lock) (k : ℕ) → ((d : Lock) → k < length locks → gone (get_or locks k d) ≡ true) → LocksEnded gone locks (remove locks k)
LocksEnded-remove gone [] k h = tt
LocksEnded-remove gone (a ∷ locks) zero h = LocksEnded-one gone a locks locks (h a (omega arith)) (LocksEnded-refl gone locks)
LocksEnded-remove gone (a ∷ locks) (suc k) h = inl (refl, LocksEnded-remove gone locks k (λ d lt. h d (omega arith)))

pub LocksEnded-filter : (gone keep : Lock → Bool) (locks : List Lock) → ((l : Lock) → In l locks → keep l ≡ false → gone l ≡ true)
    → LocksEnded gone locks (filter keep locks)
LocksEnded-filter gone keep [] h = tt
LocksEnded-filter gone keep (a ∷ locks) h =
    let rest = LocksEnded-filter gone keep locks (λ l i. h l (inr i)) in
    elim (keep a) as (λ b. keep a ≡ b → LocksEnded gone (a ∷ locks) (cond b (a ∷ filter keep locks) (filter keep locks))) [
      | true ↦ λ e. inl (refl, rest)
      | false ↦ λ e. LocksEnded-one gone a locks (filter keep locks) (h a (inl refl) e) rest
    ] refl

pub LocksEnded-set : (gone : Lock → Bool) (locks : List Lock) (k : ℕ) (l : Lock) (now : ℕ) (timeout : Option ℕ) → l ≡ refreshed_lock now timeout (get_or locks k l)
    → LocksEnded gone locks (set locks k l)
LocksEnded-set gone [] zero l now timeout h = tt
LocksEnded-set gone [] (suc k) l now timeout h = tt
LocksEnded-set gone (a ∷ locks) zero l now timeout h = inl (times h, LocksEnded-refl gone locks)
  where
    times : l ≡ refreshed_lock now timeout a → SameButTimes a l
    times h = h ∙ ap (λ (m : Lock). record a { timeout_at = m.timeout_at; timeout = m.timeout }) (sym h)
LocksEnded-set gone (a ∷ locks) (suc k) l now timeout h = inl (refl, LocksEnded-set gone locks k l now timeout h)

-- a test that doesn't look at timeouts
abbrev pub IgnoresTimes : (Lock → Bool) → Type 0
IgnoresTimes test = (a b : Lock) → SameButTimes a b → test b ≡ test a

pub SameButTimes-trans : (a b c : Lock) → SameButTimes a b → SameButTimes b c → SameButTimes a c
SameButTimes-trans a b c e k = k ∙ ap (λ (l : Lock). record l { timeout_at = c.timeout_at; timeout = c.timeout }) e

pub LocksEnded-trans : (g h : Lock → Bool) → IgnoresTimes h → (a b c : List Lock) → LocksEnded g a b → LocksEnded h b c → LocksEnded (λ l. g l || h l) a c
LocksEnded-trans g h ignores [] b c p q = tt
LocksEnded-trans g h ignores (x ∷ a) [] c p q = LocksEnded-one (λ l. g l || h l) x a c (or_left _ _ p.0) (LocksEnded-trans g h ignores a [] c p.1 tt)
LocksEnded-trans g h ignores (x ∷ a) (y ∷ b) [] p q = elim p [
  | inl same ↦ (or_right _ _ (sym (ignores x y same.0) ∙ q.0), LocksEnded-trans g h ignores a b [] same.1 q.1)
  | inr lost ↦ (or_left _ _ lost.0, LocksEnded-trans g h ignores a (y ∷ b) [] lost.1 q)
]
LocksEnded-trans g h ignores (x ∷ a) (y ∷ b) (z ∷ c) p q = elim p [
  | inl same ↦ elim q [
    | inl again ↦ inl (SameButTimes-trans x y z same.0 again.0, LocksEnded-trans g h ignores a b c same.1 again.1)
    | inr lost ↦ inr (or_right _ _ (sym (ignores x y same.0) ∙ lost.0), LocksEnded-trans g h ignores a b (z ∷ c) same.1 lost.1)
  ]
  | inr lost ↦ inr (or_left _ _ lost.0, LocksEnded-trans g h ignores a (y ∷ b) (z ∷ c) lost.1 q)
]

-- ---- the place that is found

better_one : (a b : Option (ℕ × ℕ)) (p : ℕ × ℕ) → better a b ≡ Some p → (a ≡ Some p) ⊎ (b ≡ Some p)
better_one None b p h = inr h
better_one (Some a) None p h = inl h
better_one (Some a) (Some b) p h = elim (cases_Bool (nat_le a.1 b.1)) [
  | inl t ↦ inl (subst (λ w. cond w (Some a) (Some b) ≡ Some p) t h)
  | inr f ↦ inr (subst (λ w. cond w (Some a) (Some b) ≡ Some p) f h)
]

pub found_from_at : (n : ℕ) (locks : List Lock) (p : Path) (token : List ℕ) (f : ℕ × ℕ) → found_from n locks p token ≡ Some f
    → (k : ℕ) × (f.0 ≡ n + k) × (k < length locks) × ((d : Lock) → found_here p token (get_or locks k d) ≡ true)
found_from_at n [] p token f h = cc
found_from_at n (l ∷ locks) p token f h = elim (better_one (cond (found_here p token l) (Some (n, height l)) None) (found_from (n + 1) locks p token) f h) [
  | inl here ↦ elim (cases_Bool (found_here p token l)) [
    | inl t ↦
        let e : Some (n, height l) ≡ Some f = subst (λ w. cond w (Some (n, height l)) None ≡ Some f) t here in
        let pair : (n, height l) ≡ f = cc in
        let place : n ≡ f.0 = ap (λ q. q.0) pair in
        (0, omega arith, omega arith, λ d. t)
    | inr no_place ↦ absurd (none-some f (subst (λ w. cond w (Some (n, height l)) None ≡ Some f) no_place here))
  ]
  | inr there ↦ let r = found_from_at (n + 1) locks p token f there in (suc r.0, omega arith, omega arith, λ d. r.3 d)
]

-- at the found place stands a lock with that token, at the path or above
pub found_at : (locks : List Lock) (p : Path) (token : List ℕ) (k : ℕ) → found_token locks p token ≡ Some k → (d : Lock) → found_here p token (get_or locks k d) ≡ true
unfolding found_token
found_at locks p token k h d = by (found_from 0 locks p token) refl h
  where
    by : (o : Option (ℕ × ℕ)) → found_from 0 locks p token ≡ o → option_map (λ f. f.0) o ≡ Some k → found_here p token (get_or locks k d) ≡ true
    by None e g = cc
    by (Some f) e g =
        let r = found_from_at 0 locks p token f e in
        let same : f.0 ≡ k = cc in
        let place : r.0 ≡ k = omega arith in
        subst (λ j. found_here p token (get_or locks j d) ≡ true) place (r.3 d)
