-- That one of the locks which are discovered at a path passes a test where one passes it that covers the path.
use Rattle.std.proofs.Common.{◌≡◌, ℕ, zero, suc, ◌+◌, ◌<◌, ◌≤◌, Bool, true, false, ◌&&◌, ◌||◌, ◌==◌, cond, List, [], ◌∷◌, length, refl, sym, ap, ◌∙◌, inl, inr, arith}
use Rattle.std.specs.Prelude.{filter}
use Rattle.std.specs.List.{list_any}
use Rattle.std.proofs.lemmas.Bool.{cases_Bool, cases_lt, eq-eqb, and_parts}
use Rattle.std.proofs.lemmas.List.Folds.{list_any-append}
use Rattle.dav_path_core.specs.Fronts.{Path, is_front, is_same_path}
use Rattle.dav_path_core.proofs.paths.FrontLemmas.{is_front-parts, is_same_path-same}
use Rattle.dav_locks_core.specs.Lock.{Lock}
use Rattle.dav_locks_core.specs.Locks.{lock_path, covers, height, covering_at, covering_from, discovered_locks}

-- ---- tests of lists

pub and_true : (b : Bool) → (b && true) ≡ b
and_true true = refl
and_true false = refl

pub and_false : (b : Bool) → (b && false) ≡ false
and_false true = refl
and_false false = refl

or_true : (b : Bool) → (b || true) ≡ true
or_true true = refl
or_true false = refl

pub any_filter : {A : Type 0} (test kept : A → Bool) (xs : List A) → list_any test (filter kept xs) ≡ list_any (λ x. test x && kept x) xs
any_filter test kept [] = refl
any_filter test kept (x ∷ xs) = by (kept x) (any_filter test kept xs)
  where
    by : (k : Bool) → list_any test (filter kept xs) ≡ list_any (λ x. test x && kept x) xs
        → list_any test (cond k (x ∷ filter kept xs) (filter kept xs)) ≡ ((test x && k) || list_any (λ x. test x && kept x) xs)
    by true h = ap (λ b. test x || b) h ∙ ap (λ b. b || list_any (λ x. test x && kept x) xs) (sym (and_true (test x)))
    by false h = h ∙ ap (λ b. b || list_any (λ x. test x && kept x) xs) (sym (and_false (test x)))

regrouped : (a x b y : Bool) → ((a || x) || (b || y)) ≡ ((a || b) || (x || y))
regrouped true x b y = refl
regrouped false x true y = or_true x
regrouped false x false y = refl

any_or : {A : Type 0} (test other : A → Bool) (xs : List A) → (list_any test xs || list_any other xs) ≡ list_any (λ x. test x || other x) xs
any_or test other [] = refl
any_or test other (x ∷ xs) =
    regrouped (test x) (list_any test xs) (other x) (list_any other xs) ∙ ap (λ b. (test x || other x) || b) (any_or test other xs)

pub any_agree : {A : Type 0} (test other : A → Bool) → ((x : A) → test x ≡ other x) → (xs : List A) → list_any test xs ≡ list_any other xs
any_agree test other same [] = refl
any_agree test other same (x ∷ xs) = ap (λ b. b || list_any test xs) (same x) ∙ ap (λ b. other x || b) (any_agree test other same xs)

any_never : {A : Type 0} (xs : List A) → list_any (λ (x : A). false) xs ≡ false
any_never [] = refl
any_never (x ∷ xs) = any_never xs

-- ---- how deep a lock that covers a path stands

-- the number is one of so many from n on
abbrev among : ℕ → ℕ → ℕ → Bool
among n zero h = false
among n (suc more) h = (h == n) || among (n + 1) more h

is_among : (n more h : ℕ) → n ≤ h → h < n + more → among n more h ≡ true
is_among n zero h low high = absurd (omega arith)
is_among n (suc more) h low high = elim (cases_lt n h) [
  | inl later ↦ ap (λ b. (h == n) || b) (is_among (n + 1) more h (omega arith) (omega arith)) ∙ or_true (h == n)
  | inr first ↦ ap (λ b. b || among (n + 1) more h) (eq-eqb h n (omega arith))
]

front_short : (f p : Path) → is_front f p ≡ true → length f ≤ length p
front_short [] p h = omega arith
front_short (s ∷ f) [] h = absurd (cc)
front_short (s ∷ f) (t ∷ p) h = let shorter = front_short f p (is_front-parts s t f p h).1 in omega arith

covering_short : (l : Lock) (p : Path) → covers l p ≡ true → height l ≤ length p
covering_short l p h = elim (cases_Bool (is_same_path (lock_path l) p)) [
  | inl same ↦ omega (arith, ap length (is_same_path-same (lock_path l) p same))
  | inr other ↦ front_short (lock_path l) p
      (and_parts l.deep (is_front (lock_path l) p) (sym (ap (λ b. b || (l.deep && is_front (lock_path l) p)) other) ∙ h)).1
]

-- ---- what is discovered

joined : (t c a b : Bool) → ((t && (c && a)) || (t && (c && b))) ≡ (t && (c && (a || b)))
joined true true a b = refl
joined true false a b = refl
joined false c a b = refl

never : (t c : Bool) → (t && (c && false)) ≡ false
never true true = refl
never true false = refl
never false c = refl

module _ (test : Lock → Bool) (locks : List Lock) (p : Path) where
  from : (n more : ℕ) → list_any test (covering_from locks p n more) ≡ list_any (λ l. test l && (covers l p && among n more (height l))) locks
  from n zero = sym (any_agree (λ l. test l && (covers l p && false)) (λ l. false) (λ l. never (test l) (covers l p)) locks ∙ any_never locks)
  from n (suc more) =
      list_any-append test (covering_at locks p n) (covering_from locks p (n + 1) more)
      ∙ ap (λ b. b || list_any test (covering_from locks p (n + 1) more)) (any_filter test (λ l. covers l p && (height l == n)) locks)
      ∙ ap (λ b. list_any (λ l. test l && (covers l p && (height l == n))) locks || b) (from (n + 1) more)
      ∙ any_or (λ l. test l && (covers l p && (height l == n))) (λ l. test l && (covers l p && among (n + 1) more (height l))) locks
      ∙ any_agree _ (λ l. test l && (covers l p && among n (suc more) (height l))) (λ l. joined (test l) (covers l p) (height l == n) (among (n + 1) more (height l))) locks

  -- of the locks that are discovered one passes a test where one passes it that covers the path
  pub any_discovered : list_any test (discovered_locks locks p) ≡ list_any (λ l. test l && covers l p) locks
  any_discovered = from 0 (suc (length p)) ∙ any_agree (λ l. test l && (covers l p && among 0 (suc (length p)) (height l))) (λ l. test l && covers l p) each locks
    where
      each : (l : Lock) → (test l && (covers l p && among 0 (suc (length p)) (height l))) ≡ (test l && covers l p)
      each l = elim (cases_Bool (covers l p)) [
        | inl covered ↦ ap (λ b. test l && (covers l p && b))
            (is_among 0 (suc (length p)) (height l) (omega arith) (let short = covering_short l p covered in omega arith))
            ∙ ap (λ b. test l && b) (and_true (covers l p))
        | inr apart ↦ ap (λ b. test l && (b && among 0 (suc (length p)) (height l))) apart ∙ sym (ap (λ b. test l && b) apart)
      ]
