-- Which locks refuse to make something once all at the path and below it is gone, by the locks that cover the folder above.
use Rattle.std.proofs.Common.{◌≡◌, inl, inr, ℕ, zero, suc, ◌+◌, ◌==◌, Bool, true, false, cond, not, ◌&&◌, ◌||◌, List, [], ◌∷◌, length, Option, Some, None, refl, sym, ap, ◌∙◌, subst}
use Rattle.std.specs.Prelude.{Contains, filter}
use Rattle.std.specs.List.{find, list_any}
use Rattle.std.proofs.lemmas.Bool.{and_parts, cases_Bool, false_from_ne_true, or_parts, true≢false}
use Rattle.dav_path_core.specs.Fronts.{Path, is_front, is_same_path, parent}
use Rattle.dav_path_core.proofs.lists.MemberLemmas.{Contains-In, In, In-filter}
use Rattle.dav_path_core.proofs.paths.FrontLemmas.{is_front-refl, is_front-trans, is_same_path-same}
use Rattle.dav_locks_core.specs.Lock.{Lock}
use Rattle.dav_locks_core.specs.Locks.{LockCaller as LocksCaller, any_held, covering_at, covering_from, covers, discovered_locks, height, is_held_by, is_at_or_below, lock_path, refuses_change, without_below}
use Rattle.dav_guarded_core.specs.Step.{State}
use Rattle.dav_session_core.specs.Callers.{Caller, as_caller}
use Rattle.dav_session_core.specs.Clearing.{refusing_anew}
use Rattle.dav_session_core.specs.Private.Anew.{any_leads, leads_to, refuses_anew, with_tokens}
use Rattle.dav_path_core.proofs.paths.AbovePaths.{above, parent_front}
use Rattle.dav_path_core.proofs.paths.SubtreePaths.{in_either}
use Rattle.dav_locks_core.proofs.answers.CoveringTokens.{and_false, and_true, any_agree, any_discovered, any_filter}

-- ---- a lock above a path

both_ways : (a b : Bool) → (a ≡ true → b ≡ true) → (b ≡ true → a ≡ true) → a ≡ b
both_ways true b h k = sym (h refl)
both_ways false true h k = k refl
both_ways false false h k = refl

covers_deep : (q p : Path) → (is_same_path q p || is_front q p) ≡ is_front q p
covers_deep q p = elim (cases_Bool (is_same_path q p)) [
  | inl same ↦ ap (λ b. b || is_front q p) same ∙ sym (subst (λ r. is_front q r ≡ true) (is_same_path-same q p same) (is_front-refl q))
  | inr other ↦ ap (λ b. b || is_front q p) other
]

-- what stands neither at the path nor below it stands above it exactly where it stands at the folder above, or above that
module _ (q p : Path) (out : is_front p q ≡ false) where
  not_same : is_same_path q p ≡ false
  not_same = false_from_ne_true _ (λ same.
      true≢false (sym (subst (λ r. is_front p r ≡ true) (sym (is_same_path-same q p same)) (is_front-refl p)) ∙ out))

  front_up : is_front q p ≡ is_front q (parent p)
  front_up = both_ways _ _ up (λ h. is_front-trans q (parent p) p h (parent_front p))
    where
      up : is_front q p ≡ true → is_front q (parent p) ≡ true
      up h = elim (above q p h) [
        | inl same ↦ absurd (true≢false (sym (subst (λ r. is_front p r ≡ true) (sym same) (is_front-refl p)) ∙ out))
        | inr f ↦ f
      ]

  covers_up : (deep : Bool) → (is_same_path q p || (deep && is_front q p)) ≡ (deep && (is_same_path q (parent p) || (deep && is_front q (parent p))))
  covers_up true = ap (λ b. b || is_front q p) not_same ∙ front_up ∙ sym (covers_deep q (parent p))
  covers_up false = ap (λ b. b || false) not_same

-- a lock that isn't there or below covers the path exactly where it leads to it, and covers the folder above
leads_up : (p : Path) (l : Lock) → (covers l p && not (is_at_or_below l p)) ≡ (leads_to p l && covers l (parent p))
leads_up p l = by (is_at_or_below l p) refl
  where
    by : (below : Bool) → is_at_or_below l p ≡ below → (covers l p && not below) ≡ ((l.deep && not below) && covers l (parent p))
    by true e = and_false (covers l p) ∙ sym (ap (λ b. b && covers l (parent p)) (and_false l.deep))
    by false e = and_true (covers l p) ∙ covers_up (lock_path l) p e l.deep ∙ sym (ap (λ b. b && covers l (parent p)) (and_true l.deep))

-- ---- the tests of them

swapped : (a b c : Bool) → ((a && b) && c) ≡ ((a && c) && b)
swapped true true true = refl
swapped true true false = refl
swapped true false true = refl
swapped true false false = refl
swapped false b c = refl

there : (h c w k : Bool) → ((h && ((c && w) || false)) && k) ≡ ((h && w) && (c && k))
there true true true k = refl
there true true false k = refl
there true false true k = refl
there true false false k = refl
there false c w k = refl

here : (t h w d : Bool) → (((t && h) && w) && d) ≡ ((h && w) && (t && d))
here true true w d = refl
here true false w d = refl
here false true true d = refl
here false true false d = refl
here false false w d = refl

pub of_filter : {A : Type 0} (test : A → Bool) (xs : List A) (x : A) → In x (filter test xs) → In x xs × (test x ≡ true)
of_filter test [] x i = absurd i
of_filter test (y ∷ xs) x i = elim (cases_Bool (test y)) [
  | inl t ↦ elim (subst (λ b. In x (cond b (y ∷ filter test xs) (filter test xs))) t i) [
    | inl e ↦ (inl e, ap test (sym e) ∙ t)
    | inr j ↦ (let k = of_filter test xs x j in (inr k.0, k.1))
  ]
  | inr f ↦ (let k = of_filter test xs x (subst (λ b. In x (cond b (y ∷ filter test xs) (filter test xs))) f i) in (inr k.0, k.1))
]

no_filter : {A : Type 0} (test : A → Bool) (xs : List A) → list_any test xs ≡ false → filter test xs ≡ []
no_filter test [] h = refl
no_filter test (x ∷ xs) h =
    let parts = or_parts (test x) (list_any test xs) h in
    ap (λ b. cond b (x ∷ filter test xs) (filter test xs)) parts.0 ∙ no_filter test xs parts.1

find_none : {A : Type 0} (test : A → Bool) (xs : List A) → find test xs ≡ None → list_any test xs ≡ false
find_none test [] h = refl
find_none test (x ∷ xs) h = elim (cases_Bool (test x)) [
  | inl t ↦ absurd (let no : Some x ≡ None = subst (λ b. cond b (Some x) (find test xs) ≡ None) t h in cc)
  | inr f ↦ ap (λ b. b || list_any test xs) f ∙ find_none test xs (subst (λ b. cond b (Some x) (find test xs) ≡ None) f h)
]

find_some : {A : Type 0} (test : A → Bool) (xs : List A) (x : A) → find test xs ≡ Some x → In x xs × (test x ≡ true)
find_some test [] x h = absurd (cc)
find_some test (y ∷ xs) x h = elim (cases_Bool (test y)) [
  | inl t ↦ (let e : Some y ≡ Some x = subst (λ b. cond b (Some y) (find test xs) ≡ Some x) t h in let same : y ≡ x = cc in (inl same, ap test (sym same) ∙ t))
  | inr f ↦ (let k = find_some test xs x (subst (λ b. cond b (Some y) (find test xs) ≡ Some x) f h) in (inr k.0, k.1))
]

-- what is discovered at a path covers it
in_covering : (locks : List Lock) (p : Path) (n more : ℕ) (l : Lock) → In l (covering_from locks p n more) → In l locks × (covers l p ≡ true)
in_covering locks p n zero l i = absurd i
in_covering locks p n (suc more) l i = elim (in_either l (covering_at locks p n) (covering_from locks p (n + 1) more) i) [
  | inl j ↦ (let k = of_filter (λ l. covers l p && (height l == n)) locks l j in (k.0, (and_parts (covers l p) (height l == n) k.1).0))
  | inr j ↦ in_covering locks p (n + 1) more l j
]

-- ---- what refuses

module _ (locks : List Lock) (p : Path) (who : LocksCaller) where
  abbrev left : List Lock
  left = without_below p locks

  abbrev found : List Lock
  found = discovered_locks locks (parent p)

  -- a lock that is held is left and covers the path where one that leads there is found
  any_same : any_held left p who ≡ any_leads p who found
  any_same =
      any_filter (λ l. covers l p && is_held_by l who) (λ l. not (is_at_or_below l p)) locks
      ∙ any_agree (λ l. (covers l p && is_held_by l who) && not (is_at_or_below l p)) (λ l. (leads_to p l && is_held_by l who) && covers l (parent p)) each locks
      ∙ sym (any_discovered (λ l. leads_to p l && is_held_by l who) locks (parent p))
    where
      each : (l : Lock) → ((covers l p && is_held_by l who) && not (is_at_or_below l p)) ≡ ((leads_to p l && is_held_by l who) && covers l (parent p))
      each l =
          swapped (covers l p) (is_held_by l who) (not (is_at_or_below l p)) ∙ ap (λ b. b && is_held_by l who) (leads_up p l)
          ∙ swapped (leads_to p l) (covers l (parent p)) (is_held_by l who)

  -- so does one that refuses
  test_same : (l : Lock) → (refuses_change left p false who l && not (is_at_or_below l p)) ≡ (refuses_anew p who (any_leads p who found) l && covers l (parent p))
  test_same l =
      let may = not l.shared || not (any_leads p who found) in
      ap (λ b. (not (is_held_by l who) && ((covers l p && (not l.shared || not b)) || false)) && not (is_at_or_below l p)) any_same
      ∙ there (not (is_held_by l who)) (covers l p) may (not (is_at_or_below l p))
      ∙ ap (λ b. (not (is_held_by l who) && may) && b) (leads_up p l)
      ∙ sym (here (leads_to p l) (not (is_held_by l who)) may (covers l (parent p)))

  none_refuses : find (refuses_anew p who (any_leads p who found)) found ≡ None → filter (refuses_change left p false who) left ≡ []
  none_refuses h = no_filter (refuses_change left p false who) left
      (any_filter (refuses_change left p false who) (λ l. not (is_at_or_below l p)) locks
      ∙ any_agree (λ l. refuses_change left p false who l && not (is_at_or_below l p)) (λ l. refuses_anew p who (any_leads p who found) l && covers l (parent p)) test_same locks
      ∙ sym (any_discovered (refuses_anew p who (any_leads p who found)) locks (parent p))
      ∙ find_none (refuses_anew p who (any_leads p who found)) found h)

  one_refuses : (l : Lock) → find (refuses_anew p who (any_leads p who found)) found ≡ Some l → Contains (filter (refuses_change left p false who) left) l
  one_refuses l h =
      let k = find_some (refuses_anew p who (any_leads p who found)) found l h in
      let at = in_covering locks (parent p) 0 (suc (length (parent p))) l k.0 in
      let both : (refuses_change left p false who l && not (is_at_or_below l p)) ≡ true =
      test_same l ∙ ap (λ b. b && covers l (parent p)) k.1 ∙ at.1 in
      let parts = and_parts (refuses_change left p false who l) (not (is_at_or_below l p)) both in
      Contains-In _ l (In-filter (refuses_change left p false who) left l (In-filter (λ l. not (is_at_or_below l p)) locks l at.0 parts.1) parts.0)

-- ---- behind a question of the same caller

module _ (who asker : Caller) (s : State) (p q : Path) (items : List Lock) (tokens : List (List ℕ)) (principal : Option (List ℕ)) (first : Option Lock) (same : asker ≡ who) (named : tokens ≡ asker.tokens)
    (called : principal ≡ asker.principal)
    (are : items ≡ discovered_locks s.locks q) (up : q ≡ parent p)
    (is : first ≡ find (refuses_anew p (with_tokens principal tokens) (any_leads p (with_tokens principal tokens) items)) items) where
  abbrev by_caller : LocksCaller → List Lock → Option Lock
  by_caller w xs = find (refuses_anew p w (any_leads p w xs)) xs

  first_is : first ≡ by_caller (as_caller who) (discovered_locks s.locks (parent p))
  first_is =
      is ∙ ap (λ name. by_caller (with_tokens name tokens) items) called ∙ ap (λ ts. by_caller (with_tokens asker.principal ts) items) named ∙ ap (λ w. by_caller (as_caller w) items) same
      ∙ ap (by_caller (as_caller who)) (are ∙ ap (discovered_locks s.locks) up)

  pub anew_free : first ≡ None → refusing_anew s who p ≡ []
  anew_free none = none_refuses s.locks p (as_caller who) (sym first_is ∙ none)

  pub anew_refused : (l : Lock) → first ≡ Some l → Contains (refusing_anew s who p) l
  anew_refused l one = one_refuses s.locks p (as_caller who) l (sym first_is ∙ one)
