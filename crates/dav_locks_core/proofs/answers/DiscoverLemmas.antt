-- The locks on the way down to a path that cover it are those of the list that do, by the number of segments.
use Rattle.std.proofs.Common.{◌≡◌, ◌≢◌, inl, inr, ℕ, zero, suc, ◌+◌, ◌<◌, ◌≤◌, ◌==◌, ◌&&◌, ◌||◌, Bool, true, false, cond, not, List, [], ◌∷◌, ◌++◌, length, get_or, Option, Some, None, refl, sym, ap, ◌∙◌, subst, arith, append_assoc, append-nil}
use Rattle.std.specs.Prelude.{Contains, filter, option_and_then}
use Rattle.std.specs.Option.{option_map, unwrap_or}
use Rattle.std.specs.Ordering.{nat_cmp}
use Rattle.std.specs.Cmp.{nat_cmp_total}
use Rattle.std.specs.FinMap.{find, nat_cmp-IsAntisymmetric}
use Rattle.std.specs.FinMap.Entries.{same_entries}
use Rattle.std.proofs.lemmas.Bool.{eq-eqb, eqb-true, and_parts, or_cases, true≢false, false_from_ne_true}
use Rattle.std.proofs.lemmas.List.{length-append, length-map, get_or-map}
use Rattle.std.proofs.lemmas.List.Elements.{filter_agree}
use Rattle.dav_path_core.specs.Fronts.{Segment, Path, is_front, is_same_path}
use Rattle.dav_path_core.proofs.paths.FrontLemmas.{is_same_path-same, is_same_path-refl, is_front-refl, is_front-parts, is_front-cons}
use Rattle.dav_path_core.proofs.trees.Trees.{none≢some, same_some}
use Rattle.dav_locks_core.specs.Lock.{Lock}
use Rattle.dav_locks_core.specs.Locks.{lock_path, covers, height, covering_at, covering_from, discovered_locks, is_at_or_below, without_below}
use Rattle.dav_locks_core.specs.Private.LockTree.{NumberedLock, LockTree, locks_at, child_at, node_below, locks_of, covering_down}
use Rattle.dav_locks_core.specs.Private.LockRepresents.{Represents}
use Rattle.dav_locks_core.proofs.lists.NumberedLemmas.{kept_if, find-filter, InOrder-filter, found_at_place}
use Rattle.dav_path_core.proofs.lists.MemberLemmas.{append_none}
use Rattle.dav_path_core.proofs.lists.PlaceLemmas.{filter_none_at, filter_all_at, filter-contains, filter-filter, map-filter}
use Rattle.dav_locks_core.proofs.walks.SubtreeLemmas.{node_at-append, node_at-step, node_at-stuck, node_at-here, through, is_front-append}
use Rattle.dav_locks_core.proofs.trees.WayLemmas.{one_path}

-- ---- a covering lock by the number of its segments

-- the path goes on behind a front
abbrev goes_on : Path → Bool
goes_on [] = false
goes_on (s ∷ r) = true

front_of_length : (a q r : Path) → is_front a (q ++ r) ≡ true → length a ≡ length q → a ≡ q
front_of_length [] [] r f e = refl
front_of_length [] (s ∷ q) r f e = absurd (omega (arith, e))
front_of_length (x ∷ a) [] r f e = absurd (omega (arith, e))
front_of_length (x ∷ a) (s ∷ q) r f e =
    let w = is_front-parts x s a (q ++ r) f in
    let rest : a ≡ q = front_of_length a q r w.1 (omega (arith, e)) in
    λ i. w.0 i ∷ rest i

front_longer : (a q r : Path) → is_front a (q ++ r) ≡ true → length q ≤ length a → is_front q a ≡ true
front_longer a [] r f le = refl
front_longer [] (s ∷ q) r f le = absurd (omega (arith, le))
front_longer (x ∷ a) (s ∷ q) r f le =
    let w = is_front-parts x s a (q ++ r) f in
    is_front-cons s x q a (sym w.0) (front_longer a q r w.1 (omega (arith, le)))

not_longer : (q r : Path) (s : Segment) → is_same_path q (q ++ s ∷ r) ≡ false
not_longer q r s = false_from_ne_true _ (λ h.
    let same : q ≡ q ++ s ∷ r = is_same_path-same q (q ++ s ∷ r) h in
    let long : length q ≡ length (q ++ s ∷ r) = ap (λ (p : Path). length p) same in
    omega (arith, long, length-append q (s ∷ r)))

covers_front : (l : Lock) (q r : Path) → covers l (q ++ r) ≡ true → is_front (lock_path l) (q ++ r) ≡ true
covers_front l q r h = elim (or_cases (is_same_path (lock_path l) (q ++ r)) (l.deep && is_front (lock_path l) (q ++ r)) h) [
  | inl same ↦ subst (λ p. is_front (lock_path l) p ≡ true) (is_same_path-same (lock_path l) (q ++ r) same) (is_front-refl (lock_path l))
  | inr deep ↦ (and_parts l.deep _ deep).1
]

-- a lock at the front q covers q ++ r where that is q, or where it is deep
at_front : (l : Lock) (q r : Path) → lock_path l ≡ q → covers l (q ++ r) ≡ cond (goes_on r) l.deep true
at_front l q [] is =
    ap (λ b. b || (l.deep && is_front (lock_path l) (q ++ []))) (subst (λ p. is_same_path (lock_path l) p ≡ true) (is ∙ sym (append-nil q)) (is_same_path-refl (lock_path l)))
at_front l q (s ∷ r) is =
    ap (λ p. is_same_path p (q ++ s ∷ r) || (l.deep && is_front p (q ++ s ∷ r))) is
    ∙ ap (λ b. b || (l.deep && is_front q (q ++ s ∷ r))) (not_longer q r s)
    ∙ ap (λ b. l.deep && b) (is_front-append q (s ∷ r)) ∙ and_true l.deep
  where
    and_true : (b : Bool) → (b && true) ≡ b
    and_true true = refl
    and_true false = refl

covering_test : (l : Lock) (q r : Path) → (covers l (q ++ r) && (height l == length q)) ≡ (is_same_path (lock_path l) q && cond (goes_on r) l.deep true)
covering_test l q r = by (is_same_path (lock_path l) q) refl
  where
    and_true : (b : Bool) → (b && true) ≡ b
    and_true true = refl
    and_true false = refl

    by : (b : Bool) → is_same_path (lock_path l) q ≡ b → (covers l (q ++ r) && (height l == length q)) ≡ (b && cond (goes_on r) l.deep true)
    by true e =
        let is : lock_path l ≡ q = is_same_path-same (lock_path l) q e in
        ap (λ b. covers l (q ++ r) && b) (eq-eqb (height l) (length q) (ap (λ (p : Path). length p) is))
        ∙ and_true (covers l (q ++ r)) ∙ at_front l q r is
    by false e = false_from_ne_true _ (λ h.
        let w = and_parts (covers l (q ++ r)) (height l == length q) h in
        let is : lock_path l ≡ q = front_of_length (lock_path l) q r (covers_front l q r w.0) (eqb-true (height l) (length q) w.1) in
        true≢false (sym (subst (λ p. is_same_path (lock_path l) p ≡ true) is (is_same_path-refl (lock_path l))) ∙ e))

-- ---- the steps of the way down

module _ (t : LockTree) (n : ℕ) where
  -- the locks that a node adds to those before it
  module _ (s : Segment) (p : Path) (before now : List Lock) (here : List NumberedLock) (at : here ≡ locks_at t n) (added : now ≡ before ++ filter (λ l. l.deep) (locks_of here)) where
    same_here : before ++ filter (λ (l : Lock). l.deep) (locks_of (locks_at t n)) ≡ now
    same_here = ap (λ (h : List NumberedLock). before ++ filter (λ (l : Lock). l.deep) (locks_of h)) (sym at) ∙ sym added

  pub down-step : (c : ℕ) (s : Segment) (p : Path) (before now : List Lock) (here : List NumberedLock) → here ≡ locks_at t n → now ≡ before ++ filter (λ l. l.deep) (locks_of here) → child_at t n s ≡ Some c
      → before ++ covering_down t n (s ∷ p) ≡ now ++ covering_down t c p
  unfolding covering_down
  down-step c s p before now here at added e =
      ap (λ o. before ++ (filter (λ (l : Lock). l.deep) (locks_of (locks_at t n)) ++ unwrap_or (option_map (λ c. covering_down t c p) o) [])) e
      ∙ sym (append_assoc before (filter (λ (l : Lock). l.deep) (locks_of (locks_at t n))) (covering_down t c p))
      ∙ ap (λ xs. xs ++ covering_down t c p) (same_here s p before now here at added)

  pub down-stuck : (s : Segment) (p : Path) (before now : List Lock) (here : List NumberedLock) → here ≡ locks_at t n → now ≡ before ++ filter (λ l. l.deep) (locks_of here) → child_at t n s ≡ None
      → before ++ covering_down t n (s ∷ p) ≡ now
  unfolding covering_down
  down-stuck s p before now here at added e =
      ap (λ o. before ++ (filter (λ (l : Lock). l.deep) (locks_of (locks_at t n)) ++ unwrap_or (option_map (λ c. covering_down t c p) o) [])) e
      ∙ sym (append_assoc before (filter (λ (l : Lock). l.deep) (locks_of (locks_at t n))) [])
      ∙ append-nil (before ++ filter (λ (l : Lock). l.deep) (locks_of (locks_at t n))) ∙ same_here s p before now here at added

  pub down-end : (before now : List Lock) (here : List NumberedLock) → here ≡ locks_at t n → now ≡ before ++ filter (λ l. true) (locks_of here) → before ++ covering_down t n [] ≡ now
  unfolding covering_down
  down-end before now here at added =
      ap (λ (h : List NumberedLock). before ++ locks_of h) (sym at) ∙ ap (λ xs. before ++ xs) (sym (filter_all_at (λ _. true) (locks_of here) (λ _ _ _. refl))) ∙ sym added

-- ---- where there is something to copy

pub some_kept : (granted : List NumberedLock) (test : Lock → Bool) (i : ℕ) (g : NumberedLock) → i < length granted → g ≡ get_or granted i g → test g.1 ≡ true → filter test (locks_of granted) ≢ []
some_kept granted test i g lt is passes none =
    let long = length-map granted (λ (g : NumberedLock). g.1) in
    let at : get_or (locks_of granted) i g.1 ≡ g.1 = get_or-map (λ (g : NumberedLock). g.1) granted i g g.1 lt ∙ ap (λ (g : NumberedLock). g.1) (sym is) in
    let c = subst (λ xs. Contains xs g.1) none (filter-contains test (locks_of granted) i g.1 g.1 (omega (arith, long, lt)) at passes) in
    absurd (omega (arith, c.1))

module _ (t : LockTree) (n : ℕ) (before whole : List Lock) (here : List NumberedLock) (at : here ≡ locks_at t n) where
  pub some_above : (s : Segment) (p : Path) → whole ≡ before ++ covering_down t n (s ∷ p) → filter (λ l. l.deep) (locks_of here) ≢ [] → whole ≢ []
  unfolding covering_down
  some_above s p is some none =
      let parts = append_none before (covering_down t n (s ∷ p)) (sym is ∙ none) in
      let first = append_none (filter (λ (l : Lock). l.deep) (locks_of (locks_at t n))) (unwrap_or (option_map (λ c. covering_down t c p) (child_at t n s)) []) parts.1 in
      some (ap (λ (h : List NumberedLock). filter (λ (l : Lock). l.deep) (locks_of h)) at ∙ first.0)

  pub some_at_end : whole ≡ before ++ covering_down t n [] → filter (λ l. true) (locks_of here) ≢ [] → whole ≢ []
  unfolding covering_down
  some_at_end is some none =
      let parts = append_none before (covering_down t n []) (sym is ∙ none) in
      some (ap (λ (h : List NumberedLock). filter (λ (l : Lock). true) (locks_of h)) at ∙ ap (λ xs. filter (λ (l : Lock). true) xs) parts.1)

-- ---- the locks at a node

module _ (t : LockTree) (granted : List NumberedLock) (next : ℕ) (r : Represents t granted next) where
  abbrev at_path : Path → NumberedLock → Bool
  at_path q g = is_same_path (lock_path g.1) q

  -- a lock is found at a node exactly where its path leads there
  found_there : (q : Path) (m : ℕ) → node_below t 1 q ≡ Some m → (k : ℕ) → find nat_cmp k (locks_at t m) ≡ kept_if (at_path q) k (find nat_cmp k granted)
  found_there q m leads k = by (find nat_cmp k granted) refl
    where
      none : (o : Option Lock) → find nat_cmp k (locks_at t m) ≡ o → ((l : Lock) → o ≡ Some l → ⊥) → o ≡ None
      none None e h = refl
      none (Some l) e h = absurd (h l refl)

      by : (o : Option Lock) → find nat_cmp k granted ≡ o → find nat_cmp k (locks_at t m) ≡ kept_if (at_path q) k o
      by None e = none (find nat_cmp k (locks_at t m)) refl (λ l h. none≢some l (sym e ∙ (r.listed m k l h).0))
      by (Some l) e = test (is_same_path (lock_path l) q) refl
        where
          test : (b : Bool) → is_same_path (lock_path l) q ≡ b → find nat_cmp k (locks_at t m) ≡ cond b (Some l) None
          test true same =
              let w = r.stands k l e in
              let path : lock_path l ≡ q = is_same_path-same (lock_path l) q same in
              let node : w.0 ≡ m = same_some w.0 m (sym (r.listed w.0 k l w.1).1 ∙ ap (node_below t 1) path ∙ leads) in
              ap (λ n. find nat_cmp k (locks_at t n)) (sym node) ∙ w.1
          test false apart = none (find nat_cmp k (locks_at t m)) refl (λ o h.
              let w = r.listed m k o h in
              let same : l ≡ o = same_some l o (sym e ∙ w.0) in
              let path : lock_path l ≡ q = one_path t r.tree (lock_path l) q m (ap (λ (l : Lock). node_below t 1 (lock_path l)) same ∙ w.1) leads in
              true≢false (sym (subst (λ p. is_same_path (lock_path l) p ≡ true) path (is_same_path-refl (lock_path l))) ∙ apart))

  pub locks_at_path : (q : Path) (m : ℕ) → node_below t 1 q ≡ Some m → locks_of (locks_at t m) ≡ filter (λ l. is_same_path (lock_path l) q) (locks_of granted)
  locks_at_path q m leads =
      ap locks_of (same_entries nat_cmp nat_cmp_total nat_cmp-IsAntisymmetric (locks_at t m) (filter (at_path q) granted) (r.nodes_in_order m) (InOrder-filter (at_path q) granted r.in_order)
      (λ k. found_there q m leads k ∙ sym (find-filter (at_path q) granted k r.in_order)))
      ∙ map-filter (λ (g : NumberedLock). g.1) (λ l. is_same_path (lock_path l) q) granted

  -- the covering locks at a node on the way
  covering_here : (q s : Path) (m : ℕ) → node_below t 1 q ≡ Some m → filter (λ l. cond (goes_on s) l.deep true) (locks_of (locks_at t m)) ≡ covering_at (locks_of granted) (q ++ s) (length q)
  covering_here q s m leads =
      ap (filter (λ (l : Lock). cond (goes_on s) l.deep true)) (locks_at_path q m leads)
      ∙ filter-filter (λ (l : Lock). cond (goes_on s) l.deep true) (λ l. is_same_path (lock_path l) q) (locks_of granted)
      ∙ filter_agree _ _ (λ l. sym (covering_test l q s)) (locks_of granted)

  -- no lock stands at or below a path that leads nowhere
  no_lock : (q : Path) → node_below t 1 q ≡ None → (j : ℕ) (d : NumberedLock) → j < length granted → is_front q (lock_path (get_or granted j d).1) ≡ true → ⊥
  no_lock q stuck j d lt f =
      let g = get_or granted j d in
      let w = r.stands g.0 g.1 (found_at_place granted j d r.in_order lt) in
      let a = through t 1 w.0 q (lock_path g.1) f (r.listed w.0 g.0 g.1 w.1).1 in
      none≢some a.0 (sym stuck ∙ a.1)

  locks_of_at : (j : ℕ) (e : Lock) → j < length (locks_of granted) → (j < length granted) × (get_or (locks_of granted) j e ≡ (get_or granted j (0, e)).1)
  locks_of_at j e lt =
      let long : length (locks_of granted) ≡ length granted = length-map granted (λ (g : NumberedLock). g.1) in
      let lt' : j < length granted = omega (arith, long, lt) in
      (lt', get_or-map (λ (g : NumberedLock). g.1) granted j (0, e) e lt')

  -- so none covers what is below it from there on
  none_beyond : (q s : Path) → node_below t 1 q ≡ None → (n more : ℕ) → length q ≤ n → covering_from (locks_of granted) (q ++ s) n more ≡ []
  none_beyond q s stuck n zero le = refl
  none_beyond q s stuck n (suc more) le =
      ap (λ xs. xs ++ covering_from (locks_of granted) (q ++ s) (n + 1) more) (filter_none_at _ (locks_of granted) none) ∙ none_beyond q s stuck (n + 1) more (omega (arith, le))
    where
      none : (j : ℕ) (e : Lock) → j < length (locks_of granted) → (covers (get_or (locks_of granted) j e) (q ++ s) && (height (get_or (locks_of granted) j e) == n)) ≡ false
      none j e lt =
          let at = locks_of_at j e lt in
          let l = get_or (locks_of granted) j e in
          false_from_ne_true _ (λ h.
          let w = and_parts (covers l (q ++ s)) (height l == n) h in
          let tall : length q ≤ length (lock_path l) = omega (arith, le, eqb-true (height l) n w.1) in
          let below : is_front q (lock_path l) ≡ true = front_longer (lock_path l) q s (covers_front l q s w.0) tall in
          no_lock q stuck j (0, e) at.0 (ap (λ (l : Lock). is_front q (lock_path l)) (sym at.1) ∙ below))

  covering_on : (s : Path) (q : Path) (m : ℕ) → node_below t 1 q ≡ Some m → covering_down t m s ≡ covering_from (locks_of granted) (q ++ s) (length q) (suc (length s))
  unfolding covering_down
  covering_on [] q m leads = sym (filter_all_at (λ _. true) (locks_of (locks_at t m)) (λ _ _ _. refl)) ∙ covering_here q [] m leads ∙ sym (append-nil (covering_at (locks_of granted) (q ++ []) (length q)))
  covering_on (x ∷ s) q m leads = by (λ c. covering_on s (q ++ x ∷ []) c) (child_at t m x) refl
    where
      whole : (q ++ x ∷ []) ++ s ≡ q ++ x ∷ s
      whole = append_assoc q (x ∷ []) s

      longer : length (q ++ x ∷ []) ≡ length q + 1
      longer = omega (arith, length-append q (x ∷ []))

      by : ((c : ℕ) → node_below t 1 (q ++ x ∷ []) ≡ Some c → covering_down t c s ≡ covering_from (locks_of granted) ((q ++ x ∷ []) ++ s) (length (q ++ x ∷ [])) (suc (length s)))
          → (o : Option ℕ) → child_at t m x ≡ o
          → filter (λ (l : Lock). l.deep) (locks_of (locks_at t m)) ++ unwrap_or (option_map (λ c. covering_down t c s) o) []
          ≡ covering_at (locks_of granted) (q ++ x ∷ s) (length q) ++ covering_from (locks_of granted) (q ++ x ∷ s) (length q + 1) (suc (length s))
      by rec None e =
          let stuck : node_below t 1 (q ++ x ∷ []) ≡ None = node_at-append t 1 q (x ∷ []) ∙ ap (λ o. option_and_then (λ v. node_below t v (x ∷ [])) o) leads ∙ node_at-stuck t m x [] e in
          let rest : covering_from (locks_of granted) (q ++ x ∷ s) (length q + 1) (suc (length s)) ≡ [] =
          ap (λ p. covering_from (locks_of granted) p (length q + 1) (suc (length s))) (sym whole) ∙ none_beyond (q ++ x ∷ []) s stuck (length q + 1) (suc (length s)) (omega (arith, longer)) in
          ap (λ xs. xs ++ []) (covering_here q (x ∷ s) m leads) ∙ ap (λ xs. covering_at (locks_of granted) (q ++ x ∷ s) (length q) ++ xs) (sym rest)
      by rec (Some c) e =
          let led : node_below t 1 (q ++ x ∷ []) ≡ Some c =
          node_at-append t 1 q (x ∷ []) ∙ ap (λ o. option_and_then (λ v. node_below t v (x ∷ [])) o) leads ∙ node_at-step t m c x [] e ∙ node_at-here t c in
          let rest : covering_down t c s ≡ covering_from (locks_of granted) (q ++ x ∷ s) (length q + 1) (suc (length s)) =
          rec c led ∙ (λ i. covering_from (locks_of granted) (whole i) (longer i) (suc (length s))) in
          (λ i. covering_here q (x ∷ s) m leads i ++ rest i)

  pub discovered_down : (p : Path) → covering_down t 1 p ≡ discovered_locks (locks_of granted) p
  discovered_down p = covering_on p [] 1 (node_at-here t 1)

  -- and none goes with it
  pub all_stay : (q : Path) → node_below t 1 q ≡ None → without_below q (locks_of granted) ≡ locks_of granted
  all_stay q stuck = filter_all_at (λ l. not (is_at_or_below l q)) (locks_of granted) (λ j e lt.
      let at = locks_of_at j e lt in
      let l = get_or (locks_of granted) j e in
      ap not (false_from_ne_true (is_front q (lock_path l)) (λ f. no_lock q stuck j (0, e) at.0 (ap (λ (l : Lock). is_front q (lock_path l)) (sym at.1) ∙ f))))
