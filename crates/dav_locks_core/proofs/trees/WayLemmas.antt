-- The way down to a path: the first lock that passes on it, and that no two paths lead to one node.
use Rattle.std.proofs.Common.{◌≡◌, ◌⊎◌, inl, inr, ℕ, suc, ◌<◌, ◌≤◌, Bool, true, false, [], ◌∷◌, length, get_or, Option, Some, None, refl, sym, ap, ◌∙◌, subst, arith, reverse}
use mathlib.Core.List.{reverse_aux}
use Rattle.std.specs.Option.{option_or}
use Rattle.std.specs.Prelude.{option_and_then}
use Rattle.std.specs.Ordering.{ordering_then, is_eq}
use Rattle.std.specs.Cmp.{tied_itself}
use Rattle.std.specs.Cmp.Lexicographic.{slice_cmp, bytes_decides}
use Rattle.std.proofs.lemmas.Bool.{true≢false, false≢true, cases_lt}
use Rattle.std.proofs.lemmas.List.{reverse-reverse}
use Rattle.dav_path_core.specs.Fronts.{Segment, Path, segment_cmp, is_front, is_same_path}
use Rattle.dav_path_core.specs.Keyed.{IsChild, IsTree}
use Rattle.dav_path_core.proofs.trees.Trees.{child-some, child-only, same_some, none≢some}
use Rattle.dav_path_core.proofs.lists.Orders.{segment_total}
use Rattle.dav_path_core.proofs.paths.FrontLemmas.{name_test, is_front-parts, is_front-cons}
use Rattle.dav_locks_core.specs.Lock.{Lock}
use Rattle.dav_locks_core.specs.Private.LockTree.{NumberedLock, LockTree, locks_at, is_segment, child_at, node_below, first_at, at_node, lookup_lock}
use Rattle.dav_path_core.proofs.lists.PlaceLemmas.{position-none, position-first}

-- ---- children by their segments

pub is_segment-refl : (s : Segment) → is_segment s s ≡ true
is_segment-refl s = (bytes_decides s s).1 refl

module _ (t : LockTree) where
  -- the node that is found is the child
  pub child_at-is : (n : ℕ) (s : Segment) (c : ℕ) → child_at t n s ≡ Some c → IsChild t n s c
  child_at-is n s c h =
      let w = child-some t (λ k. is_segment k s) n c h in
      subst (λ k. IsChild t n k c) ((bytes_decides w.0 s).0 w.2) w.1

  pub child_at-from : IsTree is_segment t → (n : ℕ) (s : Segment) (c : ℕ) → IsChild t n s c → child_at t n s ≡ Some c
  child_at-from tree n s c h = child-only t (λ k. is_segment k s) n is_segment tree (name_test s) c s h (is_segment-refl s)

-- ---- the flag that says whether the way ends

pub same_path-cons : (s : Segment) (q p : Path) → is_same_path (s ∷ q) (s ∷ p) ≡ is_same_path q p
same_path-cons s q p = ap (λ r. is_eq (ordering_then r (slice_cmp segment_cmp q p))) (tied_itself segment_total s)

-- ---- the first on the way

-- the lock at a node and place
abbrev pub lock_at : LockTree → ℕ → ℕ → NumberedLock → Lock
lock_at t n k d = (get_or (locks_at t n) k d).1

module _ (test : Bool → Lock → Bool) (t : LockTree) where
  -- no lock on the way passes
  abbrev pub NoneOnWay : ℕ → Path → Type 0
  NoneOnWay n p = (q : Path) (m k : ℕ) (d : NumberedLock) → is_front q p ≡ true → node_below t n q ≡ Some m → k < length (locks_at t m) → test (is_same_path q p) (lock_at t m k d) ≡ false

  -- the lock at node m and place k passes, and stands at the end of the front q; each other that passes stands further down
  -- or at a later place
  pub record IsFirst (n : ℕ) (p : Path) (m k : ℕ) : Type 0 where
    pub front : Path
    pub is_above : is_front front p ≡ true
    pub leads : node_below t n front ≡ Some m
    pub within : k < length (locks_at t m)
    pub passes : (d : NumberedLock) → test (is_same_path front p) (lock_at t m k d) ≡ true
    pub others : (q : Path) (m' j : ℕ) (d : NumberedLock) → is_front q p ≡ true → node_below t n q ≡ Some m' → j < length (locks_at t m')
        → test (is_same_path q p) (lock_at t m' j d) ≡ true → (length front < length q) ⊎ ((length front ≡ length q) × (m ≡ m') × (k ≤ j))

  -- what a node answers
  none_here : (b : Bool) (n : ℕ) → first_at (test b) t n ≡ None → (k : ℕ) (d : NumberedLock) → k < length (locks_at t n) → test b (lock_at t n k d) ≡ false
  none_here b n h k d lt = position-none (λ g. test b g.1) (locks_at t n) h k d lt

  down : (n : ℕ) (s : Segment) (q : Path) (c m : ℕ) → child_at t n s ≡ Some c → node_below t n (s ∷ q) ≡ Some m → node_below t c q ≡ Some m
  unfolding node_below
  down n s q c m e h = sym (ap (λ o. option_and_then (λ c. node_below t c q) o) e) ∙ h

  stuck : (n : ℕ) (s : Segment) (q : Path) (m : ℕ) → child_at t n s ≡ None → node_below t n (s ∷ q) ≡ Some m → ⊥
  unfolding node_below
  stuck n s q m e h = none≢some m (sym (ap (λ o. option_and_then (λ c. node_below t c q) o) e) ∙ h)

  at_start : (n m : ℕ) → node_below t n [] ≡ Some m → n ≡ m
  unfolding node_below
  at_start n m h = same_some n m h

  pub NoneOnWay-from : (n : ℕ) (p : Path) → lookup_lock test t n p ≡ None → NoneOnWay n p
  unfolding lookup_lock
  NoneOnWay-from n [] h = end
    where
      mapped : (o : Option ℕ) → at_node n o ≡ None → o ≡ None
      mapped None e = refl
      mapped (Some x) e = absurd (none≢some (n, x) (sym e))

      end : NoneOnWay n []
      end [] m k d f e lt = subst (λ m. k < length (locks_at t m) → test true (lock_at t m k d) ≡ false) (at_start n m e) (none_here true n (mapped (first_at (test true) t n) h) k d) lt
      end (s ∷ q) m k d f e lt = absurd (false≢true f)
  NoneOnWay-from n (s ∷ p) h = by (λ c. NoneOnWay-from c p) (first_at (test false) t n) refl (child_at t n s) refl h
    where
      by : ((c : ℕ) → lookup_lock test t c p ≡ None → NoneOnWay c p) → (o : Option ℕ) → first_at (test false) t n ≡ o → (c : Option ℕ) → child_at t n s ≡ c
          → option_or (at_node n o) (option_and_then (λ c. lookup_lock test t c p) c) ≡ None → NoneOnWay n (s ∷ p)
      by rec (Some j) e c ce h q m k d f ne lt = absurd (none≢some (n, j) (sym h))
      by rec None e c ce h [] m k d f ne lt = subst (λ m. k < length (locks_at t m) → test false (lock_at t m k d) ≡ false) (at_start n m ne) (none_here false n e k d) lt
      by rec None e None ce h (r ∷ q) m k d f ne lt =
          let w = is_front-parts r s q p f in
          absurd (stuck n s q m ce (subst (λ r. node_below t n (r ∷ q) ≡ Some m) w.0 ne))
      by rec None e (Some c) ce h (r ∷ q) m k d f ne lt =
          let w = is_front-parts r s q p f in
          let rest : node_below t c q ≡ Some m = down n s q c m ce (subst (λ r. node_below t n (r ∷ q) ≡ Some m) w.0 ne) in
          subst (λ b. test b (lock_at t m k d) ≡ false) (sym (ap (λ r. is_same_path (r ∷ q) (s ∷ p)) w.0 ∙ same_path-cons s q p))
          (rec c h q m k d w.1 rest lt)

  -- the start of a way, one step further up
  IsFirst-below : (n : ℕ) (s : Segment) (p : Path) (c m k : ℕ) → child_at t n s ≡ Some c → first_at (test false) t n ≡ None → IsFirst c p m k → IsFirst n (s ∷ p) m k
  unfolding node_below
  IsFirst-below n s p c m k ce none f = record {
    front = s ∷ f.front;
    is_above = is_front-cons s s f.front p refl f.is_above;
    leads = ap (λ o. option_and_then (λ c. node_below t c f.front) o) ce ∙ f.leads;
    within = f.within;
    passes = λ d. ap (λ b. test b (lock_at t m k d)) (same_path-cons s f.front p) ∙ f.passes d;
    others = others;
  }
    where
      others : (q : Path) (m' j : ℕ) (d : NumberedLock) → is_front q (s ∷ p) ≡ true → node_below t n q ≡ Some m' → j < length (locks_at t m')
          → test (is_same_path q (s ∷ p)) (lock_at t m' j d) ≡ true → (length (s ∷ f.front) < length q) ⊎ ((length (s ∷ f.front) ≡ length q) × (m ≡ m') × (k ≤ j))
      others [] m' j d a ne lt h =
          absurd (true≢false (sym h ∙ subst (λ m. j < length (locks_at t m) → test false (lock_at t m j d) ≡ false) (at_start n m' ne) (none_here false n none j d) lt))
      others (r ∷ q) m' j d a ne lt h =
          let w = is_front-parts r s q p a in
          let rest : node_below t c q ≡ Some m' = down n s q c m' ce (subst (λ r. node_below t n (r ∷ q) ≡ Some m') w.0 ne) in
          let passes : test (is_same_path q p) (lock_at t m' j d) ≡ true = sym (ap (λ b. test b (lock_at t m' j d)) (ap (λ r. is_same_path (r ∷ q) (s ∷ p)) w.0 ∙ same_path-cons s q p)) ∙ h in
          elim (f.others q m' j d w.1 rest lt passes) [
            | inl lower ↦ inl (omega arith)
            | inr same ↦ inr (ap suc same.0, same.1, same.2)
          ]

  -- the first that passes at a node
  IsFirst-here : (n : ℕ) (p : Path) (k : ℕ) → first_at (test (is_same_path [] p)) t n ≡ Some k → IsFirst n p n k
  unfolding node_below
  IsFirst-here n p k h =
      let w = position-first (λ g. test (is_same_path [] p) g.1) (locks_at t n) k h in
      record {
        front = [];
        is_above = refl;
        leads = refl;
        within = w.0;
        passes = w.1;
        others = others;
      }
    where
      before : (j : ℕ) (d : NumberedLock) → j < k → test (is_same_path [] p) (lock_at t n j d) ≡ false
      before = (position-first (λ g. test (is_same_path [] p) g.1) (locks_at t n) k h).2

      others : (q : Path) (m' j : ℕ) (d : NumberedLock) → is_front q p ≡ true → node_below t n q ≡ Some m' → j < length (locks_at t m')
          → test (is_same_path q p) (lock_at t m' j d) ≡ true → (0 < length q) ⊎ ((0 ≡ length q) × (n ≡ m') × (k ≤ j))
      others (r ∷ q) m' j d a ne lt h = inl (omega arith)
      others [] m' j d a ne lt h = elim (cases_lt j k) [
        | inl lower ↦ absurd (true≢false (sym h ∙ subst (λ m. test (is_same_path [] p) (lock_at t m j d) ≡ false) (at_start n m' ne) (before j d lower)))
        | inr at ↦ inr (refl, at_start n m' ne, at)
      ]

  pub IsFirst-from : (n : ℕ) (p : Path) (m k : ℕ) → lookup_lock test t n p ≡ Some (m, k) → IsFirst n p m k
  unfolding lookup_lock
  IsFirst-from n [] m k h = by (first_at (test true) t n) refl h
    where
      by : (o : Option ℕ) → first_at (test true) t n ≡ o → at_node n o ≡ Some (m, k) → IsFirst n [] m k
      by None e h = absurd (none≢some (m, k) h)
      by (Some j) e h =
          let w : (n, j) ≡ (m, k) = same_some _ _ h in
          subst (λ (f : ℕ × ℕ). IsFirst n [] f.0 f.1) w (IsFirst-here n [] j e)
  IsFirst-from n (s ∷ p) m k h = by (λ c. IsFirst-from c p m k) (first_at (test false) t n) refl (child_at t n s) refl h
    where
      by : ((c : ℕ) → lookup_lock test t c p ≡ Some (m, k) → IsFirst c p m k) → (o : Option ℕ) → first_at (test false) t n ≡ o → (c : Option ℕ) → child_at t n s ≡ c
          → option_or (at_node n o) (option_and_then (λ c. lookup_lock test t c p) c) ≡ Some (m, k) → IsFirst n (s ∷ p) m k
      by rec (Some j) e c ce h =
          let w : (n, j) ≡ (m, k) = same_some _ _ h in
          subst (λ (f : ℕ × ℕ). IsFirst n (s ∷ p) f.0 f.1) w (IsFirst-here n (s ∷ p) j e)
      by rec None e None ce h = absurd (none≢some (m, k) h)
      by rec None e (Some c) ce h = IsFirst-below n s p c m k ce e (rec c h)

-- ---- no two paths lead to one node

module _ (t : LockTree) (tree : IsTree is_segment t) where
  -- the segments from the root down to a node, the last first
  abbrev IsUp : ℕ → Path → Type 0
  IsUp n [] = n ≡ 1
  IsUp n (s ∷ r) = (k : ℕ) × IsChild t k s n × IsUp k r

  root_alone : (k : ℕ) (s : Segment) (n : ℕ) → n ≡ 1 → IsChild t k s n → ⊥
  root_alone k s n e h = none≢some (k, s) (sym tree.root.1 ∙ subst (λ n. IsChild t k s n) e h)

  up_one : (n : ℕ) (r q : Path) → IsUp n r → IsUp n q → r ≡ q
  up_one n [] [] h k = refl
  up_one n [] (s ∷ q) h k = absurd (root_alone k.0 s n h k.1)
  up_one n (s ∷ r) [] h k = absurd (root_alone h.0 s n k h.1)
  up_one n (s ∷ r) (u ∷ q) h k =
      let w : (h.0, s) ≡ (k.0, u) = same_some _ _ (sym h.1 ∙ k.1) in
      let rest : r ≡ q = up_one k.0 r q (subst (λ j. IsUp j r) (ap (λ (v : ℕ × Segment). v.0) w) h.2) k.2 in
      λ i. (w i).1 ∷ rest i

  up_from : (p r : Path) (n m : ℕ) → IsUp n r → node_below t n p ≡ Some m → IsUp m (reverse_aux p r)
  unfolding node_below
  up_from [] r n m u h = subst (λ k. IsUp k r) (same_some n m h) u
  up_from (s ∷ p) r n m u h = by (λ c. up_from p (s ∷ r) c m) (child_at t n s) refl h
    where
      by : ((c : ℕ) → IsUp c (s ∷ r) → node_below t c p ≡ Some m → IsUp m (reverse_aux p (s ∷ r)))
          → (o : Option ℕ) → child_at t n s ≡ o → option_and_then (λ c. node_below t c p) o ≡ Some m → IsUp m (reverse_aux p (s ∷ r))
      by rec None e h = absurd (none≢some m h)
      by rec (Some c) e h = rec c (n, child_at-is t n s c e, u) h

  pub one_path : (p q : Path) (m : ℕ) → node_below t 1 p ≡ Some m → node_below t 1 q ≡ Some m → p ≡ q
  one_path p q m h k =
      let back : reverse p ≡ reverse q = up_one m (reverse p) (reverse q) (up_from p [] 1 m refl h) (up_from q [] 1 m refl k) in
      sym (reverse-reverse p) ∙ ap reverse back ∙ reverse-reverse q

-- ---- the steps of the walk

module _ (test : Bool → Lock → Bool) (t : LockTree) (n : ℕ) where
  pub way-end : (o : Option ℕ) → o ≡ first_at (test true) t n → lookup_lock test t n [] ≡ at_node n o
  unfolding lookup_lock
  way-end o e = ap (at_node n) (sym e)

  module _ (s : Segment) (p : Path) where
    pub way-found : (k : ℕ) → Some k ≡ first_at (test false) t n → lookup_lock test t n (s ∷ p) ≡ Some (n, k)
    unfolding lookup_lock
    way-found k e = ap (λ o. option_or (at_node n o) (option_and_then (λ c. lookup_lock test t c p) (child_at t n s))) (sym e)

    pub way-down : (c : ℕ) → None ≡ first_at (test false) t n → Some c ≡ child_at t n s → lookup_lock test t n (s ∷ p) ≡ lookup_lock test t c p
    unfolding lookup_lock
    way-down c e ce =
        ap (λ o. option_or (at_node n o) (option_and_then (λ c. lookup_lock test t c p) (child_at t n s))) (sym e)
        ∙ ap (λ o. option_and_then (λ c. lookup_lock test t c p) o) (sym ce)

    pub way-stuck : None ≡ first_at (test false) t n → None ≡ child_at t n s → lookup_lock test t n (s ∷ p) ≡ None
    unfolding lookup_lock
    way-stuck e ce =
        ap (λ o. option_or (at_node n o) (option_and_then (λ c. lookup_lock test t c p) (child_at t n s))) (sym e)
        ∙ ap (λ o. option_and_then (λ c. lookup_lock test t c p) o) (sym ce)
