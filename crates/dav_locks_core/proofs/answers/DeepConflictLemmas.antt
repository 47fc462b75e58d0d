-- What the locks at a path and below it, in the tree, say of the list of all locks.
use Rattle.std.proofs.Common.{◌≡◌, inl, inr, ℕ, zero, suc, ◌<◌, Bool, true, false, not, ◌&&◌, ◌||◌, cond, List, [], ◌∷◌, length, get_or, Some, refl, sym, ap, ◌∙◌, arith}
use Rattle.std.specs.Prelude.{filter, Contains}
use Rattle.std.proofs.lemmas.Bool.{true≢false}
use Rattle.std.proofs.lemmas.List.{get_or-map, length-map}
use Rattle.dav_path_core.specs.Fronts.{Path}
use Rattle.dav_locks_core.specs.Lock.{Lock}
use Rattle.dav_locks_core.specs.Locks.{LockCaller, lock_path, covers, is_held_by, any_held, is_at_or_below, refuses_lock, refuses_change, lock_conflicts, check_conflicts}
use Rattle.dav_locks_core.specs.Private.LockTree.{NumberedLock, LockTree, locks_at, node_below, locks_of}
use Rattle.dav_locks_core.specs.Private.SubtreeWalks.{StandsUnder, NoneBelow}
use Rattle.dav_locks_core.specs.Private.WayTests.{refuses_wanted, is_covering_unheld}
use Rattle.dav_locks_core.specs.Private.LockRepresents.{Represents}
use Rattle.dav_path_core.proofs.lists.PlaceLemmas.{position-none, position-first, filter_none_at, filter-contains}
use Rattle.dav_path_core.proofs.lists.EachLemmas.{none_passes}
use Rattle.dav_path_core.proofs.lists.MemberLemmas.{In, In-Contains, all_in, Contains-In}
use Rattle.dav_locks_core.proofs.lists.NumberedLemmas.{place_of_found, found_at_place}
use Rattle.dav_locks_core.proofs.walks.SubtreeLemmas.{through, front_of}

and_true : (b : Bool) → (b && true) ≡ b
and_true true = refl
and_true false = refl

or_true : (b : Bool) → (b || true) ≡ true
or_true true = refl
or_true false = refl

none_at : {X : Type 0} (test : X → Bool) (xs : List X) → filter test xs ≡ [] → (k : ℕ) (d : X) → k < length xs → test (get_or xs k d) ≡ false
none_at test xs none k d lt = all_in (λ x. test x ≡ false) xs (get_or xs k d) (none_passes test xs none) (In-Contains xs (get_or xs k d) (at_place xs k d lt))
  where
    at_place : {X : Type 0} (xs : List X) (k : ℕ) (d : X) → k < length xs → Contains xs (get_or xs k d)
    at_place xs k d lt = (k, lt, other xs k d (get_or xs k d) lt)
      where
        other : {X : Type 0} (xs : List X) (k : ℕ) (d e : X) → k < length xs → get_or xs k e ≡ get_or xs k d
        other [] k d e lt = absurd (omega (arith, lt))
        other (x ∷ xs) zero d e lt = refl
        other (x ∷ xs) (suc k) d e lt = other xs k d e (omega (arith, lt))

module _ (t : LockTree) (granted : List NumberedLock) (next : ℕ) (r : Represents t granted next) (p : Path) (test : Lock → Bool) where
  long : length (locks_of granted) ≡ length granted
  long = length-map granted (λ (g : NumberedLock). g.1)

  -- where none passes below, no lock of the list that stands there passes
  pub none_below : NoneBelow test t p → (k : ℕ) (e : Lock) → k < length (locks_of granted) → is_at_or_below (get_or (locks_of granted) k e) p ≡ true → test (get_or (locks_of granted) k e) ≡ false
  none_below none k e lt under =
      let lt' : k < length granted = omega (arith, long, lt) in
      let d : NumberedLock = (0, e) in
      let g = get_or granted k d in
      let same : get_or (locks_of granted) k e ≡ g.1 = get_or-map (λ (g : NumberedLock). g.1) granted k d e lt' in
      let w = r.stands g.0 g.1 (found_at_place granted k d r.in_order lt') in
      let leads = (r.listed w.0 g.0 g.1 w.1).1 in
      let top = through t 1 w.0 p (lock_path g.1) (ap (λ (l : Lock). is_at_or_below l p) (sym same) ∙ under) leads in
      let place = place_of_found g.0 g.1 (locks_at t w.0) w.1 in
      let refused : test (get_or (locks_at t w.0) place.0 d).1 ≡ false =
      position-none (λ (h : NumberedLock). test h.1) (locks_at t w.0) (none top.0 top.1 w.0 top.2) place.0 d place.1 in
      ap test same ∙ sym (ap (λ (h : NumberedLock). test h.1) (place.2 d)) ∙ refused

  -- what the walk finds is a lock of the list that stands at or below the path and passes
  pub found_below : (top : ℕ) (f : ℕ × ℕ) (d : NumberedLock) → node_below t 1 p ≡ Some top → StandsUnder test t top f → (of_all : Lock → Bool)
      → ((l : Lock) → is_at_or_below l p ≡ true → test l ≡ true → of_all l ≡ true) → Contains (filter of_all (locks_of granted)) (get_or (locks_at t f.0) f.1 d).1
  found_below top f d leads s of_all implies =
      let g = get_or (locks_at t f.0) f.1 d in
      let first = position-first (λ (g : NumberedLock). test g.1) (locks_at t f.0) f.1 s.1 in
      let b = r.listed f.0 g.0 g.1 (found_at_place (locks_at t f.0) f.1 d (r.nodes_in_order f.0) first.0) in
      let w = place_of_found g.0 g.1 granted b.0 in
      let is : get_or (locks_of granted) w.0 g.1 ≡ g.1 = get_or-map (λ (g : NumberedLock). g.1) granted w.0 d g.1 w.1 ∙ ap (λ (g : NumberedLock). g.1) (w.2 d) in
      filter-contains of_all (locks_of granted) w.0 g.1 g.1 (omega (arith, long, w.1)) is
      (implies g.1 (front_of t r.tree top f.0 p (lock_path g.1) leads b.1 s.0) (first.1 d))

-- ---- the two sets

-- a lock that refuses a wanted one covers the path, or is at or below it
split : (a c d b : Bool) → (a && (c || (false && b))) ≡ false → (d ≡ true → b ≡ true → a ≡ false) → (a && (c || (d && b))) ≡ false
split false c d b h k = refl
split true true d b h k = h
split true false false b h k = refl
split true false true false h k = refl
split true false true true h k = absurd (true≢false (k refl refl))

-- wider in its last part
wider : (a c d b : Bool) → (a && (c || (false && b))) ≡ true → (a && (c || (d && b))) ≡ true
wider false c d b h = h
wider true true d b h = refl
wider true false d b h = absurd (true≢false (sym h))

module _ (t : LockTree) (granted : List NumberedLock) (next : ℕ) (r : Represents t granted next) (p : Path) where
  pub deep_lock_free : (shared deep : Bool) → lock_conflicts (locks_of granted) p shared false ≡ [] → (deep ≡ true → NoneBelow (refuses_wanted shared true) t p)
      → lock_conflicts (locks_of granted) p shared deep ≡ []
  deep_lock_free shared deep none below = filter_none_at (refuses_lock p shared deep) (locks_of granted) (λ k e lt.
      let l = get_or (locks_of granted) k e in
      split (not (l.shared && shared)) (covers l p) deep (is_at_or_below l p) (none_at (refuses_lock p shared false) (locks_of granted) none k e lt)
      (λ is under. sym (and_true (not (l.shared && shared))) ∙ none_below t granted next r p (refuses_wanted shared true) (below is) k e lt under))

  pub deep_lock_shown : (shared : Bool) (top : ℕ) (f : ℕ × ℕ) (d : NumberedLock) → node_below t 1 p ≡ Some top → StandsUnder (refuses_wanted shared true) t top f
      → Contains (lock_conflicts (locks_of granted) p shared true) (get_or (locks_at t f.0) f.1 d).1
  deep_lock_shown shared top f d leads s = found_below t granted next r p (refuses_wanted shared true) top f d leads s (refuses_lock p shared true) (λ l under passes.
      ap (λ b. not (l.shared && shared) && (covers l p || b)) under ∙ ap (λ b. b && (covers l p || true)) (sym (and_true (not (l.shared && shared))) ∙ passes) ∙ or_true (covers l p))

  pub deep_check_free : (deep : Bool) (who : LockCaller) → check_conflicts (locks_of granted) p false who ≡ [] → (deep ≡ true → NoneBelow (is_covering_unheld who true) t p)
      → check_conflicts (locks_of granted) p deep who ≡ []
  deep_check_free deep who none below = filter_none_at (refuses_change (locks_of granted) p deep who) (locks_of granted) (λ k e lt.
      let l = get_or (locks_of granted) k e in
      split (not (is_held_by l who)) (covers l p && (not l.shared || not (any_held (locks_of granted) p who))) deep (is_at_or_below l p)
      (none_at (refuses_change (locks_of granted) p false who) (locks_of granted) none k e lt)
      (λ is under. none_below t granted next r p (is_covering_unheld who true) (below is) k e lt under))

  pub deep_check_shown : (who : LockCaller) (top : ℕ) (f : ℕ × ℕ) (d : NumberedLock) → node_below t 1 p ≡ Some top → StandsUnder (is_covering_unheld who true) t top f
      → Contains (check_conflicts (locks_of granted) p true who) (get_or (locks_at t f.0) f.1 d).1
  deep_check_shown who top f d leads s = found_below t granted next r p (is_covering_unheld who true) top f d leads s (refuses_change (locks_of granted) p true who) (λ l under passes.
      ap (λ b. not (is_held_by l who) && (alone l who || b)) under ∙ ap (λ b. b && (alone l who || true)) passes ∙ or_true (alone l who))
    where
      alone : Lock → LockCaller → Bool
      alone l who = covers l p && (not l.shared || not (any_held (locks_of granted) p who))

-- what refuses a shallow call refuses a deep one
Contains-wider : {X : Type 0} (f g : X → Bool) (xs : List X) (x : X) → ((x : X) → f x ≡ true → g x ≡ true) → Contains (filter f xs) x → Contains (filter g xs) x
Contains-wider {X = X} f g xs x h c = Contains-In _ x (In-wider xs (In-Contains _ x c))
  where
    In-wider : (xs : List X) → In x (filter f xs) → In x (filter g xs)
    In-wider [] i = i
    In-wider (y ∷ xs) i = by (f y) refl (g y) refl i (In-wider xs)
      where
        by : (a : Bool) → f y ≡ a → (b : Bool) → g y ≡ b → In x (cond a (y ∷ filter f xs) (filter f xs)) → (In x (filter f xs) → In x (filter g xs)) → In x (cond b (y ∷ filter g xs) (filter g xs))
        by true e true k (inl is) rec = inl is
        by true e true k (inr i) rec = inr (rec i)
        by true e false k i rec = absurd (true≢false (sym (h y e) ∙ k))
        by false e true k i rec = inr (rec i)
        by false e false k i rec = rec i

pub lock_shown_wider : (locks : List Lock) (p : Path) (shared deep : Bool) (l : Lock) → Contains (lock_conflicts locks p shared false) l → Contains (lock_conflicts locks p shared deep) l
lock_shown_wider locks p shared deep l c =
    Contains-wider (refuses_lock p shared false) (refuses_lock p shared deep) locks l (λ l h. wider (not (l.shared && shared)) (covers l p) deep (is_at_or_below l p) h) c

pub check_shown_wider : (locks : List Lock) (p : Path) (deep : Bool) (who : LockCaller) (l : Lock) → Contains (check_conflicts locks p false who) l → Contains (check_conflicts locks p deep who) l
check_shown_wider locks p deep who l c =
    Contains-wider (refuses_change locks p false who) (refuses_change locks p deep who) locks l
    (λ l h. wider (not (is_held_by l who)) (covers l p && (not l.shared || not (any_held locks p who))) deep (is_at_or_below l p) h) c
