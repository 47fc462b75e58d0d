-- What the first lock on the way to a path says of the list of all locks.
use Rattle.std.proofs.Common.{◌≡◌, ◌⊎◌, inl, inr, ℕ, ◌<◌, ◌≤◌, Bool, true, false, not, ◌&&◌, ◌||◌, List, [], length, get_or, Some, None, refl, sym, ap, ◌∙◌, subst, arith}
use Rattle.std.specs.Prelude.{filter, Contains, bytes_eq}
use Rattle.std.specs.List.{list_any}
use Rattle.std.proofs.lemmas.Bool.{cases_Bool, cases_lt, true≢false}
use Rattle.std.proofs.lemmas.List.{get_or-map, length-map}
use Rattle.std.proofs.lemmas.List.Folds.{list_any_at}
use Rattle.dav_path_core.specs.Fronts.{Path, is_front, is_same_path}
use Rattle.dav_path_core.proofs.paths.FrontLemmas.{is_same_path-same, is_front-refl}
use Rattle.dav_locks_core.specs.Lock.{Lock}
use Rattle.dav_locks_core.specs.Locks.{lock_path, covers, height, is_held_by, LockCaller, refuses_lock, refuses_change, is_at_or_below, any_held, found_here, found_token}
use Rattle.dav_locks_core.specs.Private.LockTree.{NumberedLock, LockTree, locks_at, node_below, lookup_lock, locks_of}
use Rattle.dav_locks_core.specs.Private.WayTests.{refuses_wanted, is_covering_held, is_covering_unheld, has_that_token}
use Rattle.dav_locks_core.specs.Private.LockRepresents.{Represents}
use Rattle.dav_locks_core.proofs.lists.NumberedLemmas.{place_of_found, found_at_place, lower_at}
use Rattle.dav_path_core.proofs.lists.PlaceLemmas.{filter_none_at, filter-contains, any-none}
use Rattle.dav_locks_core.proofs.laws.FoundLemmas.{IsBest, found-none, found-best}
use Rattle.dav_locks_core.proofs.trees.WayLemmas.{IsFirst, IsFirst-from, NoneOnWay-from, one_path}

-- a test of the locks on a way to p, and a test of all locks: they agree on the way, and no other lock passes
pub record Agrees (on_way : Bool → Lock → Bool) (of_all : Lock → Bool) (p : Path) : Type 0 where
  pub above : (l : Lock) → is_front (lock_path l) p ≡ true → of_all l ≡ on_way (is_same_path (lock_path l) p) l
  pub aside : (l : Lock) → is_front (lock_path l) p ≡ false → of_all l ≡ false

module _ (t : LockTree) (granted : List NumberedLock) (next : ℕ) (r : Represents t granted next) (p : Path)
    (on_way : Bool → Lock → Bool) (of_all : Lock → Bool) (a : Agrees on_way of_all p) where
  -- where the lock at a place of the list stands
  pub record StandsAt (j : ℕ) (d : NumberedLock) : Type 0 where
    pub node : ℕ
    pub at : ℕ
    pub within : at < length (locks_at t node)
    pub is : get_or (locks_at t node) at d ≡ get_or granted j d
    pub leads : node_below t 1 (lock_path (get_or granted j d).1) ≡ Some node

  stands_at : (j : ℕ) (d : NumberedLock) → j < length granted → StandsAt j d
  stands_at j d lt =
      let g = get_or granted j d in
      let w = r.stands g.0 g.1 (found_at_place granted j d r.in_order lt) in
      let k = place_of_found g.0 g.1 (locks_at t w.0) w.1 in
      record { node = w.0; at = k.0; within = k.1; is = k.2 d; leads = (r.listed w.0 g.0 g.1 w.1).1 }

  -- none passes
  none_passes : lookup_lock on_way t 1 p ≡ None → (j : ℕ) (d : NumberedLock) → j < length granted → of_all (get_or granted j d).1 ≡ false
  none_passes h j d lt =
      let s = stands_at j d lt in
      let l = (get_or granted j d).1 in
      elim (cases_Bool (is_front (lock_path l) p)) [
        | inl above ↦ a.above l above
            ∙ subst (λ (g : NumberedLock). on_way (is_same_path (lock_path l) p) g.1 ≡ false) s.is (NoneOnWay-from on_way t 1 p h (lock_path l) s.node s.at d above s.leads s.within)
        | inr aside ↦ a.aside l aside
      ]

  -- the first that passes, as one of the list: each other that passes has more segments, or as many and a later place
  pub record FirstOf (m k : ℕ) (d : NumberedLock) : Type 0 where
    pub at : ℕ
    pub at_node : k < length (locks_at t m)
    pub within : at < length granted
    pub is : get_or granted at d ≡ get_or (locks_at t m) k d
    pub passes : of_all (get_or granted at d).1 ≡ true
    pub others : (j : ℕ) → j < length granted → of_all (get_or granted j d).1 ≡ true
        → (height (get_or granted at d).1 < height (get_or granted j d).1) ⊎ ((height (get_or granted at d).1 ≡ height (get_or granted j d).1) × (at ≤ j))

  pub first_of : (m k : ℕ) (d : NumberedLock) → lookup_lock on_way t 1 p ≡ Some (m, k) → FirstOf m k d
  first_of m k d h = go (IsFirst-from on_way t 1 p m k h)
    where
      go : IsFirst on_way t 1 p m k → FirstOf m k d
      go f =
          let g = get_or (locks_at t m) k d in
          let b = r.listed m g.0 g.1 (found_at_place (locks_at t m) k d (r.nodes_in_order m) f.within) in
          let w = place_of_found g.0 g.1 granted b.0 in
          let is : get_or granted w.0 d ≡ g = w.2 d in
          let path : lock_path g.1 ≡ f.front = one_path t r.tree (lock_path g.1) f.front m b.1 f.leads in
          let above : is_front (lock_path g.1) p ≡ true = subst (λ q. is_front q p ≡ true) (sym path) f.is_above in
          let passes : of_all g.1 ≡ true = a.above g.1 above ∙ ap (λ q. on_way (is_same_path q p) g.1) path ∙ f.passes d in
          let tall : height g.1 ≡ length f.front = ap (λ (q : Path). length q) path in
          record {
            at = w.0;
            at_node = f.within;
            within = w.1;
            is = is;
            passes = subst (λ (g : NumberedLock). of_all g.1 ≡ true) (sym is) passes;
            others = λ j lt pass.
                let s = stands_at j d lt in
                let l = (get_or granted j d).1 in
                let front : is_front (lock_path l) p ≡ true = elim (cases_Bool (is_front (lock_path l) p)) [
                  | inl yes' ↦ yes'
                  | inr no' ↦ absurd (true≢false (sym pass ∙ a.aside l no'))
                ] in
                let pass_way : on_way (is_same_path (lock_path l) p) (get_or (locks_at t s.node) s.at d).1 ≡ true =
                subst (λ (g : NumberedLock). on_way (is_same_path (lock_path l) p) g.1 ≡ true) (sym s.is) (sym (a.above l front) ∙ pass) in
                subst (λ (g : NumberedLock). (height g.1 < height l) ⊎ ((height g.1 ≡ height l) × (w.0 ≤ j))) (sym is)
                (elim (f.others (lock_path l) s.node s.at d front s.leads s.within pass_way) [
                  | inl less ↦ inl (omega (arith, tall, less))
                  | inr same ↦ inr (
                    omega (arith, tall, same.0),
                    elim (cases_lt j w.0) [
                      | inl before ↦
                          let lower : (get_or granted j d).0 < (get_or granted w.0 d).0 = lower_at granted j w.0 d r.in_order before w.1 in
                          let g_is : (get_or granted w.0 d).0 ≡ g.0 = ap (λ (g : NumberedLock). g.0) is in
                          let s_is : (get_or (locks_at t s.node) s.at d).0 ≡ (get_or granted j d).0 = ap (λ (g : NumberedLock). g.0) s.is in
                          let at_same : (get_or (locks_at t m) s.at d).0 ≡ (get_or (locks_at t s.node) s.at d).0 = ap (λ n. (get_or (locks_at t n) s.at d).0) same.1 in
                          elim (cases_lt k s.at) [
                            | inl earlier ↦
                                let up : (get_or (locks_at t m) k d).0 < (get_or (locks_at t m) s.at d).0 =
                                lower_at (locks_at t m) k s.at d (r.nodes_in_order m) earlier (subst (λ n. s.at < length (locks_at t n)) (sym same.1) s.within) in
                                absurd (omega (arith, lower, g_is, s_is, at_same, up))
                            | inr later ↦
                                let eq : k ≡ s.at = omega (arith, same.2, later) in
                                let here : (get_or (locks_at t m) k d).0 ≡ (get_or (locks_at t m) s.at d).0 = ap (λ k. (get_or (locks_at t m) k d).0) eq in
                                absurd (omega (arith, lower, g_is, s_is, at_same, here))
                          ]
                      | inr after ↦ after
                    ],
                  )
                ]);
          }

  -- ---- the list of the locks alone
  lock_is : (j : ℕ) (d : NumberedLock) (e : Lock) → j < length granted → get_or (locks_of granted) j e ≡ (get_or granted j d).1
  lock_is j d e lt = get_or-map (λ (g : NumberedLock). g.1) granted j d e lt

  as_long : length (locks_of granted) ≡ length granted
  as_long = length-map granted (λ (g : NumberedLock). g.1)

  none_of_locks : lookup_lock on_way t 1 p ≡ None → (j : ℕ) (e : Lock) → j < length (locks_of granted) → of_all (get_or (locks_of granted) j e) ≡ false
  none_of_locks h j e lt =
      let lt' : j < length granted = omega (arith, as_long, lt) in
      ap of_all (lock_is j (0, e) e lt') ∙ none_passes h j (0, e) lt'

  -- no conflict
  pub no_conflict : lookup_lock on_way t 1 p ≡ None → filter of_all (locks_of granted) ≡ []
  no_conflict h = filter_none_at of_all (locks_of granted) (none_of_locks h)

  pub none_is_any : lookup_lock on_way t 1 p ≡ None → list_any of_all (locks_of granted) ≡ false
  none_is_any h = any-none of_all (locks_of granted) (none_of_locks h)

  -- the first that passes is a conflict
  pub conflict : (m k : ℕ) (d : NumberedLock) → lookup_lock on_way t 1 p ≡ Some (m, k) → Contains (filter of_all (locks_of granted)) (get_or (locks_at t m) k d).1
  conflict m k d h =
      let f = first_of m k d h in
      filter-contains of_all (locks_of granted) f.at d.1 (get_or (locks_at t m) k d).1 (omega (arith, as_long, f.within))
      (lock_is f.at d d.1 f.within ∙ ap (λ (g : NumberedLock). g.1) f.is) (subst (λ (g : NumberedLock). of_all g.1 ≡ true) f.is f.passes)

  pub some_is_any : (m k : ℕ) (d : NumberedLock) → lookup_lock on_way t 1 p ≡ Some (m, k) → list_any of_all (locks_of granted) ≡ true
  some_is_any m k d h =
      let f = first_of m k d h in
      list_any_at of_all (locks_of granted) f.at d.1 (omega (arith, as_long, f.within)) (ap of_all (lock_is f.at d d.1 f.within) ∙ f.passes)

-- ---- the tests

and_true : (b : Bool) → (b && true) ≡ b
and_true true = refl
and_true false = refl

or_false : (b : Bool) → (b || false) ≡ b
or_false true = refl
or_false false = refl

and_false : (b : Bool) → (b && false) ≡ false
and_false true = refl
and_false false = refl

covers-above : (l : Lock) (p : Path) → is_front (lock_path l) p ≡ true → covers l p ≡ (is_same_path (lock_path l) p || l.deep)
covers-above l p h = ap (λ b. is_same_path (lock_path l) p || (l.deep && b)) h ∙ ap (λ b. is_same_path (lock_path l) p || b) (and_true l.deep)

covers-aside : (l : Lock) (p : Path) → is_front (lock_path l) p ≡ false → covers l p ≡ false
covers-aside l p h =
    ap (λ b. is_same_path (lock_path l) p || (l.deep && b)) h ∙ ap (λ b. is_same_path (lock_path l) p || b) (and_false l.deep) ∙ or_false (is_same_path (lock_path l) p) ∙ apart (is_same_path (lock_path l) p) refl
  where
    apart : (b : Bool) → is_same_path (lock_path l) p ≡ b → b ≡ false
    apart false e = refl
    apart true e = absurd (true≢false (sym (subst (λ q. is_front (lock_path l) q ≡ true) (is_same_path-same (lock_path l) p e) (is_front-refl (lock_path l))) ∙ h))

pub wanted : (shared : Bool) (p : Path) → Agrees (refuses_wanted shared) (refuses_lock p shared false) p
wanted shared p = record {
  above = λ l h. ap (λ b. not (l.shared && shared) && b) (or_false (covers l p) ∙ covers-above l p h);
  aside = λ l h. ap (λ b. not (l.shared && shared) && b) (or_false (covers l p) ∙ covers-aside l p h) ∙ and_false (not (l.shared && shared));
}

pub covering : (who : LockCaller) (p : Path) → Agrees (is_covering_held who) (λ l. covers l p && is_held_by l who) p
covering who p = record {
  above = λ l h. ap (λ b. b && is_held_by l who) (covers-above l p h);
  aside = λ l h. ap (λ b. b && is_held_by l who) (covers-aside l p h);
}

pub uncovered : (who : LockCaller) (p : Path) → Agrees (is_covering_unheld who) (λ l. covers l p && not (is_held_by l who)) p
uncovered who p = record {
  above = λ l h. ap (λ b. b && not (is_held_by l who)) (covers-above l p h);
  aside = λ l h. ap (λ b. b && not (is_held_by l who)) (covers-aside l p h);
}

-- where no lock is held, those refuse that cover the path
none_held : (h c s z : Bool) → (not h && ((c && (not s || not false)) || (false && z))) ≡ (c && not h)
none_held true true s z = refl
none_held true false s z = refl
none_held false true true z = refl
none_held false true false z = refl
none_held false false s z = refl

pub asked : (locks : List Lock) (who : LockCaller) (p : Path) → any_held locks p who ≡ false → Agrees (is_covering_unheld who) (refuses_change locks p false who) p
asked locks who p none = record {
  above = λ l h. same l ∙ ap (λ b. b && not (is_held_by l who)) (covers-above l p h);
  aside = λ l h. same l ∙ ap (λ b. b && not (is_held_by l who)) (covers-aside l p h);
}
  where
    same : (l : Lock) → refuses_change locks p false who l ≡ (covers l p && not (is_held_by l who))
    same l =
        ap (λ a. not (is_held_by l who) && ((covers l p && (not l.shared || not a)) || (false && is_at_or_below l p))) none
        ∙ none_held (is_held_by l who) (covers l p) l.shared (is_at_or_below l p)

pub named : (token : List ℕ) (p : Path) → Agrees (has_that_token token) (found_here p token) p
named token p = record {
  above = λ l h. ap (λ b. bytes_eq l.token token && b) h ∙ and_true (bytes_eq l.token token);
  aside = λ l h. ap (λ b. bytes_eq l.token token && b) h ∙ and_false (bytes_eq l.token token);
}

-- ---- the lock that is found

module _ (t : LockTree) (granted : List NumberedLock) (next : ℕ) (r : Represents t granted next) (p : Path) (token : List ℕ) where
  pub not_found : lookup_lock (has_that_token token) t 1 p ≡ None → found_token (locks_of granted) p token ≡ None
  not_found h = found-none p token (locks_of granted) (none_of_locks t granted next r p (has_that_token token) (found_here p token) (named token p) h)

  -- the first on the way is found, at its place in the list
  pub found_first : (m k : ℕ) (d : NumberedLock) → lookup_lock (has_that_token token) t 1 p ≡ Some (m, k)
      → (j : ℕ) × (found_token (locks_of granted) p token ≡ Some j) × (k < length (locks_at t m)) × (j < length granted) × (get_or granted j d ≡ get_or (locks_at t m) k d)
  found_first m k d h =
      let f = first_of t granted next r p (has_that_token token) (found_here p token) (named token p) m k d h in
      (f.at, found-best p token (locks_of granted) f.at d.1 (best f), f.at_node, f.within, f.is)
    where
      best : (f : FirstOf t granted next r p (has_that_token token) (found_here p token) (named token p) m k d) → IsBest p token (locks_of granted) f.at
      best f =
          let long : length (locks_of granted) ≡ length granted = length-map granted (λ (g : NumberedLock). g.1) in
          let lock_is : (j : ℕ) (e : Lock) → j < length granted → get_or (locks_of granted) j e ≡ (get_or granted j d).1 = λ j e lt. get_or-map (λ (g : NumberedLock). g.1) granted j d e lt in
          record {
            within = omega (arith, long, f.within);
            is_here = λ e. ap (found_here p token) (lock_is f.at e f.within) ∙ f.passes;
            others = λ j e lt h.
                let lt' : j < length granted = omega (arith, long, lt) in
                rw (lock_is j e lt', lock_is f.at e f.within) (f.others j lt' (sym (ap (found_here p token) (lock_is j e lt')) ∙ h));
          }
