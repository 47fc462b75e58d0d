-- What a change does to a keyed tree, by what stands at each number.
use Rattle.std.proofs.Common.{◌≡◌, ◌≢◌, ℕ, ◌+◌, ◌<◌, ◌≤◌, ◌==◌, ◌&&◌, Bool, true, false, cond, T, ◌⊎◌, List, [], ◌∷◌, Some, None, Option, refl, ap, sym, ◌∙◌, subst, arith, IsSome, is_some, inl, inr, nat_lt}
use Rattle.std.specs.Cmp.{nat_cmp_total, unsigned_tied}
use Rattle.std.specs.Ordering.{nat_cmp, is_lt}
use Rattle.std.specs.Option.{option_map, unwrap_or, ok_or}
use Rattle.std.specs.declared.cmp.Ordering.TheVariants.{Less, Equal, Greater}
use Rattle.std.specs.Map.{IsKeyTest}
use Rattle.std.specs.FinMap.{FinMap, get, find, entries, entries_sorted, is_sorted, insert, empty, get-insert, get-empty, get-entries}
use Rattle.std.specs.FinMap.Entries.{below_all}
use Rattle.std.proofs.lemmas.Bool.{cases_eq, eq-eqb, ne_eqb, eqb-true, true≢false, false≢true, ltb-true, and_parts, and_right}
use Rattle.std.specs.Result.{result_ok}
use Rattle.dav_path_core.proofs.lists.Every.{first_so, second_so}
use Rattle.dav_path_core.specs.Keyed.{Entry, Keyed, LeadsToRoot, root, up, entry, parent_and_key, parent_and_key_of, parent_number, IsKnown, IsChild, IsTree, matches_parent_and_key, child_in, child, lone, add, add_as, with_next_at_least, with_item, with_item_at, add_refusal, without_key, cleared_at}
use Rattle.std.proofs.Common.{not}
use Rattle.dav_path_core.specs.declared.errors.FsError.TheVariants.{Exists, NotFound}

pub Leads-mono : {f g : ℕ → Option ℕ} {n : ℕ} → ((q p : ℕ) → f q ≡ Some p → g q ≡ Some p) → LeadsToRoot f n → LeadsToRoot g n
Leads-mono h root = root
Leads-mono h (up e l) = up (h _ _ e) (Leads-mono h l)

pub same_some : {A : Type 0} (x y : A) → Some x ≡ Some y → x ≡ y
same_some x y e = ap (λ o. unwrap_or o x) e

pub none≢some : {A : Type 0} (x : A) → None ≡ Some x → ⊥
none≢some x e = false≢true (ap is_some e)

pub is_lt-below : (a b : ℕ) → T (is_lt (nat_cmp a b)) → a < b
is_lt-below a b h =
    elim (nat_lt a b) as (λ v. nat_lt a b ≡ v → T (is_lt (cond v Less (cond (a == b) Equal Greater))) → a < b) [
      | true ↦ λ e p. ltb-true a b e
      | false ↦ λ e. elim (a == b) as (λ w. T (is_lt (cond w Equal Greater)) → a < b) [ true ↦ λ p. absurd p | false ↦ λ p. absurd p ]
    ] refl h

pub ok-ok_or : {A E : Type 0} (o : Option A) (e : E) → result_ok (ok_or o e) ≡ o
ok-ok_or None e = refl
ok-ok_or (Some x) e = refl

pub none_from_is_some : {A : Type 0} (o : Option A) → is_some o ≡ false → o ≡ None
none_from_is_some None h = refl
none_from_is_some (Some x) h = absurd (true≢false h)

module _ {X : Type 0} where
  -- what stands at a number that is above k
  above : (k q : ℕ) (es : List (ℕ × X)) → T (below_all nat_cmp k es) → IsSome (find nat_cmp q es) → k < q
  above k q [] h s = absurd (false≢true s)
  above k q (e ∷ es) h s =
      elim (q == e.0) as (λ v. (q == e.0) ≡ v → IsSome (cond v (Some e.1) (find nat_cmp q es)) → k < q) [
        | true ↦ λ t _. subst (λ n. k < n) (sym (eqb-true q e.0 t)) (is_lt-below k e.0 (first_so _ _ h))
        | false ↦ λ t s'. above k q es (second_so _ _ h) s'
      ] refl (subst (λ b. IsSome (cond b (Some e.1) (find nat_cmp q es))) (unsigned_tied q e.0) s)

  -- a look-up in a longer list
  pub find-head : (q : ℕ) (e : ℕ × X) (es : List (ℕ × X)) → find nat_cmp q (e ∷ es) ≡ cond (q == e.0) (Some e.1) (find nat_cmp q es)
  find-head q e es = ap (λ b. cond b (Some e.1) (find nat_cmp q es)) (unsigned_tied q e.0)

  pub find-here : (e : ℕ × X) (es : List (ℕ × X)) → find nat_cmp e.0 (e ∷ es) ≡ Some e.1
  find-here e es = find-head e.0 e es ∙ ap (λ b. cond b (Some e.1) (find nat_cmp e.0 es)) (eq-eqb e.0 e.0 refl)

  find-later : (q : ℕ) (e : ℕ × X) (es : List (ℕ × X)) → T (is_sorted nat_cmp (e ∷ es)) → IsSome (find nat_cmp q es) → find nat_cmp q (e ∷ es) ≡ find nat_cmp q es
  find-later q e es h s =
      let lt : e.0 < q = above e.0 q es (first_so _ _ h) s in
      find-head q e es ∙ ap (λ b. cond b (Some e.1) (find nat_cmp q es)) (ne_eqb q e.0 (λ e. omega (arith, lt, e)))

at_parent_and_key : {K : Type 0} (test : K → Bool) (p : ℕ) (w : Option (ℕ × K)) → matches_parent_and_key test p w ≡ true → (k : K) × (w ≡ Some (p, k)) × (test k ≡ true)
at_parent_and_key test p None h = absurd (false≢true h)
at_parent_and_key test p (Some q) h = (q.1, ap (λ (n : ℕ). Some (n, q.1)) (eqb-true q.0 p (and_parts _ _ h).0), (and_parts (q.0 == p) (test q.1) h).1)

at_parent_and_key_not : {K : Type 0} (test : K → Bool) (p : ℕ) (k : K) → matches_parent_and_key test p (Some (p, k)) ≡ false → test k ≡ false
at_parent_and_key_not test p k h = sym (ap (λ b. b && test k) (eq-eqb p p refl)) ∙ h

module _ {K D : Type 0} where
  known_from_parent_and_key : (o : Option (Entry K D)) (w : ℕ × K) → parent_and_key_of o ≡ Some w → IsSome o
  known_from_parent_and_key None w e = absurd (none≢some w e)
  known_from_parent_and_key (Some x) w e = refl

  pub known_from_child : (t : Keyed K D) (p : ℕ) (k : K) (n : ℕ) → IsChild t p k n → IsKnown t n
  known_from_child t p k n e = known_from_parent_and_key (entry t n) (p, k) e

  known_from_parent_of : (o : Option (Entry K D)) (p : ℕ) → option_map (λ q. q.0) (parent_and_key_of o) ≡ Some p → IsSome o
  known_from_parent_of None p e = absurd (none≢some p e)
  known_from_parent_of (Some x) p e = refl

  pub known_from_parent : (t : Keyed K D) (q p : ℕ) → parent_number t q ≡ Some p → IsKnown t q
  known_from_parent t q p e = known_from_parent_of (entry t q) p e

  -- ---- a child by a test of its key
  child_in-some : (test : K → Bool) (p : ℕ) (es : List (ℕ × Entry K D)) (n : ℕ) → T (is_sorted nat_cmp es) → child_in test p es ≡ Some n
      → (k : K) × (parent_and_key_of (find nat_cmp n es) ≡ Some (p, k)) × (test k ≡ true)
  child_in-some test p [] n s h = absurd (none≢some n h)
  child_in-some test p (e ∷ es) n s h =
      elim (matches_parent_and_key test p e.1.parent_and_key) as (λ b. matches_parent_and_key test p e.1.parent_and_key ≡ b → cond b (Some e.0) (child_in test p es) ≡ Some n → (k : K) × (parent_and_key_of (find nat_cmp n (e ∷ es)) ≡ Some (p, k)) × (test k ≡ true)) [
        | true ↦ λ a h. let w = at_parent_and_key test p e.1.parent_and_key a in
            (w.0, subst (λ m. parent_and_key_of (find nat_cmp m (e ∷ es)) ≡ Some (p, w.0)) (same_some e.0 n h) (ap parent_and_key_of (find-here e es) ∙ w.1), w.2)
        | false ↦ λ a h. let w = child_in-some test p es n (second_so _ _ s) h in
            (w.0, ap parent_and_key_of (find-later n e es s (known_from_parent_and_key _ _ w.1)) ∙ w.1, w.2)
      ] refl h

  child_in-none : (test : K → Bool) (p : ℕ) (es : List (ℕ × Entry K D)) → child_in test p es ≡ None → (n : ℕ) (k : K) → parent_and_key_of (find nat_cmp n es) ≡ Some (p, k) → test k ≡ false
  child_in-none test p [] h n k e = absurd (none≢some _ e)
  child_in-none test p (e ∷ es) h n k w =
      elim (matches_parent_and_key test p e.1.parent_and_key) as (λ b. matches_parent_and_key test p e.1.parent_and_key ≡ b → cond b (Some e.0) (child_in test p es) ≡ None → test k ≡ false) [
        | true ↦ λ a h. absurd (none≢some _ (sym h))
        | false ↦ λ a h.
            elim (n == e.0) as (λ v. parent_and_key_of (cond v (Some e.1) (find nat_cmp n es)) ≡ Some (p, k) → test k ≡ false) [
              | true ↦ λ w. at_parent_and_key_not test p k (ap (matches_parent_and_key test p) (sym w) ∙ a)
              | false ↦ λ w. child_in-none test p es h n k w
            ] (ap parent_and_key_of (sym (find-head n e es)) ∙ w)
      ] refl h

  module _ (t : Keyed K D) (test : K → Bool) (p : ℕ) where
    pub child-some : (n : ℕ) → child test t p ≡ Some n → (k : K) × IsChild t p k n × (test k ≡ true)
    child-some n h = let w = child_in-some test p (entries t.nodes) n (entries_sorted t.nodes) h in (w.0, ap parent_and_key_of (get-entries t.nodes n) ∙ w.1, w.2)

    pub child-none : child test t p ≡ None → (n : ℕ) (k : K) → IsChild t p k n → test k ≡ false
    child-none h n k e = child_in-none test p (entries t.nodes) h n k (ap parent_and_key_of (sym (get-entries t.nodes n)) ∙ e)

    -- the child that a test of one key finds is the only one
    pub child-only : (eq : K → K → Bool) → IsTree eq t → IsKeyTest eq test → (n : ℕ) (k : K) → IsChild t p k n → test k ≡ true → child test t p ≡ Some n
    child-only eq tree one n k e h =
        elim (child test t p) as (λ o. child test t p ≡ o → o ≡ Some n) [
          | None ↦ λ none. absurd (true≢false (sym h ∙ child-none none n k e))
          | Some m ↦ λ some. let w = child-some m some in ap (λ (x : ℕ). Some x) (tree.distinct p w.0 k m n w.1 e (sym (one w.0 k w.2) ∙ h))
        ] refl

  -- ---- changes
  -- g is f but o at n
  pub record Sets (f g : ℕ → Option (Entry K D)) (n : ℕ) (o : Option (Entry K D)) : Type 0 where
    pub here : g n ≡ o
    pub other : (q : ℕ) → q ≢ n → g q ≡ f q

  pub Sets-insert : (m : FinMap nat_cmp (Entry K D)) (n : ℕ) (e : Entry K D) → Sets (get m) (get (insert m n e)) n (Some e)
  Sets-insert m n e = record {
    here = get-insert nat_cmp_total m n e n ∙ ap (λ b. cond b (Some e) (get m n)) (unsigned_tied n n ∙ eq-eqb n n refl);
    other = λ q ne. get-insert nat_cmp_total m n e q ∙ ap (λ b. cond b (Some e) (get m q)) (unsigned_tied q n ∙ ne_eqb q n ne);
  }

  -- a child after a change is the new one, or was one before
  pub child_before : (t u : Keyed K D) (n : ℕ) (e : Entry K D) → Sets (entry t) (entry u) n (Some e) → (p : ℕ) (k : K) (m : ℕ) → IsChild u p k m
      → ((m ≡ n) × (e.parent_and_key ≡ Some (p, k))) ⊎ ((m ≢ n) × IsChild t p k m)
  child_before t u n e s p k m h =
      elim (cases_eq m n) [
        | inl is ↦ inl (is, ap parent_and_key_of (sym s.here) ∙ subst (λ v. parent_and_key u v ≡ Some (p, k)) is h)
        | inr ne ↦ inr (ne, ap parent_and_key_of (sym (s.other m ne)) ∙ h)
      ]

  -- the next number is free
  pub no_next : (eq : K → K → Bool) (t : Keyed K D) → IsTree eq t → entry t t.next ≡ None
  no_next eq t tree = elim (entry t t.next) as (λ o. entry t t.next ≡ o → o ≡ None) [
    | None ↦ λ _. refl
    | Some e ↦ λ is. absurd (below (tree.numbered t.next (ap is_some is)).1)
  ] refl
    where
      below : t.next < t.next → ⊥
      below h = omega (arith, h)

  pub next_positive : (eq : K → K → Bool) (t : Keyed K D) → IsTree eq t → 0 < t.next
  next_positive eq t tree = omega (arith, (tree.numbered 1 tree.root.0).1)

  -- a tree whose next number is greater
  pub IsTree-raised : (eq : K → K → Bool) (t : Keyed K D) (next : ℕ) → IsTree eq t → IsTree eq (with_next_at_least t next)
  IsTree-raised eq t next tree = record {
    root = tree.root;
    numbered = λ n h. let b = tree.numbered n h in (b.0, omega (arith, b.1));
    attached = tree.attached;
    distinct = tree.distinct;
  }

  module _ (eq : K → K → Bool) (symm : (a b : K) → eq a b ≡ eq b a) where
    -- a node is added under any number that is free
    pub IsTree-add_as : (t : Keyed K D) (id next p : ℕ) (k : K) (d : D) → IsTree eq t → entry t id ≡ None → 0 < id → id < next → t.next ≤ next → IsKnown t p → child (eq k) t p ≡ None
        → IsTree eq (add_as t id next p k d)
    IsTree-add_as t id next p k d tree none positive small grows known free =
        let u : Keyed K D = add_as t id next p k d in
        let e : Entry K D = record { parent_and_key = Some (p, k); item = d } in
        let s : Sets (entry t) (entry u) id (Some e) = Sets-insert t.nodes id e in
        let new : (q : ℕ) → IsKnown t q → q ≢ id = λ q h e. false≢true (sym (ap is_some none) ∙ subst (IsKnown t) e h) in
        let keeps : (q : ℕ) → IsKnown t q → entry u q ≡ entry t q = λ q h. s.other q (new q h) in
        let leads : (n : ℕ) → LeadsToRoot (parent_number t) n → LeadsToRoot (parent_number u) n =
        λ n. Leads-mono (λ q r e. ap (λ o. option_map (λ w. w.0) (parent_and_key_of o)) (keeps q (known_from_parent t q r e)) ∙ e) in
        let was : (n : ℕ) → IsKnown u n → (n ≡ id) ⊎ IsKnown t n =
        λ n h. elim (cases_eq n id) [ inl e ↦ inl e | inr ne ↦ inr (subst IsSome (s.other n ne) h) ] in
        let known1 : IsKnown t 1 = tree.root.0 in
        record {
          root = (subst IsSome (sym (keeps 1 known1)) known1, ap parent_and_key_of (keeps 1 known1) ∙ tree.root.1);
          numbered = λ n h. elim (was n h) [
            | inl is ↦ (omega (arith, is, positive), omega (arith, is, small))
            | inr before ↦ let b = tree.numbered n before in (b.0, omega (arith, b.1, grows))
          ];
          attached = λ n h. elim (was n h) [
            | inl is ↦ up (subst (λ v. parent_number u v ≡ Some p) (sym is) (ap (λ o. option_map (λ w. w.0) (parent_and_key_of o)) s.here)) (leads p (tree.attached p known))
            | inr before ↦ leads n (tree.attached n before)
          ];
          distinct = λ r a b m n x y same. elim (child_before t u id e s r a m x) [
            | inl one ↦ elim (child_before t u id e s r b n y) [
              | inl two ↦ one.0 ∙ sym two.0
              | inr two ↦
                  let w : (p, k) ≡ (r, a) = same_some _ _ one.1 in
                  absurd (true≢false (sym same ∙ ap (λ v. eq v b) (sym (ap (λ (v : ℕ × K). v.1) w)) ∙ child-none t (eq k) p free n b (subst (λ v. IsChild t v b n) (sym (ap (λ (v : ℕ × K). v.0) w)) two.1)))
            ]
            | inr one ↦ elim (child_before t u id e s r b n y) [
              | inl two ↦
                  let w : (p, k) ≡ (r, b) = same_some _ _ two.1 in
                  absurd (true≢false (sym same ∙ symm a b ∙ ap (λ v. eq v a) (sym (ap (λ (v : ℕ × K). v.1) w)) ∙ child-none t (eq k) p free m a (subst (λ v. IsChild t v a m) (sym (ap (λ (v : ℕ × K). v.0) w)) one.1)))
              | inr two ↦ tree.distinct r a b m n one.1 two.1 same
            ]
          ];
        }

  pub IsTree-lone : (eq : K → K → Bool) (d : D) → IsTree eq (lone d)
  IsTree-lone eq d =
      let e : Entry K D = record { parent_and_key = None; item = d } in
      let s : Sets (get (empty {X = Entry K D} {R = nat_cmp})) (entry (lone d)) 1 (Some e) = Sets-insert empty 1 e in
      let one : (n : ℕ) → IsKnown (lone d) n → n ≡ 1 =
      λ n h. elim (cases_eq n 1) [ inl is ↦ is | inr ne ↦ absurd (false≢true (sym (ap is_some (s.other n ne ∙ get-empty nat_cmp n)) ∙ h)) ] in
      let no : (p : ℕ) (k : K) (n : ℕ) → IsChild (lone d) p k n → ⊥ =
      λ p k n h. none≢some (p, k) (sym (ap parent_and_key_of s.here) ∙ subst (λ v. parent_and_key (lone d) v ≡ Some (p, k)) (one n (known_from_child (lone d) p k n h)) h) in
      record {
        root = (ap is_some s.here, ap parent_and_key_of s.here);
        numbered = λ n h. let is = one n h in (omega (arith, is), omega (arith, is));
        attached = λ n h. subst (LeadsToRoot (parent_number (lone d))) (sym (one n h)) root;
        distinct = λ p k l m n x y same. absurd (no p k m x);
      }

  -- a tree by its places alone
  pub IsTree-same : (eq : K → K → Bool) (t u : Keyed K D) → u.next ≡ t.next → ((q : ℕ) → is_some (entry u q) ≡ is_some (entry t q)) → ((q : ℕ) → parent_and_key u q ≡ parent_and_key t q) → IsTree eq t → IsTree eq u
  IsTree-same eq t u next known parents_and_keys tree = record {
    root = (known 1 ∙ tree.root.0, parents_and_keys 1 ∙ tree.root.1);
    numbered = λ n h. let b = tree.numbered n (sym (known n) ∙ h) in (b.0, omega (arith, b.1, next));
    attached = λ n h. Leads-mono (λ q p e. ap (option_map (λ w. w.0)) (parents_and_keys q) ∙ e) (tree.attached n (sym (known n) ∙ h));
    distinct = λ p k l m n x y same. tree.distinct p k l m n (sym (parents_and_keys m) ∙ x) (sym (parents_and_keys n) ∙ y) same;
  }

  IsTree-with_item_at : (eq : K → K → Bool) (t : Keyed K D) (n : ℕ) (d : D) (o : Option (Entry K D)) → entry t n ≡ o → IsTree eq t → IsTree eq (with_item_at t n o d)
  IsTree-with_item_at eq t n d None at tree = tree
  IsTree-with_item_at eq t n d (Some e) at tree =
      let s = Sets-insert t.nodes n (record e { item = d }) in
      let u : Keyed K D = with_item_at t n (Some e) d in
      IsTree-same eq t u refl
      (λ q. elim (cases_eq q n) [ inl is ↦ subst (λ v. is_some (entry u v) ≡ is_some (entry t v)) (sym is) (ap is_some s.here ∙ sym (ap is_some at)) | inr ne ↦ ap is_some (s.other q ne) ])
      (λ q. elim (cases_eq q n) [ inl is ↦ subst (λ v. parent_and_key u v ≡ parent_and_key t v) (sym is) (ap parent_and_key_of s.here ∙ sym (ap parent_and_key_of at)) | inr ne ↦ ap parent_and_key_of (s.other q ne) ])
      tree

  pub IsTree-with_item : (eq : K → K → Bool) (t : Keyed K D) (n : ℕ) (d : D) → IsTree eq t → IsTree eq (with_item t n d)
  IsTree-with_item eq t n d tree = IsTree-with_item_at eq t n d (entry t n) refl tree

  -- ---- refusals of `add_child`
  module _ (eq : K → K → Bool) (t : Keyed K D) (p : ℕ) (k : K) where
    pub refusal-none : (overwrite : Bool) → is_some (entry t p) ≡ true → is_some (child (eq k) t p) ≡ false → add_refusal eq t p k overwrite ≡ None
    refusal-none overwrite h c =
        ap (λ b. cond b (cond (is_some (child (eq k) t p) && not overwrite) (Some Exists) None) (Some NotFound)) h
        ∙ ap (λ b. cond (b && not overwrite) (Some Exists) None) c

    pub refusal-over : (overwrite : Bool) → overwrite ≡ true → is_some (entry t p) ≡ true → add_refusal eq t p k overwrite ≡ None
    refusal-over overwrite o h =
        ap (λ b. cond b (cond (is_some (child (eq k) t p) && not overwrite) (Some Exists) None) (Some NotFound)) h
        ∙ ap (λ b. cond (is_some (child (eq k) t p) && not b) (Some Exists) None) o
        ∙ ap (λ b. cond b (Some Exists) None) (and_right (is_some (child (eq k) t p)) (not true) refl)
