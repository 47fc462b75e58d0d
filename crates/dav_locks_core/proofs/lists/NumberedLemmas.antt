-- Lists of numbered values, in the order of their numbers: look-ups, places, a push and a removal.
use Rattle.std.proofs.Common.{◌≡◌, ◌≢◌, inl, inr, ℕ, zero, suc, ◌<◌, ◌≤◌, ◌==◌, ◌&&◌, Bool, true, false, cond, not, T, List, [], ◌∷◌, ◌++◌, length, get_or, set, Option, Some, None, Ok, Err, refl, sym, ap, ◌∙◌, subst, arith, nat_lt}
use Rattle.std.specs.Prelude.{remove, filter, option_and_then}
use Rattle.std.specs.BTreeMap.{is_at}
use Rattle.std.specs.Map.{keys_of, lookup}
use Rattle.std.specs.List.{AllByRecursion}
use Rattle.std.specs.Ordering.{nat_cmp, is_lt, eq_by_cmp, ordering_index}
use Rattle.std.specs.Cmp.{nat_cmp_total, unsigned_tied}
use Rattle.std.specs.FinMap.{find, is_sorted, nat_cmp-IsAntisymmetric}
use Rattle.std.specs.FinMap.Entries.{below_all, where_key, find-append, find-where_key, is_sorted-where_key}
use Rattle.std.specs.declared.cmp.Ordering.TheVariants.{Less, Equal, Greater}
use Rattle.std.specs.List.Sorted.{IsStrictlySortedBy, IsSearchInRange, IsBinarySearchResult, IsNonDecreasingBy}
use Rattle.std.proofs.lemmas.Bool.Decides.{nat_tests}
use Rattle.std.proofs.lemmas.Cmp.{ranked}
use Rattle.std.proofs.lemmas.List.Sorted.{IsNonDecreasingBy-from_default}
use Rattle.std.proofs.lemmas.Bool.{cases_eq, cases_lt, eq-eqb, ne_eqb, eqb-true, ltb-true, lt-ltb}
use Rattle.dav_path_core.proofs.trees.Trees.{find-head, find-here, same_some, none≢some}

first : (a b : Bool) → T (a && b) → T a
first true b p = tt
first false b p = p

second : (a b : Bool) → T (a && b) → T b
second true b p = p
second false b p = absurd p

both : (a b : Bool) → T a → T b → T (a && b)
both true b p q = q
both false b p q = p

below-is_lt : (a b : ℕ) → a < b → T (is_lt (nat_cmp a b))
below-is_lt a b h = subst (λ v. T (is_lt (cond v Less (cond (a == b) Equal Greater)))) (sym (lt-ltb a b h)) tt

is_lt-below : (a b : ℕ) → T (is_lt (nat_cmp a b)) → a < b
is_lt-below a b h =
    elim (nat_lt a b) as (λ v. nat_lt a b ≡ v → T (is_lt (cond v Less (cond (a == b) Equal Greater))) → a < b) [
      | true ↦ λ e p. ltb-true a b e
      | false ↦ λ e. elim (a == b) as (λ w. T (is_lt (cond w Equal Greater)) → a < b) [ true ↦ λ p. absurd p | false ↦ λ p. absurd p ]
    ] refl h

-- a number other than g
abbrev but : ℕ → ℕ → Bool
but g = λ x. not (eq_by_cmp nat_cmp g x)

but-apart : (g x : ℕ) → g ≢ x → but g x ≡ true
but-apart g x ne = ap not (unsigned_tied g x ∙ ne_eqb g x ne)

but-same : (g x : ℕ) → g ≡ x → but g x ≡ false
but-same g x e = ap not (unsigned_tied g x ∙ eq-eqb g x e)

module _ {X : Type 0} where
  abbrev pub InOrder : List (ℕ × X) → Type 0
  InOrder es = T (is_sorted nat_cmp es)

  pub in_order_tail : (e : ℕ × X) (es : List (ℕ × X)) → InOrder (e ∷ es) → InOrder es
  in_order_tail e es s = second _ _ s

  -- an entry of a list whose numbers are all above
  above_at : (x : ℕ) (es : List (ℕ × X)) (k : ℕ) (d : ℕ × X) → T (below_all nat_cmp x es) → k < length es → x < (get_or es k d).0
  above_at x [] k d h lt = absurd (omega arith)
  above_at x (e ∷ es) zero d h lt = is_lt-below x e.0 (first _ _ h)
  above_at x (e ∷ es) (suc k) d h lt = above_at x es k d (second _ _ h) (omega arith)

  -- ---- look-ups and places

  -- an entry that is found stands at a place
  pub place_of_found : (g : ℕ) (v : X) (es : List (ℕ × X)) → find nat_cmp g es ≡ Some v → (k : ℕ) × (k < length es) × ((d : ℕ × X) → get_or es k d ≡ (g, v))
  place_of_found g v [] h = absurd (none≢some v h)
  place_of_found g v (e ∷ es) h =
      elim (g == e.0) as (λ b. (g == e.0) ≡ b → cond b (Some e.1) (find nat_cmp g es) ≡ Some v → (k : ℕ) × (k < length (e ∷ es)) × ((d : ℕ × X) → get_or (e ∷ es) k d ≡ (g, v))) [
        | true ↦ λ t h. (0, omega arith, λ d. λ i. (sym (eqb-true g e.0 t) i, same_some e.1 v h i))
        | false ↦ λ t h. let r = place_of_found g v es h in (suc r.0, omega arith, λ d. r.2 d)
      ] refl (sym (find-head g e es) ∙ h)

  -- an entry at a place is found
  pub found_at_place : (es : List (ℕ × X)) (k : ℕ) (d : ℕ × X) → InOrder es → k < length es → find nat_cmp (get_or es k d).0 es ≡ Some (get_or es k d).1
  found_at_place [] k d s lt = absurd (omega arith)
  found_at_place (e ∷ es) zero d s lt = find-here e es
  found_at_place (e ∷ es) (suc k) d s lt =
      let up : e.0 < (get_or es k d).0 = above_at e.0 es k d (first _ _ s) (omega arith) in
      find-head (get_or es k d).0 e es ∙ ap (λ b. cond b (Some e.1) (find nat_cmp (get_or es k d).0 es)) (ne_eqb (get_or es k d).0 e.0 (λ q. omega (arith, up, q)))
      ∙ found_at_place es k d (second _ _ s) (omega arith)

  -- a binary search by number finds what is there
  module _ (es : List (ℕ × X)) (d : ℕ × X) (s : InOrder es) (q : ℕ) where
    rises : IsNonDecreasingBy (λ e. ordering_index (nat_cmp e.0 q)) es
    rises = IsNonDecreasingBy-from_default (λ e. ordering_index (nat_cmp e.0 q)) es d (λ i j le lt.
        elim (cases_eq i j) [
          | inl e ↦ subst (λ k. ordering_index (nat_cmp (get_or es i d).0 q) ≤ ordering_index (nat_cmp (get_or es k d).0 q)) e (omega arith)
          | inr ne ↦ let up = later es i j d s (omega (arith, le, ne)) lt in grind (arith, nat_tests)
        ])
      where
        later : (es : List (ℕ × X)) (i j : ℕ) (d : ℕ × X) → InOrder es → i < j → j < length es → (get_or es i d).0 < (get_or es j d).0
        later [] i j d s lt in' = absurd (omega (arith, in'))
        later (e ∷ es) i zero d s lt in' = absurd (omega (arith, lt))
        later (e ∷ es) zero (suc j) d s lt in' = above_at e.0 es j d (first _ _ s) (omega (arith, in'))
        later (e ∷ es) (suc i) (suc j) d s lt in' = later es i j d (second _ _ s) (omega (arith, lt)) (omega (arith, in'))

    pub searched_found : (at : ℕ) → IsSearchInRange (Ok at) (length es) → IsBinarySearchResult (λ e. nat_cmp e.0 q) es (Ok at) → find nat_cmp q es ≡ Some (get_or es at d).1
    searched_found at lt equal =
        let same : (get_or es at d).0 ≡ q = ranked _ q _ (sym (equal d)) in
        ap (λ q. find nat_cmp q es) (sym same) ∙ found_at_place es at d s lt

    pub searched_none : (at : ℕ) → IsSearchInRange (Err at) (length es) → IsBinarySearchResult (λ e. nat_cmp e.0 q) es (Err at) → find nat_cmp q es ≡ None
    searched_none at le parted = none (find nat_cmp q es) refl
      where
        apart : (k : ℕ) → k < length es → (get_or es k d).0 ≡ q → ⊥
        apart k lt same = elim (cases_lt k at) [
          | inl before ↦ (let less : (get_or es k d).0 < q = ranked _ q _ (sym ((parted rises).0 k d (omega arith) before)) in omega (arith, less, same))
          | inr after ↦ (let more : q < (get_or es k d).0 = ranked _ q _ (sym ((parted rises).1 k d after lt)) in omega (arith, more, same))
        ]

        none : (o : Option X) → find nat_cmp q es ≡ o → find nat_cmp q es ≡ None
        none None e = e
        none (Some v) e = let w = place_of_found q v es e in absurd (apart w.0 w.1 (ap (λ (e : ℕ × X). e.0) (w.2 d)))

  -- a look-up in a longer list
  pub find-later : (e : ℕ × X) (es : List (ℕ × X)) (q : ℕ) (v : X) → InOrder (e ∷ es) → find nat_cmp q es ≡ Some v → find nat_cmp q (e ∷ es) ≡ Some v
  find-later e es q v s h =
      let w = place_of_found q v es h in
      let up : e.0 < q = subst (λ (x : ℕ × X). e.0 < x.0) (w.2 e) (above_at e.0 es w.0 e (first _ _ s) w.1) in
      find-head q e es ∙ ap (λ b. cond b (Some e.1) (find nat_cmp q es)) (ne_eqb q e.0 (λ i. omega (arith, up, i))) ∙ h

  -- an earlier place has a lower number
  pub lower_at : (es : List (ℕ × X)) (j k : ℕ) (d : ℕ × X) → InOrder es → j < k → k < length es → (get_or es j d).0 < (get_or es k d).0
  lower_at [] j k d s lt in' = absurd (omega arith)
  lower_at (e ∷ es) j zero d s lt in' = absurd (omega arith)
  lower_at (e ∷ es) zero (suc k) d s lt in' = above_at e.0 es k d (first _ _ s) (omega arith)
  lower_at (e ∷ es) (suc j) (suc k) d s lt in' = lower_at es j k d (second _ _ s) (omega arith) (omega arith)

  -- ---- a push

  below_push : (x k : ℕ) (v : X) (es : List (ℕ × X)) → T (below_all nat_cmp x es) → x < k → T (below_all nat_cmp x (es ++ (k, v) ∷ []))
  below_push x k v [] h lt = both _ _ (below-is_lt x k lt) tt
  below_push x k v (e ∷ es) h lt = both _ _ (first _ _ h) (below_push x k v es (second _ _ h) lt)

  -- every number is below k
  abbrev pub AllBelow : ℕ → List (ℕ × X) → Type 0
  AllBelow k es = (j : ℕ) (d : ℕ × X) → j < length es → (get_or es j d).0 < k

  pub InOrder-push : (es : List (ℕ × X)) (k : ℕ) (v : X) → InOrder es → AllBelow k es → InOrder (es ++ (k, v) ∷ [])
  InOrder-push [] k v s b = tt
  InOrder-push (e ∷ es) k v s b = both _ _ (below_push e.0 k v es (first _ _ s) (b 0 e (omega arith))) (InOrder-push es k v (second _ _ s) (λ j d lt. b (suc j) d (omega arith)))

  pub find-above : (es : List (ℕ × X)) (k : ℕ) → AllBelow k es → find nat_cmp k es ≡ None
  find-above [] k b = refl
  find-above (e ∷ es) k b =
      let lt : e.0 < k = b 0 e (omega arith) in
      find-head k e es ∙ ap (λ t. cond t (Some e.1) (find nat_cmp k es)) (ne_eqb k e.0 (λ q. omega (arith, lt, q))) ∙ find-above es k (λ j d lt. b (suc j) d (omega arith))

  pub find-push : (es : List (ℕ × X)) (k : ℕ) (v : X) (q : ℕ) → AllBelow k es → find nat_cmp q (es ++ (k, v) ∷ []) ≡ cond (q == k) (Some v) (find nat_cmp q es)
  find-push es k v q b = find-append nat_cmp nat_cmp_total es k v q (find-above es k b) ∙ ap (λ t. cond t (Some v) (find nat_cmp q es)) (unsigned_tied q k)

  -- ---- a removal

  -- nothing goes from numbers that are all above
  kept_above : (g : ℕ) (es : List (ℕ × X)) → T (below_all nat_cmp g es) → where_key nat_cmp (but g) es ≡ es
  kept_above g [] h = refl
  kept_above g (e ∷ es) h =
      let lt : g < e.0 = is_lt-below g e.0 (first _ _ h) in
      ap (λ b. cond b (e ∷ where_key nat_cmp (but g) es) (where_key nat_cmp (but g) es)) (but-apart g e.0 (λ q. omega (arith, lt, q))) ∙ ap (λ r. e ∷ r) (kept_above g es (second _ _ h))

  remove-where : (es : List (ℕ × X)) (k : ℕ) (d : ℕ × X) → InOrder es → k < length es → remove es k ≡ where_key nat_cmp (but (get_or es k d).0) es
  remove-where [] k d s lt = absurd (omega arith)
  remove-where (e ∷ es) zero d s lt =
      sym (ap (λ b. cond b (e ∷ where_key nat_cmp (but e.0) es) (where_key nat_cmp (but e.0) es)) (but-same e.0 e.0 refl) ∙ kept_above e.0 es (first _ _ s))
  remove-where (e ∷ es) (suc k) d s lt =
      let g = (get_or es k d).0 in
      let up : e.0 < g = above_at e.0 es k d (first _ _ s) (omega arith) in
      ap (λ r. e ∷ r) (remove-where es k d (second _ _ s) (omega arith))
      ∙ sym (ap (λ b. cond b (e ∷ where_key nat_cmp (but g) es) (where_key nat_cmp (but g) es)) (but-apart g e.0 (λ q. omega (arith, up, q))))

  pub InOrder-remove : (es : List (ℕ × X)) (k : ℕ) → InOrder es → k < length es → InOrder (remove es k)
  InOrder-remove [] k s lt = absurd (omega arith)
  InOrder-remove (e ∷ es) k s lt =
      subst InOrder (sym (remove-where (e ∷ es) k e s lt)) (is_sorted-where_key nat_cmp (but (get_or (e ∷ es) k e).0) (e ∷ es) s)

  pub find-remove : (es : List (ℕ × X)) (k : ℕ) (d : ℕ × X) (q : ℕ) → InOrder es → k < length es → find nat_cmp q (remove es k) ≡ cond (but (get_or es k d).0 q) (find nat_cmp q es) None
  find-remove es k d q s lt =
      let g = (get_or es k d).0 in
      ap (find nat_cmp q) (remove-where es k d s lt)
      ∙ find-where_key nat_cmp (but g) q (λ x t. ap (but g) (sym (tied q x t))) es
    where
      tied : (q x : ℕ) → nat_cmp q x ≡ Equal → q ≡ x
      tied q x t = nat_cmp-IsAntisymmetric q x t

  pub find-other : (es : List (ℕ × X)) (k : ℕ) (d : ℕ × X) (q : ℕ) → InOrder es → k < length es → q ≢ (get_or es k d).0 → find nat_cmp q (remove es k) ≡ find nat_cmp q es
  find-other es k d q s lt ne = find-remove es k d q s lt ∙ ap (λ b. cond b (find nat_cmp q es) None) (but-apart (get_or es k d).0 q (λ e. ne (sym e)))

  pub find-gone : (es : List (ℕ × X)) (k : ℕ) (d : ℕ × X) → InOrder es → k < length es → find nat_cmp (get_or es k d).0 (remove es k) ≡ None
  find-gone es k d s lt = let g = (get_or es k d).0 in find-remove es k d g s lt ∙ ap (λ b. cond b (find nat_cmp g es) None) (but-same g g refl)

  -- one that is found after a removal has another number, and was found before
  pub found-removed : (es : List (ℕ × X)) (k : ℕ) (d : ℕ × X) (q : ℕ) (v : X) → InOrder es → k < length es → find nat_cmp q (remove es k) ≡ Some v → (q ≢ (get_or es k d).0) × (find nat_cmp q es ≡ Some v)
  found-removed es k d q v s lt h =
      let g = (get_or es k d).0 in
      elim (cases_eq q g) [
        | inl e ↦ absurd (none≢some v (sym (find-remove es k d q s lt ∙ ap (λ b. cond b (find nat_cmp q es) None) (but-same g q (sym e))) ∙ h))
        | inr ne ↦ (ne, sym (find-remove es k d q s lt ∙ ap (λ b. cond b (find nat_cmp q es) None) (but-apart g q (λ e. ne (sym e)))) ∙ h)
      ]

  pub found-kept : (es : List (ℕ × X)) (k : ℕ) (d : ℕ × X) (q : ℕ) (v : X) → InOrder es → k < length es → q ≢ (get_or es k d).0 → find nat_cmp q es ≡ Some v → find nat_cmp q (remove es k) ≡ Some v
  found-kept es k d q v s lt ne h =
      let g = (get_or es k d).0 in
      find-remove es k d q s lt ∙ ap (λ b. cond b (find nat_cmp q es) None) (but-apart g q (λ e. ne (sym e))) ∙ h

  -- ---- a filter

  -- what is left of a value that is found
  abbrev pub kept_if : (ℕ × X → Bool) → ℕ → Option X → Option X
  kept_if test q None = None
  kept_if test q (Some v) = cond (test (q, v)) (Some v) None

  below_filter : (test : ℕ × X → Bool) (k : ℕ) (es : List (ℕ × X)) → T (below_all nat_cmp k es) → T (below_all nat_cmp k (filter test es))
  below_filter test k [] h = tt
  below_filter test k (e ∷ es) h = elim (test e) as (λ b. T (below_all nat_cmp k (cond b (e ∷ filter test es) (filter test es)))) [
    | true ↦ both _ _ (first _ _ h) (below_filter test k es (second _ _ h))
    | false ↦ below_filter test k es (second _ _ h)
  ]

  pub InOrder-filter : (test : ℕ × X → Bool) (es : List (ℕ × X)) → InOrder es → InOrder (filter test es)
  InOrder-filter test [] s = tt
  InOrder-filter test (e ∷ es) s = elim (test e) as (λ b. InOrder (cond b (e ∷ filter test es) (filter test es))) [
    | true ↦ both _ _ (below_filter test e.0 es (first _ _ s)) (InOrder-filter test es (second _ _ s))
    | false ↦ InOrder-filter test es (second _ _ s)
  ]

  -- a number below all is not found
  not_below : (k : ℕ) (es : List (ℕ × X)) → T (below_all nat_cmp k es) → find nat_cmp k es ≡ None
  not_below k [] h = refl
  not_below k (e ∷ es) h =
      let lt : k < e.0 = is_lt-below k e.0 (first _ _ h) in
      find-head k e es ∙ ap (λ b. cond b (Some e.1) (find nat_cmp k es)) (ne_eqb k e.0 (λ q. omega (arith, lt, q))) ∙ not_below k es (second _ _ h)

  pub find-filter : (test : ℕ × X → Bool) (es : List (ℕ × X)) (q : ℕ) → InOrder es → find nat_cmp q (filter test es) ≡ kept_if test q (find nat_cmp q es)
  find-filter test [] q s = refl
  find-filter test (e ∷ es) q s = elim (cases_eq q e.0) [
    | inl is ↦
        subst (λ q. find nat_cmp q (filter test (e ∷ es)) ≡ kept_if test q (find nat_cmp q (e ∷ es))) (sym is)
        (at_head (test e) refl ∙ sym (ap (kept_if test e.0) (find-here e es)))
    | inr ne ↦ past (test e) ne ∙ find-filter test es q (second _ _ s) ∙ ap (kept_if test q) (sym (find-head q e es ∙ ap (λ b. cond b (Some e.1) (find nat_cmp q es)) (ne_eqb q e.0 ne)))
  ]
    where
      at_head : (b : Bool) → test e ≡ b → find nat_cmp e.0 (cond b (e ∷ filter test es) (filter test es)) ≡ cond b (Some e.1) None
      at_head true i = find-here e (filter test es)
      at_head false i = not_below e.0 (filter test es) (below_filter test e.0 es (first _ _ s))

      past : (b : Bool) → q ≢ e.0 → find nat_cmp q (cond b (e ∷ filter test es) (filter test es)) ≡ find nat_cmp q (filter test es)
      past true ne = find-head q e (filter test es) ∙ ap (λ b. cond b (Some e.1) (find nat_cmp q (filter test es))) (ne_eqb q e.0 ne)
      past false ne = refl

  -- ---- another value at a place

  below_set : (x k v : ℕ) (y : X) (d : ℕ × X) (es : List (ℕ × X)) → T (below_all nat_cmp x es) → k < length es → v ≡ (get_or es k d).0 → T (below_all nat_cmp x (set es k (v, y)))
  below_set x k v y d [] h lt is = absurd (omega (arith, lt))
  below_set x zero v y d (e ∷ es) h lt is = both _ _ (subst (λ n. T (is_lt (nat_cmp x n))) (sym is) (first _ _ h)) (second _ _ h)
  below_set x (suc k) v y d (e ∷ es) h lt is = both _ _ (first _ _ h) (below_set x k v y d es (second _ _ h) (omega (arith, lt)) is)

  pub InOrder-set : (es : List (ℕ × X)) (k v : ℕ) (y : X) (d : ℕ × X) → InOrder es → k < length es → v ≡ (get_or es k d).0 → InOrder (set es k (v, y))
  InOrder-set [] k v y d s lt is = absurd (omega (arith, lt))
  InOrder-set (e ∷ es) zero v y d s lt is = both _ _ (subst (λ n. T (below_all nat_cmp n es)) (sym is) (first _ _ s)) (second _ _ s)
  InOrder-set (e ∷ es) (suc k) v y d s lt is = both _ _ (below_set e.0 k v y d es (first _ _ s) (omega (arith, lt)) is) (InOrder-set es k v y d (second _ _ s) (omega (arith, lt)) is)

  pub find-set : (es : List (ℕ × X)) (k v : ℕ) (y : X) (d : ℕ × X) (q : ℕ) → InOrder es → k < length es → v ≡ (get_or es k d).0 → find nat_cmp q (set es k (v, y)) ≡ cond (q == v) (Some y) (find nat_cmp q es)
  find-set [] k v y d q s lt is = absurd (omega (arith, lt))
  find-set (e ∷ es) zero v y d q s lt is =
      find-head q (v, y) es ∙ elim (q == v) as (λ b. (q == v) ≡ b → cond b (Some y) (find nat_cmp q es) ≡ cond b (Some y) (find nat_cmp q (e ∷ es))) [
        | true ↦ λ t. refl
        | false ↦ λ f. sym (find-head q e es ∙ ap (λ n. cond (q == n) (Some e.1) (find nat_cmp q es)) (sym is) ∙ ap (λ b. cond b (Some e.1) (find nat_cmp q es)) f)
      ] refl
  find-set (e ∷ es) (suc k) v y d q s lt is =
      let up : e.0 < (get_or es k d).0 = above_at e.0 es k d (first _ _ s) (omega (arith, lt)) in
      find-head q e (set es k (v, y)) ∙ ap (λ o. cond (q == e.0) (Some e.1) o) (find-set es k v y d q (second _ _ s) (omega (arith, lt)) is)
      ∙ elim (cases_eq q e.0) [
        | inl i ↦
            let here : (q == e.0) ≡ true = eq-eqb q e.0 i in
            let not_v : (q == v) ≡ false = ne_eqb q v (λ j. omega (arith, up, is, i, j)) in
            ap (λ b. cond b (Some e.1) (cond (q == v) (Some y) (find nat_cmp q es))) here
            ∙ sym (ap (λ b. cond b (Some y) (find nat_cmp q (e ∷ es))) not_v ∙ find-head q e es ∙ ap (λ b. cond b (Some e.1) (find nat_cmp q es)) here)
        | inr ne ↦
            let apart : (q == e.0) ≡ false = ne_eqb q e.0 ne in
            ap (λ b. cond b (Some e.1) (cond (q == v) (Some y) (find nat_cmp q es))) apart
            ∙ ap (λ o. cond (q == v) (Some y) o) (sym (find-head q e es ∙ ap (λ b. cond b (Some e.1) (find nat_cmp q es)) apart))
      ]

-- ---- other values under the same numbers, where there are some

module _ {X Y : Type 0} (f : ℕ → X → Option Y) where
  abbrev pub with_value : ℕ → Option Y → List (ℕ × Y) → List (ℕ × Y)
  with_value g None es = es
  with_value g (Some v) es = (g, v) ∷ es

  unfoldable pub values_by : List (ℕ × X) → List (ℕ × Y)
  values_by [] = []
  values_by (e ∷ es) = with_value e.0 (f e.0 e.1) (values_by es)

  below_values : (k : ℕ) (es : List (ℕ × X)) → T (below_all nat_cmp k es) → T (below_all nat_cmp k (values_by es))
  unfolding values_by
  below_values k [] h = tt
  below_values k (e ∷ es) h = by (below_values k es (second _ _ h)) (f e.0 e.1)
    where
      by : T (below_all nat_cmp k (values_by es)) → (o : Option Y) → T (below_all nat_cmp k (with_value e.0 o (values_by es)))
      by rest None = rest
      by rest (Some v) = both _ _ (first _ _ h) rest

  pub InOrder-values : (es : List (ℕ × X)) → InOrder es → InOrder (values_by es)
  unfolding values_by
  InOrder-values [] s = tt
  InOrder-values (e ∷ es) s = by (InOrder-values es (second _ _ s)) (f e.0 e.1)
    where
      by : InOrder (values_by es) → (o : Option Y) → InOrder (with_value e.0 o (values_by es))
      by rest None = rest
      by rest (Some v) = both _ _ (below_values e.0 es (first _ _ s)) rest

  pub find-values : (es : List (ℕ × X)) (q : ℕ) → InOrder es → find nat_cmp q (values_by es) ≡ option_and_then (f q) (find nat_cmp q es)
  unfolding values_by
  find-values [] q s = refl
  find-values (e ∷ es) q s = elim (cases_eq q e.0) [
    | inl i ↦
        subst (λ q. find nat_cmp q (values_by (e ∷ es)) ≡ option_and_then (f q) (find nat_cmp q (e ∷ es))) (sym i)
        (at_head (f e.0 e.1) refl ∙ sym (ap (option_and_then (f e.0)) (find-here e es)))
    | inr ne ↦
        past (f e.0 e.1) ne ∙ find-values es q (second _ _ s)
        ∙ ap (option_and_then (f q)) (sym (find-head q e es ∙ ap (λ b. cond b (Some e.1) (find nat_cmp q es)) (ne_eqb q e.0 ne)))
  ]
    where
      at_head : (o : Option Y) → f e.0 e.1 ≡ o → find nat_cmp e.0 (with_value e.0 o (values_by es)) ≡ f e.0 e.1
      at_head None i = not_below e.0 (values_by es) (below_values e.0 es (first _ _ s)) ∙ sym i
      at_head (Some v) i = find-here (e.0, v) (values_by es) ∙ sym i

      past : (o : Option Y) → q ≢ e.0 → find nat_cmp q (with_value e.0 o (values_by es)) ≡ find nat_cmp q (values_by es)
      past None ne = refl
      past (Some v) ne = find-head q (e.0, v) (values_by es) ∙ ap (λ b. cond b (Some v) (find nat_cmp q (values_by es))) (ne_eqb q e.0 ne)

-- ---- a map of the library

pub found_in_map : {X : Type 0} (es : List (ℕ × X)) (q : ℕ) → lookup (is_at (nat_cmp q)) es ≡ find nat_cmp q es
found_in_map [] q = refl
found_in_map (e ∷ es) q = ap (λ o. cond (eq_by_cmp nat_cmp q e.0) (Some e.1) o) (found_in_map es q)

pub InOrder-map : {X : Type 0} (es : List (ℕ × X)) → IsStrictlySortedBy nat_cmp (keys_of es) → InOrder es
unfolding IsStrictlySortedBy
InOrder-map [] s = tt
InOrder-map (e ∷ es) s = both _ _ (below es s.0) (InOrder-map es s.1)
  where
    below : {X : Type 0} (es : List (ℕ × X)) → AllByRecursion (λ y. nat_cmp e.0 y ≡ Less) (keys_of es) → T (below_all nat_cmp e.0 es)
    below [] h = tt
    below (x ∷ es) h = both _ _ (subst (λ o. T (is_lt o)) (sym h.0) tt) (below es h.1)
