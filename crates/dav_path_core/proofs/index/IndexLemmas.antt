-- An index says what is so before and after each change of its tree.
use Rattle.std.proofs.Common.{◌≡◌, ◌≢◌, ◌⊎◌, inl, inr, ℕ, true, Option, Some, None, refl, sym, ap, ◌∙◌, subst}
use Rattle.std.specs.Option.{option_map}
use Rattle.std.specs.Ordering.{nat_cmp}
use Rattle.std.specs.Cmp.{nat_cmp_total}
use Rattle.std.specs.Cmp.Lexicographic.{pointwise, bytes_decides}
use Rattle.std.specs.Prelude.{nat_eq}
use Rattle.std.specs.FinMap.{get, insert, remove, empty, get-empty, nat_cmp-IsAntisymmetric}
use Rattle.std.proofs.lemmas.Bool.{true≢false, cases_eq}
use Rattle.dav_path_core.specs.Fronts.{Segment}
use Rattle.dav_path_core.specs.Keyed.{Entry, Keyed, IsTree, IsChild, child, add_as, without_node, with_new_place, placed_at, with_item, with_item_at, entry, parent_and_key_of}
use Rattle.dav_path_core.specs.ChildIndex.{NumbersByName, Index, IsIndex, index_answer, is_key_named, with_noted, noted_at, without_noted, forgotten_at}
use Rattle.dav_path_core.proofs.lists.FinMaps.{dec, get_same, get_other, get_gone, get_left}
use Rattle.dav_path_core.proofs.lists.Orders.{segment_total, segment_exact}
use Rattle.dav_path_core.proofs.trees.Trees.{same_some, none≢some, child-some, child-none, Sets, Sets-insert}
use Rattle.dav_path_core.proofs.trees.KeyedCuts.{entry-without}
use Rattle.dav_path_core.proofs.trees.ChildChanges.{child-without, child-add_as, child-placed, child-with_item-at}

same_name : (s k : Segment) → is_key_named s k ≡ true → k ≡ s
same_name s k h = (bytes_decides k s).0 h

own_name : (s : Segment) → is_key_named s s ≡ true
own_name s = (bytes_decides s s).1 refl

-- of two children of one node at equal keys, both are one
abbrev pub Distinct : {D : Type 0} → Keyed Segment D → Type 0
Distinct t = (p : ℕ) (k l : Segment) (m n : ℕ) → IsChild t p k m → IsChild t p l n → pointwise nat_eq k l ≡ true → m ≡ n

-- ---- what an index says after a change of itself
module _ (ix : Index) (p q : ℕ) (s : Segment) where
  told-here : (names : NumbersByName) → q ≡ p → index_answer (insert ix p names) q s ≡ Some (get names s)
  told-here names is = ap (λ r. index_answer (insert ix p names) r s) is ∙ ap (option_map (λ x. get x s)) (get_same nat_cmp_total nat_cmp-IsAntisymmetric ix p names)

  told-other : (names : NumbersByName) → q ≢ p → index_answer (insert ix p names) q s ≡ index_answer ix q s
  told-other names ne = ap (option_map (λ x. get x s)) (get_other nat_cmp_total nat_cmp-IsAntisymmetric ix p names q ne)

  told-gone : q ≡ p → index_answer (remove ix p) q s ≡ None
  told-gone is = ap (λ r. index_answer (remove ix p) r s) is ∙ ap (option_map (λ x. get x s)) (get_gone nat_cmp_total nat_cmp-IsAntisymmetric ix p)

  told-left : q ≢ p → index_answer (remove ix p) q s ≡ index_answer ix q s
  told-left ne = ap (option_map (λ x. get x s)) (get_left nat_cmp_total nat_cmp-IsAntisymmetric ix p q ne)

numbers : (p q : ℕ) → (q ≡ p) ⊎ (q ≢ p)
numbers p q = dec nat_cmp_total nat_cmp-IsAntisymmetric q p

names_apart : (s r : Segment) → (r ≡ s) ⊎ (r ≢ s)
names_apart s r = dec segment_total segment_exact r s

module _ {D : Type 0} where
  -- the one child that has a name
  pub only : (t : Keyed Segment D) → Distinct t → (p n : ℕ) (s : Segment) → IsChild t p s n → child (is_key_named s) t p ≡ Some n
  only t distinct p n s is =
      elim (child (is_key_named s) t p) as (λ o. child (is_key_named s) t p ≡ o → o ≡ Some n) [
        | None ↦ λ none. absurd (true≢false (sym (own_name s) ∙ child-none t (is_key_named s) p none n s is))
        | Some m ↦ λ some. let w = child-some t (is_key_named s) p m some in ap (λ (x : ℕ). Some x) (distinct p w.0 s m n w.1 is w.2)
      ] refl

  pub nobody : (t : Keyed Segment D) (p : ℕ) (s : Segment) → ((n : ℕ) → IsChild t p s n → ⊥) → child (is_key_named s) t p ≡ None
  nobody t p s none =
      elim (child (is_key_named s) t p) as (λ o. child (is_key_named s) t p ≡ o → o ≡ None) [
        | None ↦ λ _. refl
        | Some m ↦ λ some. let w = child-some t (is_key_named s) p m some in absurd (none m (subst (λ k. IsChild t p k m) (same_name s w.0 w.2) w.1))
      ] refl

  -- what tells the name of a child
  child_is : (t : Keyed Segment D) (p : ℕ) (s : Segment) (n : ℕ) → child (is_key_named s) t p ≡ Some n → IsChild t p s n
  child_is t p s n some = let w = child-some t (is_key_named s) p n some in subst (λ k. IsChild t p k n) (same_name s w.0 w.2) w.1

  child_is_not : (t : Keyed Segment D) (p : ℕ) (s : Segment) (n : ℕ) → child (is_key_named s) t p ≡ None → IsChild t p s n → ⊥
  child_is_not t p s n none is = true≢false (sym (own_name s) ∙ child-none t (is_key_named s) p none n s is)

  module _ (t u : Keyed Segment D) (distinct : Distinct u) (p : ℕ) (s : Segment) where
    same_child : ((n : ℕ) → IsChild t p s n → IsChild u p s n) → ((n : ℕ) → IsChild u p s n → IsChild t p s n) → child (is_key_named s) u p ≡ child (is_key_named s) t p
    same_child there back =
        elim (child (is_key_named s) t p) as (λ o. child (is_key_named s) t p ≡ o → child (is_key_named s) u p ≡ o) [
          | Some n ↦ λ some. only u distinct p n s (there n (child_is t p s n some))
          | None ↦ λ none. nobody u p s (λ n is. child_is_not t p s n none (back n is))
        ] refl

  -- an index that knows no folder
  pub IsIndex-empty : (t : Keyed Segment D) → IsIndex t empty
  IsIndex-empty t p s o says = absurd (none≢some o (sym (ap (option_map (λ x. get x s)) (get-empty nat_cmp p)) ∙ says))

  -- a tree with the same children
  pub IsIndex-same : (t u : Keyed Segment D) (ix : Index) → ((q : ℕ) (s : Segment) → child (is_key_named s) u q ≡ child (is_key_named s) t q) → IsIndex t ix → IsIndex u ix
  IsIndex-same t u ix same index q s o says = index q s o says ∙ sym (same q s)

  -- a folder whose names are known anew
  pub IsIndex-kept : (t : Keyed Segment D) (ix : Index) (p : ℕ) (names : NumbersByName) → ((s : Segment) → get names s ≡ child (is_key_named s) t p) → IsIndex t ix → IsIndex t (insert ix p names)
  IsIndex-kept t ix p names whole index q s o says = elim (numbers p q) [
    | inl is ↦ same_some o (get names s) (sym says ∙ told-here ix p q s names is) ∙ whole s ∙ ap (λ r. child (is_key_named s) t r) (sym is)
    | inr ne ↦ index q s o (sym (told-other ix p q s names ne) ∙ says)
  ]

  -- where only the children of one folder differ
  module _ (t u : Keyed Segment D) (ix : Index) (p : ℕ) (others : (q : ℕ) → q ≢ p → (s : Segment) → child (is_key_named s) u q ≡ child (is_key_named s) t q) (index : IsIndex t ix) where
    pub IsIndex-removed : IsIndex u (remove ix p)
    IsIndex-removed q s o says = elim (numbers p q) [
      | inl is ↦ absurd (none≢some o (sym (told-gone ix p q s is) ∙ says))
      | inr ne ↦ index q s o (sym (told-left ix p q s ne) ∙ says) ∙ sym (others q ne s)
    ]

    -- the folder has the names that it had, but for a change
    changed : (names new : NumbersByName) → get ix p ≡ Some names → ((s : Segment) → get names s ≡ child (is_key_named s) t p → get new s ≡ child (is_key_named s) u p) → IsIndex u (insert ix p new)
    changed names new has right q s o says = elim (numbers p q) [
      | inl is ↦ same_some o (get new s) (sym says ∙ told-here ix p q s new is) ∙ right s (index p s (get names s) (ap (option_map (λ x. get x s)) has)) ∙ ap (λ r. child (is_key_named s) u r) (sym is)
      | inr ne ↦ index q s o (sym (told-other ix p q s new ne) ∙ says) ∙ sym (others q ne s)
    ]

    unknown : get ix p ≡ None → IsIndex u ix
    unknown none q s o says = elim (numbers p q) [
      | inl is ↦ absurd (none≢some o (sym (ap (option_map (λ x. get x s)) none) ∙ ap (λ r. index_answer ix r s) (sym is) ∙ says))
      | inr ne ↦ index q s o says ∙ sym (others q ne s)
    ]

    -- a child came
    noted_by : (k : Segment) (n : ℕ) → child (is_key_named k) u p ≡ Some n → ((s : Segment) → s ≢ k → child (is_key_named s) u p ≡ child (is_key_named s) t p) → (o : Option NumbersByName) → get ix p ≡ o → IsIndex u (noted_at ix p k n o)
    noted_by k n here other None at = unknown at
    noted_by k n here other (Some names) at = changed names (insert names k n) at (λ s is. elim (names_apart k s) [
      | inl same ↦ ap (get (insert names k n)) same ∙ get_same segment_total segment_exact names k n ∙ sym here ∙ ap (λ r. child (is_key_named r) u p) (sym same)
      | inr ne ↦ get_other segment_total segment_exact names k n s ne ∙ is ∙ sym (other s ne)
    ])

    -- a child went
    forgotten_by : (k : Segment) → child (is_key_named k) u p ≡ None → ((s : Segment) → s ≢ k → child (is_key_named s) u p ≡ child (is_key_named s) t p) → (o : Option NumbersByName) → get ix p ≡ o → IsIndex u (forgotten_at ix p k o)
    forgotten_by k here other None at = unknown at
    forgotten_by k here other (Some names) at = changed names (remove names k) at (λ s is. elim (names_apart k s) [
      | inl same ↦ ap (get (remove names k)) same ∙ get_gone segment_total segment_exact names k ∙ sym here ∙ ap (λ r. child (is_key_named r) u p) (sym same)
      | inr ne ↦ get_left segment_total segment_exact names k s ne ∙ is ∙ sym (other s ne)
    ])

  -- a folder is not known from then on
  pub IsIndex-dropped : (t : Keyed Segment D) (ix : Index) (p : ℕ) → IsIndex t ix → IsIndex t (remove ix p)
  IsIndex-dropped t ix p index = IsIndex-removed t t ix p (λ q ne s. refl) index

  -- a child n of p at k goes
  module _ (t w : Keyed Segment D) (n p : ℕ) (k : Segment) (is : IsChild t p k n) (distinct : Distinct t) (there : (q m : ℕ) (l : Segment) → IsChild t q l m → m ≢ n → IsChild w q l m) (back : (q m : ℕ) (l : Segment) → IsChild w q l m → IsChild t q l m × m ≢ n) where
    distinct_rest : Distinct w
    distinct_rest q l m a b x y same = distinct q l m a b (back q a l x).0 (back q b m y).0 same

    pub gone-same : (q : ℕ) (s : Segment) → ((m : ℕ) → IsChild t q s m → m ≢ n) → child (is_key_named s) w q ≡ child (is_key_named s) t q
    gone-same q s apart = same_child t w distinct_rest q s (λ m x. there q m s x (apart m x)) (λ m x. (back q m s x).0)

    gone-others : (q : ℕ) → q ≢ p → (s : Segment) → child (is_key_named s) w q ≡ child (is_key_named s) t q
    gone-others q ne s = gone-same q s (λ m x e. ne (ap (λ (v : ℕ × Segment). v.0) (same_some (q, s) (p, k) (sym (subst (λ v. IsChild t q s v) e x) ∙ is))))

    pub IsIndex-gone : (ix : Index) → IsIndex t ix → IsIndex w (without_noted ix p k)
    IsIndex-gone ix index = forgotten_by t w ix p gone-others index k
        (nobody w p k (λ m x. let b = back p m k x in b.1 (distinct p k k m n b.0 is ((bytes_decides k k).1 refl))))
        (λ s ne. gone-same p s (λ m x e. ne (ap (λ (v : ℕ × Segment). v.1) (same_some (p, s) (p, k) (sym (subst (λ v. IsChild t p s v) e x) ∙ is)))))
        (get ix p) refl

  -- a child n of p at k comes
  module _ (w u : Keyed Segment D) (n p : ℕ) (k : Segment) (is : IsChild u p k n) (distinct : Distinct u) (there : (q m : ℕ) (l : Segment) → IsChild w q l m → IsChild u q l m) (back : (q m : ℕ) (l : Segment) → IsChild u q l m → ((q ≡ p) × (l ≡ k) × (m ≡ n)) ⊎ IsChild w q l m) where
    come-same : (q : ℕ) (s : Segment) → ((q ≡ p) → (s ≡ k) → ⊥) → child (is_key_named s) u q ≡ child (is_key_named s) w q
    come-same q s apart = same_child w u distinct q s (λ m x. there q m s x) (λ m x. elim (back q m s x) [ inl new ↦ absurd (apart new.0 new.1) | inr old ↦ old ])

    come-others : (q : ℕ) → q ≢ p → (s : Segment) → child (is_key_named s) u q ≡ child (is_key_named s) w q
    come-others q ne s = come-same q s (λ e _. ne e)

    pub IsIndex-come : (ix : Index) → IsIndex w ix → IsIndex u (with_noted ix p k n)
    IsIndex-come ix index = noted_by w u ix p come-others index k n (only u distinct p n k is) (λ s ne. come-same p s (λ _ e. ne e)) (get ix p) refl

    pub IsIndex-lost : (ix : Index) → IsIndex w ix → IsIndex u (remove ix p)
    IsIndex-lost ix index = IsIndex-removed w u ix p come-others index

  -- ---- the changes of a tree
  IsChild-new : (t u : Keyed Segment D) (n p : ℕ) (k : Segment) (e : Entry Segment D) → e.parent_and_key ≡ Some (p, k) → Sets (entry t) (entry u) n (Some e) → IsChild u p k n
  IsChild-new t u n p k e at s = ap parent_and_key_of s.here ∙ at

  IsChild-old : (t u : Keyed Segment D) (n : ℕ) (o : Option (Entry Segment D)) → Sets (entry t) (entry u) n o → (q m : ℕ) (l : Segment) → IsChild t q l m → m ≢ n → IsChild u q l m
  IsChild-old t u n o s q m l x ne = ap parent_and_key_of (s.other m ne) ∙ x

  module _ (t : Keyed Segment D) (tree : IsTree (pointwise nat_eq) t) where
    pub IsIndex-without : (n p : ℕ) (k : Segment) (ix : Index) → IsChild t p k n → IsIndex t ix → IsIndex (without_node t n) (without_noted ix p k)
    IsIndex-without n p k ix is index = IsIndex-gone t (without_node t n) n p k is tree.distinct (IsChild-old t (without_node t n) n None (entry-without t n)) (λ q m l. child-without t n q m l) ix index

    -- a node is added under a number that is free
    module _ (n next p : ℕ) (k : Segment) (d : D) (unused : entry t n ≡ None) (after : IsTree (pointwise nat_eq) (add_as t n next p k d)) (ix : Index) (index : IsIndex t ix) where
      abbrev more : Keyed Segment D
      more = add_as t n next p k d

      abbrev e : Entry Segment D
      e = record { parent_and_key = Some (p, k); item = d }

      sets : Sets (entry t) (entry more) n (Some e)
      sets = Sets-insert t.nodes n e

      -- an unknown number is no child
      not_new : (q m : ℕ) (l : Segment) → IsChild t q l m → m ≢ n
      not_new q m l x is = none≢some (q, l) (ap parent_and_key_of (sym unused) ∙ subst (IsChild t q l) is x)

      there : (q m : ℕ) (l : Segment) → IsChild t q l m → IsChild more q l m
      there q m l x = IsChild-old t more n (Some e) sets q m l x (not_new q m l x)

      back : (q m : ℕ) (l : Segment) → IsChild more q l m → ((q ≡ p) × (l ≡ k) × (m ≡ n)) ⊎ IsChild t q l m
      back q m l x = elim (child-add_as t n next p k d q m l x) [ inl new ↦ inl new | inr old ↦ inr old.1 ]

      pub IsChild-added : IsChild more p k n
      IsChild-added = IsChild-new t more n p k e refl sets

      pub IsIndex-added : (new : Index) → (new ≡ with_noted ix p k n) ⊎ (new ≡ remove ix p) → IsIndex more new
      IsIndex-added new how = elim how [
        | inl is ↦ subst (IsIndex more) (sym is) (IsIndex-come t more n p k IsChild-added after.distinct there back ix index)
        | inr is ↦ subst (IsIndex more) (sym is) (IsIndex-lost t more n p k IsChild-added after.distinct there back ix index)
      ]

    -- a node moves from p at k to r at l
    module _ (n p r : ℕ) (k l : Segment) (is : IsChild t p k n) (after : IsTree (pointwise nat_eq) (with_new_place t n r l)) where
      abbrev w : Keyed Segment D
      w = without_node t n

      abbrev u : Keyed Segment D
      u = with_new_place t n r l

      gone_there : (q m : ℕ) (x : Segment) → IsChild t q x m → m ≢ n → IsChild w q x m
      gone_there = IsChild-old t w n None (entry-without t n)

      come_back : (q m : ℕ) (x : Segment) → IsChild u q x m → ((q ≡ r) × (x ≡ l) × (m ≡ n)) ⊎ IsChild w q x m
      come_back q m x h = elim (child-placed t n r l q m x h) [ inl new ↦ inl new | inr old ↦ inr (gone_there q m x old.1 old.0) ]

      placed_sets : (o : Option (Entry Segment D)) → entry t n ≡ o → ((e : Entry Segment D) × (e.parent_and_key ≡ Some (r, l)) × Sets (entry t) (entry (placed_at t n r l o)) n (Some e))
      placed_sets None at = absurd (none≢some (p, k) (ap parent_and_key_of (sym at) ∙ is))
      placed_sets (Some x) at = (record x { parent_and_key = Some (r, l) }, refl, Sets-insert t.nodes n (record x { parent_and_key = Some (r, l) }))

      come_there : (q m : ℕ) (x : Segment) → IsChild w q x m → IsChild u q x m
      come_there q m x h = let b = child-without t n q m x h in let s = placed_sets (entry t n) refl in IsChild-old t u n (Some s.0) s.2 q m x b.0 b.1

      pub IsChild-placed : IsChild u r l n
      IsChild-placed = let s = placed_sets (entry t n) refl in IsChild-new t u n r l s.0 s.1 s.2

      pub IsIndex-placed : (ix new : Index) → IsIndex t ix → (new ≡ with_noted (without_noted ix p k) r l n) ⊎ (new ≡ remove (without_noted ix p k) r) → IsIndex u new
      IsIndex-placed ix new index how =
          let gone : IsIndex w (without_noted ix p k) = IsIndex-gone t w n p k is tree.distinct gone_there (λ q m x. child-without t n q m x) ix index in
          elim how [
            | inl e ↦ subst (IsIndex u) (sym e) (IsIndex-come w u n r l IsChild-placed after.distinct come_there come_back (without_noted ix p k) gone)
            | inr e ↦ subst (IsIndex u) (sym e) (IsIndex-lost w u n r l IsChild-placed after.distinct come_there come_back (without_noted ix p k) gone)
          ]

  -- ---- the item of a node
  module _ (t : Keyed Segment D) (tree : IsTree (pointwise nat_eq) t) (n : ℕ) (o : Option (Entry Segment D)) (at : entry t n ≡ o) (d : D) where
    item_there : (v : Option (Entry Segment D)) → entry t n ≡ v → (q m : ℕ) (l : Segment) → IsChild t q l m → IsChild (with_item_at t n v d) q l m
    item_there None is q m l x = x
    item_there (Some e) is q m l x =
        let s : Sets (entry t) (entry (with_item_at t n (Some e) d)) n (Some (record e { item = d })) = Sets-insert t.nodes n (record e { item = d }) in
        elim (cases_eq m n) [
          | inl same ↦ subst (λ v. IsChild (with_item_at t n (Some e) d) q l v) (sym same) (ap parent_and_key_of s.here ∙ ap parent_and_key_of (sym is) ∙ subst (λ v. IsChild t q l v) same x)
          | inr ne ↦ IsChild-old t (with_item_at t n (Some e) d) n (Some (record e { item = d })) s q m l x ne
        ]

    pub IsIndex-with_item_at : (ix : Index) → IsIndex t ix → IsIndex (with_item_at t n o d) ix
    IsIndex-with_item_at ix = IsIndex-same t (with_item_at t n o d) ix (λ q s.
        same_child t (with_item_at t n o d) (λ p k l a b x y same. tree.distinct p k l a b (child-with_item-at t n d o at p a k x) (child-with_item-at t n d o at p b l y) same) q s
        (λ m x. item_there o at q m s x) (λ m x. child-with_item-at t n d o at q m s x))

  pub IsIndex-with_item : (t : Keyed Segment D) → IsTree (pointwise nat_eq) t → (n : ℕ) (d : D) (ix : Index) → IsIndex t ix → IsIndex (with_item t n d) ix
  IsIndex-with_item t tree n d ix = IsIndex-with_item_at t tree n (entry t n) refl d ix
