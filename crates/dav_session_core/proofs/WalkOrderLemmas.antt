-- Paths in order: each folder comes right before all that is in it, and two lists in order with the
-- same paths are equal.
use Rattle.std.proofs.Common.{◌≡◌, ◌≢◌, inl, inr, suc, arith, false, List, [], ◌∷◌, ◌++◌, map, refl, sym, ap, ◌∙◌, subst, append-nil}
use Rattle.std.specs.Prelude.{Contains, T, reverse, slice_index_or}
use Rattle.std.specs.List.{AllPairs}
use Rattle.std.specs.declared.cmp.Ordering.{Ordering}
use Rattle.std.specs.declared.cmp.Ordering.TheVariants.{Less, Equal, Greater}
use Rattle.std.specs.Ordering.{is_lt, ordering_then}
use Rattle.std.specs.Cmp.{tied_itself}
use Rattle.std.specs.FinMap.{is_sorted}
use Rattle.std.specs.FinMap.Entries.{below_all}
use Rattle.std.proofs.lemmas.Bool.{true≢false, false_from_ne_true}
use Rattle.std.proofs.lemmas.Grind.{reverse_onto}
use Rattle.std.proofs.lemmas.List.{map-append}
use Rattle.dav_path_core.specs.Fronts.{Segment, Path, is_front, path_cmp, segment_cmp}
use Rattle.dav_path_core.proofs.lists.Every.{first_so, second_so}
use Rattle.dav_path_core.proofs.lists.MemberLemmas.{In, In-Contains, Contains-In}
use Rattle.dav_path_core.proofs.lists.Orders.{path_total, segment_exact, segment_total}
use Rattle.dav_path_core.proofs.paths.FrontLemmas.{is_front-cons}
use Rattle.dav_path_core.proofs.paths.SubtreePaths.{Later, in_either, in_left, in_right, in_one, later_both, later_cross, later_front, rest_of}
use Rattle.dav_session_core.specs.MemberPaths.{paths_in}
use Rattle.dav_session_core.specs.Subtrees.{ComesBefore}

-- ---- two paths

pub before_trans : (p q r : Path) → ComesBefore p q → ComesBefore q r → ComesBefore p r
before_trans p q r h k = path_total.trans p q r h k

pub not_itself : (p : Path) → ComesBefore p p → ⊥
not_itself p h = let same : Equal ≡ Less = sym (tied_itself path_total p) ∙ h in cc

pub not_both_ways : (p q : Path) → ComesBefore p q → ComesBefore q p → ⊥
not_both_ways p q h k = not_itself p (before_trans p q p h k)

behind_same : (s : Segment) (p q : Path) → path_cmp (s ∷ p) (s ∷ q) ≡ path_cmp p q
behind_same s p q = ap (λ (o : Ordering). ordering_then o (path_cmp p q))
    (tied_itself segment_total s)

-- a front of both takes no part
pub without_front : (p q r : Path) → ComesBefore (p ++ q) (p ++ r) → ComesBefore q r
without_front [] q r h = h
without_front (s ∷ p) q r h = without_front p q r (sym (behind_same s (p ++ q) (p ++ r)) ∙ h)

pub front_before : (p : Path) (s : Segment) (t : Path) → ComesBefore p (p ++ (s ∷ t))
front_before [] s t = refl
front_before (u ∷ p) s t = behind_same u p (p ++ (s ∷ t)) ∙ front_before p s t

-- what is below a path comes before what the path comes before, where that isn't below it
pub below_before : (p x t : Path) → ComesBefore p x → is_front p x ≡ false → ComesBefore (p ++ t) x
below_before [] x t h apart = absurd (true≢false apart)
below_before (s ∷ p) [] t h apart = absurd (cc)
below_before (s ∷ p) (u ∷ x) t h apart = by (segment_cmp s u) refl h (below_before p x t)
  where
    by : (o : Ordering) → segment_cmp s u ≡ o → ordering_then o (path_cmp p x) ≡ Less
        → (ComesBefore p x → is_front p x ≡ false → ComesBefore (p ++ t) x)
        → ComesBefore ((s ∷ p) ++ t) (u ∷ x)
    by Less e h next = ap (λ (o : Ordering). ordering_then o (path_cmp (p ++ t) x)) e
    by Equal e h next =
        let same : s ≡ u = segment_exact s u e in
        ap (λ (o : Ordering). ordering_then o (path_cmp (p ++ t) x)) e
        ∙ next h (false_from_ne_true (is_front p x)
        (λ f. true≢false (sym (is_front-cons s u p x same f) ∙ apart)))
    by Greater e h next = absurd (cc)

-- what comes before a path is not below it
pub not_above : (p q : Path) → ComesBefore p q → is_front q p ≡ false
not_above p q h = false_from_ne_true (is_front q p) (λ f. let r = rest_of q p f in by r.0 r.1)
  where
    by : (t : Path) → p ≡ q ++ t → ⊥
    by [] e = not_itself p (subst (ComesBefore p) (sym (append-nil q) ∙ sym e) h)
    by (s ∷ t) e = not_both_ways p q h (subst (ComesBefore q) (sym e) (front_before q s t))

pub members_before : (p : Path) (s t : Segment) → segment_cmp s t ≡ Less
    → ComesBefore (p ++ (s ∷ [])) (p ++ (t ∷ []))
members_before [] s t h = ap (λ (o : Ordering). ordering_then o Equal) h
members_before (u ∷ p) s t h = behind_same u (p ++ (s ∷ [])) (p ++ (t ∷ []))
    ∙ members_before p s t h

-- ---- lists in order

abbrev pub IsInOrder : List Path → Type 0
IsInOrder places = Later ComesBefore places

pub in_order_behind : (xs ys : List Path) → IsInOrder (xs ++ ys) → IsInOrder ys
in_order_behind [] ys h = h
in_order_behind (x ∷ xs) ys h = in_order_behind xs ys h.1

one_head : (x y : Path) (xs ys : List Path) → IsInOrder (x ∷ xs) → IsInOrder (y ∷ ys)
    → In x (y ∷ ys) → In y (x ∷ xs) → x ≡ y
one_head x y xs ys h k i j = elim i [
  | inl e ↦ sym e
  | inr a ↦ elim j [
    | inl e ↦ e
    | inr b ↦ absurd (not_both_ways x y (h.0 y b) (k.0 x a))
  ]
]

-- what is behind the first is behind it in the other list, too
behind_head : (x q : Path) (xs ys : List Path) → IsInOrder (x ∷ xs) → In q xs → In q (x ∷ ys)
    → In q ys
behind_head x q xs ys h i j = elim j [
  | inl e ↦ absurd (not_itself q (subst (λ p. ComesBefore p q) e (h.0 q i)))
  | inr k ↦ k
]

pub one_order : (xs ys : List Path) → IsInOrder xs → IsInOrder ys → ((q : Path) → In q xs → In q ys)
    → ((q : Path) → In q ys → In q xs) → xs ≡ ys
one_order [] [] h k there back = refl
one_order [] (y ∷ ys) h k there back = absurd (back y (inl refl))
one_order (x ∷ xs) [] h k there back = absurd (there x (inl refl))
one_order (x ∷ xs) (y ∷ ys) h k there back =
    let same = one_head x y xs ys h k (there x (inl refl)) (back y (inl refl)) in
    let k' = subst (λ z. IsInOrder (z ∷ ys)) (sym same) k in
    ap (λ zs. x ∷ zs) (one_order xs ys h.1 k.1
    (λ q i. behind_head x q xs ys h i (subst (λ z. In q (z ∷ ys)) (sym same) (there q (inr i))))
    (λ q i. behind_head x q ys xs k' i (back q (inr i))))
    ∙ ap (λ z. z ∷ ys) same

-- what holds of each two holds of each and each later one
pub pairs_later : {A : Type 0} (R : A → A → Type 0) (xs : List A) → AllPairs R xs → Later R xs
pairs_later R [] all = tt
pairs_later R (x ∷ xs) all = (
  (λ y i. let c = Contains-In xs y i in subst (R x) c.2
      (all 0 (suc c.0) y (omega arith) (omega (arith, c.1)))),
  pairs_later R xs (λ i j d lt inside. all (suc i) (suc j) d (omega (arith, lt))
      (omega (arith, inside))),
)

pub one_walk : (xs ys : List Path) → AllPairs ComesBefore xs → AllPairs ComesBefore ys
    → ((q : Path) → Contains xs q → Contains ys q) → ((q : Path) → Contains ys q → Contains xs q)
    → xs ≡ ys
one_walk xs ys h k there back =
    one_order xs ys (pairs_later ComesBefore xs h) (pairs_later ComesBefore ys k)
    (λ q i. In-Contains ys q (there q (Contains-In xs q i)))
    (λ q i. In-Contains xs q (back q (Contains-In ys q i)))

pairs_weaker : {A : Type 0} (R Q : A → A → Type 0) → ((x y : A) → R x y → Q x y) → (xs : List A)
    → AllPairs R xs → AllPairs Q xs
pairs_weaker R Q f xs all = λ i j d lt inside. f (slice_index_or xs i d) (slice_index_or xs j d)
    (all i j d lt inside)

-- no path is there twice
pub each_once : (places : List Path) → AllPairs ComesBefore places → AllPairs (λ q r. q ≢ r) places
each_once places all =
    pairs_weaker ComesBefore (λ q r. q ≢ r) (λ q r h same. not_itself q
    (subst (ComesBefore q) (sym same) h)) places all

-- a folder stands before all that is in it
pub folders_first : (places : List Path) → AllPairs ComesBefore places
    → AllPairs (λ q r. is_front r q ≡ false) places
folders_first places all = pairs_weaker ComesBefore
    (λ q r. is_front r q ≡ false) not_above places all

-- ---- members of a folder

below_name : {X : Type 0} (p : Path) (s : Segment) (es : List (Segment × X)) (q : Path)
    → T (below_all segment_cmp s es) → In q (paths_in p (map (λ (e : Segment × X). e.0) es))
    → ComesBefore (p ++ (s ∷ [])) q
below_name p s [] q h i = absurd i
below_name p s (e ∷ es) q h i = elim i [
  | inl is ↦ subst (ComesBefore (p ++ (s ∷ []))) is
      (members_before p s e.0 (less (segment_cmp s e.0) (first_so _ _ h)))
  | inr j ↦ below_name p s es q (second_so _ _ h) j
]
  where
    less : (o : Ordering) → T (is_lt o) → o ≡ Less
    less Less h = refl
    less Equal h = absurd h
    less Greater h = absurd h

pub named_in_order : {X : Type 0} (p : Path) (es : List (Segment × X))
    → T (is_sorted segment_cmp es) → IsInOrder (paths_in p (map (λ (e : Segment × X). e.0) es))
named_in_order p [] h = tt
named_in_order p (e ∷ es) h = (
  (λ q i. below_name p e.0 es q (first_so _ _ h) i),
  named_in_order p es (second_so _ _ h),
)

-- ---- a place gives way to its members

module _ (done back members : List Path) (place : Path) (order : IsInOrder (done ++ (place ∷ back)))
    (inside : (q : Path) → In q members → (s : Segment) × (q ≡ place ++ (s ∷ [])))
    (besides : (x : Path) → In x back → is_front place x ≡ false) (sorted : IsInOrder members) where
  later_ones : IsInOrder (place ∷ back)
  later_ones = in_order_behind done (place ∷ back) order

  above_member : (q : Path) → In q members → ComesBefore place q
  above_member q i = let s = inside q i in subst (ComesBefore place) (sym s.1)
      (front_before place s.0 [])

  member_first : (q x : Path) → In q members → In x back → ComesBefore q x
  member_first q x i j = let s = inside q i in subst (λ y. ComesBefore y x) (sym s.1)
      (below_before place x (s.0 ∷ []) (later_ones.0 x j) (besides x j))

  done_first : (q x : Path) → In q (done ++ (place ∷ [])) → In x (members ++ back) → ComesBefore q x
  done_first q x i j = elim (in_either q done (place ∷ []) i) [
    | inl k ↦ elim (in_either x members back j) [
      | inl l ↦ before_trans q place x (later_cross ComesBefore done (place ∷ back) q place order k
          (inl refl)) (above_member x l)
      | inr l ↦ later_cross ComesBefore done (place ∷ back) q x order k (inr l)
    ]
    | inr k ↦ subst (λ y. ComesBefore y x) (in_one q place k) (elim (in_either x members back j) [
      | inl l ↦ above_member x l
      | inr l ↦ later_ones.0 x l
    ])
  ]

  pub order_on : IsInOrder ((done ++ (place ∷ [])) ++ (members ++ back))
  order_on =
      later_both ComesBefore (done ++ (place ∷ [])) (members ++ back)
      (later_both ComesBefore done (place ∷ []) (later_front ComesBefore done (place ∷ back) order)
      ((λ y i. absurd i), tt)
      (λ q x i j. subst (ComesBefore q) (in_one x place j)
      (later_cross ComesBefore done (place ∷ back) q place order i (inl refl))))
      (later_both ComesBefore members back sorted later_ones.1 member_first) done_first

-- ---- lists from the back

module _ {A : Type 0} where
  back_on : (x : A) (xs : List A) → reverse (x ∷ xs) ≡ reverse xs ++ (x ∷ [])
  back_on x xs = reverse_onto xs x []

  pub from_back : (x : A) (xs : List A) → In x (reverse xs) → In x xs
  from_back x [] i = i
  from_back x (y ∷ xs) i = elim (in_either x (reverse xs) (y ∷ [])
      (subst (In x) (back_on y xs) i)) [
        | inl j ↦ inr (from_back x xs j)
        | inr j ↦ inl (in_one x y j)
      ]

  pub to_back : (x : A) (xs : List A) → In x xs → In x (reverse xs)
  to_back x [] i = i
  to_back x (y ∷ xs) i = subst (In x) (sym (back_on y xs)) (elim i [
    | inl e ↦ in_right x (reverse xs) (y ∷ []) (inl e)
    | inr j ↦ in_left x (reverse xs) (y ∷ []) (to_back x xs j)
  ])

  pub later_back : (R : A → A → Type 0) → ((x y : A) → R x y → R y x) → (xs : List A) → Later R xs
      → Later R (reverse xs)
  later_back R turn [] h = h
  later_back R turn (x ∷ xs) h =
      subst (Later R) (sym (back_on x xs))
      (later_both R (reverse xs) (x ∷ []) (later_back R turn xs h.1) ((λ y i. absurd i), tt)
      (λ y z i j. subst (R y) (in_one z x j) (turn x y (h.0 y (from_back y xs i)))))

pub map_back : {A B : Type 0} (f : A → B) (xs : List A) → map f (reverse xs) ≡ reverse (map f xs)
map_back f [] = refl
map_back f (x ∷ xs) =
    ap (map f) (back_on x xs) ∙ map-append f (reverse xs) (x ∷ [])
    ∙ ap (λ ys. ys ++ (f x ∷ [])) (map_back f xs) ∙ sym (back_on (f x) (map f xs))
