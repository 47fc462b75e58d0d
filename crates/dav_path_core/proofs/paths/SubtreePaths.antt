-- Paths at and below others, and elements of lists that are put together.
use Rattle.std.proofs.Common.{◌≡◌, ◌≢◌, ◌⊎◌, inl, inr, ℕ, zero, suc, ◌<◌, ◌≤◌, Bool, true, false, cond, List, [], ◌∷◌, ◌++◌, length, map, Option, Some, None, is_some, refl, sym, ap, ◌∙◌, subst, append_assoc, append-nil, length-append, arith}
use Rattle.std.specs.Prelude.{IsSome, slice_index_or}
use Rattle.std.specs.List.{AllPairs, list_any}
use Rattle.std.specs.declared.cmp.Ordering.{Ordering}
use Rattle.std.specs.Ordering.{eq_by_cmp}
use Rattle.std.specs.FinMap.{IsAntisymmetric, find}
use Rattle.std.proofs.lemmas.Bool.{cases_Bool, false≢true, true≢false, false_from_ne_true, or_left, or_right}
use Rattle.std.proofs.lemmas.List.Elements.{All-contains_itself}
use Rattle.std.proofs.lemmas.List.Kept.{AllPairs-cons}
use Rattle.dav_path_core.specs.Fronts.{Segment, Path, behind, is_front}
use Rattle.dav_path_core.proofs.lists.MemberLemmas.{In, In-Contains}
use Rattle.dav_path_core.proofs.lists.Orders.{eq_by_cmp_true}
use Rattle.dav_path_core.proofs.lists.Snoc.{by_last, snoc_front, snoc_last}
use Rattle.dav_path_core.proofs.paths.FrontLemmas.{behind_append, behind_is, is_front-trans}

-- ---- elements of lists that are put together

module _ {A : Type 0} where
  pub in_either : (x : A) (xs ys : List A) → In x (xs ++ ys) → In x xs ⊎ In x ys
  in_either x [] ys i = inr i
  in_either x (y ∷ xs) ys i = elim i [
    | inl e ↦ inl (inl e)
    | inr j ↦ elim (in_either x xs ys j) [ inl k ↦ inl (inr k) | inr k ↦ inr k ]
  ]

  pub in_left : (x : A) (xs ys : List A) → In x xs → In x (xs ++ ys)
  in_left x [] ys i = absurd i
  in_left x (y ∷ xs) ys i = elim i [ inl e ↦ inl e | inr j ↦ inr (in_left x xs ys j) ]

  pub in_right : (x : A) (xs ys : List A) → In x ys → In x (xs ++ ys)
  in_right x [] ys i = i
  in_right x (y ∷ xs) ys i = inr (in_right x xs ys i)

  pub in_one : (x y : A) → In x (y ∷ []) → y ≡ x
  in_one x y i = elim i [ inl e ↦ e | inr j ↦ absurd j ]

  -- what holds of each element and each later one
  abbrev pub Later : (A → A → Type 0) → List A → Type 0
  Later R [] = Unit {0}
  Later R (x ∷ xs) = ((y : A) → In y xs → R x y) × Later R xs

  module _ (R : A → A → Type 0) where
    pub later_both : (xs ys : List A) → Later R xs → Later R ys → ((x y : A) → In x xs → In y ys → R x y) → Later R (xs ++ ys)
    later_both [] ys h k cross = k
    later_both (x ∷ xs) ys h k cross =
        ((λ y i. elim (in_either y xs ys i) [ inl j ↦ h.0 y j | inr j ↦ cross x y (inl refl) j ]), later_both xs ys h.1 k (λ a b i j. cross a b (inr i) j))

    pub later_front : (xs ys : List A) → Later R (xs ++ ys) → Later R xs
    later_front [] ys h = tt
    later_front (x ∷ xs) ys h = ((λ y i. h.0 y (in_left y xs ys i)), later_front xs ys h.1)

    pub later_cross : (xs ys : List A) (x y : A) → Later R (xs ++ ys) → In x xs → In y ys → R x y
    later_cross [] ys x y h i j = absurd i
    later_cross (z ∷ xs) ys x y h i j = elim i [
      | inl e ↦ subst (λ w. R w y) e (h.0 y (in_right y xs ys j))
      | inr k ↦ later_cross xs ys x y h.1 k j
    ]

    pub later_pairs : (xs : List A) → Later R xs → AllPairs R xs
    later_pairs [] h = λ i j d lt inside. absurd (omega arith)
    later_pairs (x ∷ xs) h = AllPairs-cons R x xs (λ i d inside. h.0 _ (In-Contains xs _ (All-contains_itself xs i d inside))) (later_pairs xs h.1)

-- ---- paths at or below others

pub some_of : {A : Type 0} (o : Option A) → IsSome o → (x : A) × (o ≡ Some x)
some_of (Some x) h = (x, refl)
some_of None h = absurd (false≢true h)

pub rest_of : (a q : Path) → is_front a q ≡ true → (s : Path) × (q ≡ a ++ s)
rest_of a q h = let s = some_of (behind a q) h in (s.0, behind_is a q s.0 s.1)

pub front_of : (a s : Path) → is_front a (a ++ s) ≡ true
front_of a s = ap is_some (behind_append a s)

-- a member is not above its folder
pub member_longer : (p : Path) (s : Segment) → is_front (p ++ (s ∷ [])) p ≡ false
member_longer p s = false_from_ne_true _ (λ h.
    let r = rest_of (p ++ (s ∷ [])) p h in
    absurd (omega (arith, ap length r.1, length-append (p ++ (s ∷ [])) r.0, length-append p (s ∷ []))))

-- what a member is at or below
pub member_below : (x p : Path) (s : Segment) → is_front x (p ++ (s ∷ [])) ≡ true → (is_front x p ≡ true) ⊎ (x ≡ p ++ (s ∷ []))
member_below x p s h =
    let r = rest_of x (p ++ (s ∷ [])) h in
    elim (by_last r.0) [
      | inl none ↦ inr (sym (append-nil x) ∙ ap (λ t. x ++ t) (sym none) ∙ sym r.1)
      | inr l ↦
          let split : p ++ (s ∷ []) ≡ (x ++ l.0) ++ (l.1 ∷ []) = r.1 ∙ ap (λ t. x ++ t) l.2 ∙ sym (append_assoc x l.0 (l.1 ∷ [])) in
          inl (subst (λ q. is_front x q ≡ true) (sym (snoc_front p (x ++ l.0) s l.1 split)) (front_of x l.0))
    ]

-- neither is at or below the other
abbrev pub Apart : Path → Path → Type 0
Apart x y = (is_front x y ≡ false) × (is_front y x ≡ false)

-- paths of which one is at or below the other are not apart
pub not_front : (x y q : Path) → is_front x y ≡ false → is_front x q ≡ true → is_front q y ≡ true → ⊥
not_front x y q apart h k = absurd (true≢false (sym (is_front-trans x q y h k) ∙ apart))

-- a member is apart from what its folder is apart from
pub apart_member : (x p : Path) (s : Segment) → Apart x p → Apart x (p ++ (s ∷ []))
apart_member x p s apart = (
  false_from_ne_true _ (λ h. elim (member_below x p s h) [
    | inl k ↦ true≢false (sym k ∙ apart.0)
    | inr e ↦ true≢false (sym (subst (λ y. is_front p y ≡ true) (sym e) (front_of p (s ∷ []))) ∙ apart.1)
  ]),
  false_from_ne_true _ (λ h. not_front p x (p ++ (s ∷ [])) apart.1 (front_of p (s ∷ [])) h),
)

-- two members are apart
pub apart_members : (p : Path) (s t : Segment) → s ≢ t → Apart (p ++ (s ∷ [])) (p ++ (t ∷ []))
apart_members p s t other = (one s t other, one t s (λ e. other (sym e)))
  where
    one : (s t : Segment) → s ≢ t → is_front (p ++ (s ∷ [])) (p ++ (t ∷ [])) ≡ false
    one s t other = false_from_ne_true _ (λ h. elim (member_below (p ++ (s ∷ [])) p t h) [
      | inl k ↦ true≢false (sym k ∙ member_longer p s)
      | inr e ↦ other (snoc_last p p s t e)
    ])

-- ---- what stands last

last_at : {A : Type 0} (xs : List A) (last d : A) → slice_index_or (xs ++ (last ∷ [])) (length xs) d ≡ last
last_at [] last d = refl
last_at (x ∷ xs) last d = last_at xs last d

pub pair_at : {A : Type 0} (R : A → A → Type 0) (xs : List A) (last x : A) → AllPairs R (xs ++ (last ∷ [])) → In x xs → R x last
pair_at R [] last x all i = absurd i
pair_at R (y ∷ xs) last x all i = elim i [
  | inl e ↦ subst (λ z. R z last) e (subst (R y) (last_at xs last y) (all 0 (suc (length xs)) y (omega arith) (omega (arith, length-append xs (last ∷ [])))))
  | inr k ↦ pair_at R xs last x (λ i j d lt inside. all (suc i) (suc j) d (omega arith) (omega arith)) k
]

get_front : {A : Type 0} (xs ys : List A) (i : ℕ) (d : A) → i < length xs → slice_index_or (xs ++ ys) i d ≡ slice_index_or xs i d
get_front [] ys i d lt = absurd (omega (arith, lt))
get_front (x ∷ xs) ys zero d lt = refl
get_front (x ∷ xs) ys (suc i) d lt = get_front xs ys i d (omega (arith, lt))

pub pairs_front : {A : Type 0} (R : A → A → Type 0) (xs ys : List A) → AllPairs R (xs ++ ys) → AllPairs R xs
pairs_front R xs ys all = λ i j d lt inside.
    subst (λ x. R x (slice_index_or xs j d)) (get_front xs ys i d (omega (arith, lt, inside)))
    (subst (R (slice_index_or (xs ++ ys) i d)) (get_front xs ys j d inside) (all i j d lt (omega (arith, inside, length-append xs ys))))

-- ---- keys of entries

pub found_in : {K X : Type 0} {R : K → K → Ordering} → IsAntisymmetric R → (es : List (K × X)) (k : K) (v : X) → find R k es ≡ Some v → In k (map (λ (e : K × X). e.0) es)
found_in exact [] k v h = absurd (cc)
found_in {R = R} exact (e ∷ es) k v h = elim (cases_Bool (eq_by_cmp R k e.0)) [
  | inl t ↦ inl (sym (eq_by_cmp_true exact k e.0 t))
  | inr f ↦ inr (found_in exact es k v (subst (λ b. cond b (Some e.1) (find R k es) ≡ Some v) f h))
]

-- ---- how many pass a test

pub counted : {A : Type 0} → (A → Bool) → List A → ℕ
counted test [] = 0
counted test (x ∷ xs) = cond (test x) (suc (counted test xs)) (counted test xs)

module _ {A : Type 0} (less more : A → Bool) (weaker : (x : A) → less x ≡ true → more x ≡ true) where
  no_more : (xs : List A) → counted less xs ≤ counted more xs
  unfolding counted
  no_more [] = omega arith
  no_more (x ∷ xs) = let rest = no_more xs in elim (cases_Bool (less x)) [
    | inl t ↦ rw (t, weaker x t) (omega (arith, rest))
    | inr f ↦ rw f (elim (more x) as (λ b. counted less xs ≤ cond b (suc (counted more xs)) (counted more xs)) [ true ↦ omega (arith, rest) | false ↦ rest ])
  ]

  pub one_fewer : (xs : List A) (x : A) → In x xs → less x ≡ false → more x ≡ true → counted less xs < counted more xs
  unfolding counted
  one_fewer [] x i f t = absurd i
  one_fewer (y ∷ xs) x i f t = elim i [
    | inl e ↦ rw (ap less e ∙ f, ap more e ∙ t) (let rest = no_more xs in omega (arith, rest))
    | inr j ↦ (let rest = one_fewer xs x j f t in elim (cases_Bool (less y)) [
      | inl g ↦ rw (g, weaker y g) (omega (arith, rest))
      | inr g ↦ rw g (elim (more y) as (λ b. counted less xs < cond b (suc (counted more xs)) (counted more xs)) [ true ↦ omega (arith, rest) | false ↦ rest ])
    ])
  ]

pub any_of : {A : Type 0} (test : A → Bool) (xs : List A) (x : A) → In x xs → test x ≡ true → list_any test xs ≡ true
any_of test [] x i h = absurd i
any_of test (y ∷ xs) x i h = elim i [
  | inl e ↦ or_left (test y) (list_any test xs) (ap test e ∙ h)
  | inr j ↦ or_right (test y) (list_any test xs) (any_of test xs x j h)
]

pub nothing_left : {A : Type 0} (xs : List A) (n : ℕ) → n ≡ length xs → n ≡ 0 → xs ≡ []
nothing_left [] n h e = refl
nothing_left (x ∷ xs) n h e = absurd (omega arith)
