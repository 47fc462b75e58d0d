-- Lists of children as links between numbers: a new first child, and one taken out.
use Rattle.std.proofs.Common.{◌≡◌, ◌≢◌, ℕ, ◌==◌, ◌||◌, false, cond, ◌⊎◌, List, [], ◌∷◌, Some, None, Option, refl, ap, sym, ◌∙◌, subst, inl, inr, eqb}
use Rattle.std.specs.List.{list_any, IsDistinct, AllByRecursion}
use Rattle.std.proofs.lemmas.Bool.{cases_eq, eq-eqb, ne_eqb, eqb-true, or_cases, false≢true, true≢false, false_from_ne_true, or_right}
use Rattle.dav_path_core.specs.Keyed.{IsIn}
use Rattle.dav_path_core.specs.Private.Chains.{AreLinks, IsChainOf, Linked}
use Rattle.dav_path_core.proofs.trees.Trees.{none≢some, same_some}

-- ---- members
pub in_here : (k : ℕ) (ks : List ℕ) → IsIn k (k ∷ ks)
in_here k ks = ap (λ b. b || list_any (eqb k) ks) (eq-eqb k k refl)

pub in_later : (q k : ℕ) (ks : List ℕ) → IsIn q ks → IsIn q (k ∷ ks)
in_later q k ks h = or_right (eqb q k) _ h

pub in_cases : (q k : ℕ) (ks : List ℕ) → IsIn q (k ∷ ks) → (q ≡ k) ⊎ IsIn q ks
in_cases q k ks h = elim (or_cases (eqb q k) (list_any (eqb q) ks) h) [ inl e ↦ inl (eqb-true q k e) | inr e ↦ inr e ]

-- ---- distinct
pub none_twice : (k : ℕ) (ks : List ℕ) → IsDistinct eqb (k ∷ ks) → IsIn k ks → ⊥
unfolding IsDistinct
none_twice k ks d h = apart k ks d.0 h
  where
    apart : (k : ℕ) (ks : List ℕ) → AllByRecursion (λ y. eqb k y ≡ false) ks → IsIn k ks → ⊥
    apart k [] a h = false≢true h
    apart k (y ∷ ys) a h = elim (or_cases (eqb k y) (list_any (eqb k) ys) h) [ inl e ↦ true≢false (sym e ∙ a.0) | inr e ↦ apart k ys a.1 e ]

pub later_distinct : (k : ℕ) (ks : List ℕ) → IsDistinct eqb (k ∷ ks) → IsDistinct eqb ks
unfolding IsDistinct
later_distinct k ks d = d.1

pub no_distinct : IsDistinct eqb []
unfolding IsDistinct
no_distinct = tt

pub more_distinct : (k : ℕ) (ks : List ℕ) → (IsIn k ks → ⊥) → IsDistinct eqb ks → IsDistinct eqb (k ∷ ks)
unfolding IsDistinct
more_distinct k ks h d = (apart k ks h, d)
  where
    apart : (k : ℕ) (ks : List ℕ) → (IsIn k ks → ⊥) → AllByRecursion (λ y. eqb k y ≡ false) ks
    apart k [] h = tt
    apart k (y ∷ ys) h = (false_from_ne_true (eqb k y) (λ e. h (ap (λ b. b || list_any (eqb k) ys) e)), apart k ys (λ e. h (in_later k y ys e)))

-- ---- a list without one of its numbers
drop_one : ℕ → List ℕ → List ℕ
drop_one n [] = []
drop_one n (k ∷ ks) = cond (k == n) ks (k ∷ drop_one n ks)

drop_here : (n k : ℕ) (ks : List ℕ) → k ≡ n → drop_one n (k ∷ ks) ≡ ks
unfolding drop_one
drop_here n k ks e = ap (λ b. cond b ks (k ∷ drop_one n ks)) (eq-eqb k n e)

drop_later : (n k : ℕ) (ks : List ℕ) → k ≢ n → drop_one n (k ∷ ks) ≡ k ∷ drop_one n ks
unfolding drop_one
drop_later n k ks e = ap (λ b. cond b ks (k ∷ drop_one n ks)) (ne_eqb k n e)

-- what is left are the others
in_dropped : (n q : ℕ) (ks : List ℕ) → IsIn q (drop_one n ks) → IsIn q ks
unfolding drop_one
in_dropped n q [] h = h
in_dropped n q (k ∷ ks) h = elim (cases_eq k n) [
  | inl e ↦ in_later q k ks (subst (IsIn q) (drop_here n k ks e) h)
  | inr e ↦ elim (in_cases q k (drop_one n ks) (subst (IsIn q) (drop_later n k ks e) h)) [
    | inl is ↦ subst (λ v. IsIn v (k ∷ ks)) (sym is) (in_here k ks)
    | inr later ↦ in_later q k ks (in_dropped n q ks later)
  ]
]

dropped_gone : (n : ℕ) (ks : List ℕ) → IsDistinct eqb ks → IsIn n (drop_one n ks) → ⊥
unfolding drop_one
dropped_gone n [] d h = false≢true h
dropped_gone n (k ∷ ks) d h = elim (cases_eq k n) [
  | inl e ↦ none_twice k ks d (subst (λ v. IsIn v ks) (sym e) (subst (IsIn n) (drop_here n k ks e) h))
  | inr e ↦ elim (in_cases n k (drop_one n ks) (subst (IsIn n) (drop_later n k ks e) h)) [
    | inl is ↦ e (sym is)
    | inr later ↦ dropped_gone n ks (later_distinct k ks d) later
  ]
]

dropped_others : (n q : ℕ) (ks : List ℕ) → q ≢ n → IsIn q ks → IsIn q (drop_one n ks)
unfolding drop_one
dropped_others n q [] ne h = h
dropped_others n q (k ∷ ks) ne h = elim (cases_eq k n) [
  | inl e ↦ elim (in_cases q k ks h) [ inl is ↦ absurd (ne (is ∙ e)) | inr later ↦ subst (IsIn q) (sym (drop_here n k ks e)) later ]
  | inr e ↦ subst (IsIn q) (sym (drop_later n k ks e)) (elim (in_cases q k ks h) [
    | inl is ↦ subst (λ v. IsIn v (k ∷ drop_one n ks)) (sym is) (in_here k (drop_one n ks))
    | inr later ↦ in_later q k (drop_one n ks) (dropped_others n q ks ne later)
  ])
]

dropped_distinct : (n : ℕ) (ks : List ℕ) → IsDistinct eqb ks → IsDistinct eqb (drop_one n ks)
unfolding drop_one
dropped_distinct n [] d = d
dropped_distinct n (k ∷ ks) d = elim (cases_eq k n) [
  | inl e ↦ subst (IsDistinct eqb) (sym (drop_here n k ks e)) (later_distinct k ks d)
  | inr e ↦ subst (IsDistinct eqb) (sym (drop_later n k ks e)) (more_distinct k (drop_one n ks) (λ h. none_twice k ks d (in_dropped n k ks h)) (dropped_distinct n ks (later_distinct k ks d)))
]

-- ---- links
module _ (after before : ℕ → Option ℕ) where
  -- the sibling after a member is a member
  after_in_chain : (b o : Option ℕ) (ks : List ℕ) → AreLinks after before b o ks → (n m : ℕ) → IsIn n ks → after n ≡ Some m → IsIn m ks × (before m ≡ Some n)
  after_in_chain b o [] c n m h e = absurd (false≢true h)
  after_in_chain b o (k ∷ ks) c n m h e = elim (in_cases n k ks h) [
    | inl is ↦ here ks (c.2) is
    | inr later ↦ let r = after_in_chain (Some k) (after k) ks c.2 n m later e in (in_later m k ks r.0, r.1)
  ]
    where
      here : (ks : List ℕ) → AreLinks after before (Some k) (after k) ks → n ≡ k → IsIn m (k ∷ ks) × (before m ≡ Some n)
      here [] c is = absurd (none≢some m (sym c ∙ ap after (sym is) ∙ e))
      here (j ∷ js) c is =
          let jm : j ≡ m = same_some j m (sym c.0 ∙ ap after (sym is) ∙ e) in
          (in_later m k (j ∷ js) (subst (λ v. IsIn v (j ∷ js)) jm (in_here j js)), subst (λ v. before v ≡ Some n) jm (c.1 ∙ ap (λ (x : ℕ). Some x) (sym is)))

  -- so is the one before it, but for the first
  before_in_chain : (b o : Option ℕ) (ks : List ℕ) → AreLinks after before b o ks → (n m : ℕ) → IsIn n ks → before n ≡ Some m → ((b ≡ Some m) × (o ≡ Some n)) ⊎ (IsIn m ks × (after m ≡ Some n))
  before_in_chain b o [] c n m h e = absurd (false≢true h)
  before_in_chain b o (k ∷ ks) c n m h e = elim (in_cases n k ks h) [
    | inl is ↦ inl (sym c.1 ∙ ap before (sym is) ∙ e, c.0 ∙ ap (λ (x : ℕ). Some x) (sym is))
    | inr later ↦ elim (before_in_chain (Some k) (after k) ks c.2 n m later e) [
      | inl is ↦ let km : k ≡ m = same_some k m is.0 in inr (subst (λ v. IsIn v (k ∷ ks)) km (in_here k ks), subst (λ v. after v ≡ Some n) km is.1)
      | inr r ↦ inr (in_later m k ks r.0, r.1)
    ]
  ]

module _ (after before after' before' : ℕ → Option ℕ) where
  pub Chain-same : (b o : Option ℕ) (ks : List ℕ) → ((q : ℕ) → IsIn q ks → (after' q ≡ after q) × (before' q ≡ before q)) → AreLinks after before b o ks → AreLinks after' before' b o ks
  Chain-same b o [] h c = c
  Chain-same b o (k ∷ ks) h c = (
    c.0,
    (h k (in_here k ks)).1 ∙ c.1,
    subst (λ v. AreLinks after' before' (Some k) v ks) (sym (h k (in_here k ks)).0) (Chain-same (Some k) (after k) ks (λ q i. h q (in_later q k ks i)) c.2),
  )

  module _ (n : ℕ)
      (a_skip : (k : ℕ) → k ≢ n → before n ≡ Some k → after' k ≡ after n) (a_same : (k : ℕ) → k ≢ n → before n ≢ Some k → after' k ≡ after k)
      (b_skip : (k : ℕ) → k ≢ n → after n ≡ Some k → before' k ≡ before n) (b_same : (k : ℕ) → k ≢ n → after n ≢ Some k → before' k ≡ before k) where
    skip : Option ℕ → Option ℕ
    skip None = None
    skip (Some m) = cond (m == n) (after n) (Some m)

    skip_here : (o : Option ℕ) → o ≡ Some n → skip o ≡ after n
    unfolding skip
    skip_here o e = ap skip e ∙ ap (λ b. cond b (after n) (Some n)) (eq-eqb n n refl)

    skip_other : (o : Option ℕ) (m : ℕ) → o ≡ Some m → m ≢ n → skip o ≡ Some m
    unfolding skip
    skip_other o m e ne = ap skip e ∙ ap (λ b. cond b (after n) (Some m)) (ne_eqb m n ne)

    from_head : (b : Option ℕ) (ks : List ℕ) → before n ≡ b → IsDistinct eqb (n ∷ ks) → ((x : ℕ) → b ≡ Some x → IsIn x ks → ⊥) → AreLinks after before (Some n) (after n) ks → AreLinks after' before' b (after n) ks
    from_head b [] e d outside c = c
    from_head b (m ∷ ms) e d outside c =
        let m_in : IsIn m (m ∷ ms) = in_here m ms in
        let mn : m ≢ n = λ is. none_twice n (m ∷ ms) d (subst (λ v. IsIn v (m ∷ ms)) is m_in) in
        let not_b : (q : ℕ) → IsIn q (m ∷ ms) → before n ≢ Some q = λ q h is. outside q (sym e ∙ is) h in (
          c.0,
          b_skip m mn c.0 ∙ e,
          subst (λ v. AreLinks after' before' (Some m) v ms) (sym (a_same m mn (not_b m m_in)))
              (Chain-same (Some m) (after m) ms
              (λ q h.
              let qn : q ≢ n = λ is. none_twice n (m ∷ ms) d (subst (λ v. IsIn v (m ∷ ms)) is (in_later q m ms h)) in (
                a_same q qn (not_b q (in_later q m ms h)),
                b_same q qn (λ is. none_twice m ms (later_distinct n (m ∷ ms) d) (subst (λ v. IsIn v ms) (sym (same_some m q (sym c.0 ∙ is))) h)),
              ))
              c.2),
        )

    chain_drop : (b o : Option ℕ) (ks : List ℕ) → AreLinks after before b o ks → IsDistinct eqb ks → IsIn n ks → ((x : ℕ) → b ≡ Some x → IsIn x ks → ⊥) → AreLinks after' before' b (skip o) (drop_one n ks)
    chain_drop b o [] c d h outside = absurd (false≢true h)
    chain_drop b o (k ∷ ks) c d h outside = elim (cases_eq k n) [
      | inl is ↦
          subst (AreLinks after' before' b (skip o)) (sym (drop_here n k ks is))
          (subst (λ v. AreLinks after' before' b v ks) (sym (skip_here o (c.0 ∙ ap (λ (x : ℕ). Some x) is)))
          (from_head b ks (ap before (sym is) ∙ c.1) (subst (λ v. IsDistinct eqb (v ∷ ks)) is d) (λ x e i. outside x e (in_later x k ks i))
          (subst (λ v. AreLinks after before (Some v) (after v) ks) is c.2)))
      | inr ne ↦
          let later : IsIn n ks = elim (in_cases n k ks h) [ inl is ↦ absurd (ne (sym is)) | inr i ↦ i ] in
          let away : IsIn k ks → ⊥ = none_twice k ks d in
          subst (AreLinks after' before' b (skip o)) (sym (drop_later n k ks ne)) (
            skip_other o k c.0 ne,
            b_same k ne (λ is. away (after_in_chain after before (Some k) (after k) ks c.2 n k later is).0) ∙ c.1,
            subst (λ v. AreLinks after' before' (Some k) v (drop_one n ks)) (sym (reach ks c.2 later away ne))
                (chain_drop (Some k) (after k) ks c.2 (later_distinct k ks d) later (λ x e i. away (subst (λ v. IsIn v ks) (sym (same_some k x e)) i))),
          )
    ]
      where
        reach : (ks : List ℕ) → AreLinks after before (Some k) (after k) ks → IsIn n ks → (IsIn k ks → ⊥) → k ≢ n → after' k ≡ skip (after k)
        reach [] c later away ne = absurd (false≢true later)
        reach (j ∷ js) c later away ne = elim (cases_eq j n) [
          | inl is ↦ a_skip k ne (ap before (sym is) ∙ c.1) ∙ sym (skip_here (after k) (c.0 ∙ ap (λ (x : ℕ). Some x) is))
          | inr jn ↦
              let later' : IsIn n js = elim (in_cases n j js later) [ inl is ↦ absurd (jn (sym is)) | inr i ↦ i ] in
              a_same k ne (λ is. elim (before_in_chain after before (Some j) (after j) js c.2 n k later' is) [
                | inl first ↦ away (subst (λ v. IsIn v (j ∷ js)) (same_some j k first.0) (in_here j js))
                | inr i ↦ away (in_later k j js i.0)
              ]) ∙ c.0 ∙ sym (skip_other (after k) j c.0 jn)
        ]

-- ---- a new first child
module _ {parent first after before parent' first' after' before' : ℕ → Option ℕ} (n p : ℕ) (linked : Linked parent first after before) (free : (q : ℕ) → parent n ≢ Some q)
    (p_new : parent' n ≡ Some p) (p_same : (q : ℕ) → q ≢ n → parent' q ≡ parent q)
    (f_new : first' p ≡ Some n) (f_same : (q : ℕ) → q ≢ p → first' q ≡ first q)
    (a_new : after' n ≡ first p) (a_same : (q : ℕ) → q ≢ n → after' q ≡ after q)
    (b_new : before' n ≡ None) (b_old : (q : ℕ) → q ≢ n → first p ≡ Some q → before' q ≡ Some n) (b_same : (q : ℕ) → q ≢ n → first p ≢ Some q → before' q ≡ before q) where
  not_n : (r q : ℕ) (ks : List ℕ) → IsChainOf parent first after before r ks → IsIn q ks → q ≢ n
  not_n r q ks l h is = free r (subst (λ v. parent v ≡ Some r) is ((l.members q).0 h))

  head_in : (r m : ℕ) (ks : List ℕ) → IsChainOf parent first after before r ks → first r ≡ Some m → IsIn m ks
  head_in r m ks l e = here ks l.linked
    where
      here : (ks : List ℕ) → AreLinks after before None (first r) ks → IsIn m ks
      here [] c = absurd (none≢some m (sym c ∙ e))
      here (k ∷ ks) c = subst (λ v. IsIn v (k ∷ ks)) (same_some k m (sym c.0 ∙ e)) (in_here k ks)

  tail : (ks : List ℕ) → IsChainOf parent first after before p ks → AreLinks after' before' (Some n) (first p) ks
  tail ks l = here ks l.linked l.once (λ q h. not_n p q ks l h)
    where
      here : (ks : List ℕ) → AreLinks after before None (first p) ks → IsDistinct eqb ks → ((q : ℕ) → IsIn q ks → q ≢ n) → AreLinks after' before' (Some n) (first p) ks
      here [] c d ne = c
      here (k ∷ ks) c d ne =
          let kn : k ≢ n = ne k (in_here k ks) in (
            c.0,
            b_old k kn c.0,
            subst (λ v. AreLinks after' before' (Some k) v ks) (sym (a_same k kn))
                (Chain-same after before after' before' (Some k) (after k) ks
                (λ q h. let qn : q ≢ n = ne q (in_later q k ks h) in (a_same q qn, b_same q qn (λ is. none_twice k ks d (subst (λ v. IsIn v ks) (sym (same_some k q (sym c.0 ∙ is))) h))))
                c.2),
          )

  grown : (ks : List ℕ) → IsChainOf parent first after before p ks → IsChainOf parent' first' after' before' p (n ∷ ks)
  grown ks l = record {
    linked = (f_new, b_new, subst (λ v. AreLinks after' before' (Some n) v ks) (sym a_new) (tail ks l));
    once = more_distinct n ks (λ h. not_n p n ks l h refl) l.once;
    members = λ m. elim (cases_eq m n) [
      | inl is ↦ (λ h. subst (λ v. parent' v ≡ Some p) (sym is) p_new, λ e. subst (λ v. IsIn v (n ∷ ks)) (sym is) (in_here n ks))
      | inr ne ↦ (λ h. elim (in_cases m n ks h) [ inl is ↦ absurd (ne is) | inr later ↦ p_same m ne ∙ (l.members m).0 later ], λ e. in_later m n ks ((l.members m).1 (sym (p_same m ne) ∙ e)))
    ];
  }

  kept : (r : ℕ) (ks : List ℕ) → r ≢ p → IsChainOf parent first after before r ks → IsChainOf parent' first' after' before' r ks
  kept r ks rp l = record {
    linked = subst (λ v. AreLinks after' before' None v ks) (sym (f_same r rp))
        (Chain-same after before after' before' None (first r) ks
        (λ q h. let qn = not_n r q ks l h in (
          a_same q qn,
          b_same q qn (λ is. let lp = linked.listed p in
              rp (same_some r p (sym ((l.members q).0 h) ∙ (lp.1.members q).0 (head_in p q lp.0 lp.1 is)))),
        ))
        l.linked);
    once = l.once;
    members = λ m. elim (cases_eq m n) [
      | inl is ↦ (λ h. absurd (not_n r m ks l h is), λ e. absurd (rp (sym (same_some p r (sym p_new ∙ subst (λ v. parent' v ≡ Some r) is e)))))
      | inr ne ↦ (λ h. p_same m ne ∙ (l.members m).0 h, λ e. (l.members m).1 (sym (p_same m ne) ∙ e))
    ];
  }

  pub Linked-put : Linked parent' first' after' before'
  Linked-put = record {
    listed = λ r. let l = linked.listed r in elim (cases_eq r p) [
      | inl is ↦ (n ∷ l.0, subst (λ v. IsChainOf parent' first' after' before' v (n ∷ l.0)) (sym is) (grown l.0 (subst (λ v. IsChainOf parent first after before v l.0) is l.1)))
      | inr ne ↦ (l.0, kept r l.0 ne l.1)
    ];
  }

-- ---- a child taken out
module _ {parent first after before parent' first' after' before' : ℕ → Option ℕ} (n p : ℕ) (linked : Linked parent first after before) (child : parent n ≡ Some p)
    (p_none : (q : ℕ) → parent' n ≢ Some q) (p_same : (q : ℕ) → q ≢ n → parent' q ≡ parent q)
    (f_first : before n ≡ None → first' p ≡ after n) (f_later : (b : ℕ) → before n ≡ Some b → first' p ≡ first p) (f_same : (q : ℕ) → q ≢ p → first' q ≡ first q)
    (a_skip : (k : ℕ) → k ≢ n → before n ≡ Some k → after' k ≡ after n) (a_same : (k : ℕ) → k ≢ n → before n ≢ Some k → after' k ≡ after k)
    (b_skip : (k : ℕ) → k ≢ n → after n ≡ Some k → before' k ≡ before n) (b_same : (k : ℕ) → k ≢ n → after n ≢ Some k → before' k ≡ before k) where
  starts : (ks : List ℕ) → AreLinks after before None (first p) ks → IsDistinct eqb ks → IsIn n ks → first' p ≡ skip after before after' before' n a_skip a_same b_skip b_same (first p)
  starts [] c d h = absurd (false≢true h)
  starts (k ∷ ks) c d h = elim (cases_eq k n) [
    | inl is ↦ f_first (ap before (sym is) ∙ c.1) ∙ sym (skip_here after before after' before' n a_skip a_same b_skip b_same (first p) (c.0 ∙ ap (λ (x : ℕ). Some x) is))
    | inr ne ↦
        let later : IsIn n ks = elim (in_cases n k ks h) [ inl is ↦ absurd (ne (sym is)) | inr i ↦ i ] in
        let w = has_before (Some k) (after k) ks c.2 k refl later in
        f_later w.0 w.1 ∙ c.0 ∙ sym (skip_other after before after' before' n a_skip a_same b_skip b_same (first p) k c.0 ne)
  ]
    where
      has_before : (b o : Option ℕ) (ks : List ℕ) → AreLinks after before b o ks → (k : ℕ) → b ≡ Some k → IsIn n ks → (m : ℕ) × (before n ≡ Some m)
      has_before b o [] c k e h = absurd (false≢true h)
      has_before b o (j ∷ js) c k e h = elim (in_cases n j js h) [ inl is ↦ (k, ap before is ∙ c.1 ∙ e) | inr later ↦ has_before (Some j) (after j) js c.2 j refl later ]

  lessened : (ks : List ℕ) → IsChainOf parent first after before p ks → IsChainOf parent' first' after' before' p (drop_one n ks)
  lessened ks l =
      let here : IsIn n ks = (l.members n).1 child in
      record {
        linked = subst (λ v. AreLinks after' before' None v (drop_one n ks)) (sym (starts ks l.linked l.once here))
            (chain_drop after before after' before' n a_skip a_same b_skip b_same None (first p) ks l.linked l.once here (λ x e i. none≢some x e));
        once = dropped_distinct n ks l.once;
        members = λ m. elim (cases_eq m n) [
          | inl is ↦ (λ h. absurd (dropped_gone n ks l.once (subst (λ v. IsIn v (drop_one n ks)) is h)), λ e. absurd (p_none p (subst (λ v. parent' v ≡ Some p) is e)))
          | inr ne ↦ (λ h. p_same m ne ∙ (l.members m).0 (in_dropped n m ks h), λ e. dropped_others n m ks ne ((l.members m).1 (sym (p_same m ne) ∙ e)))
        ];
      }

  untouched : (r : ℕ) (ks : List ℕ) → r ≢ p → IsChainOf parent first after before r ks → IsChainOf parent' first' after' before' r ks
  untouched r ks rp l =
      let lp = linked.listed p in
      let here : IsIn n lp.0 = (lp.1.members n).1 child in
      let apart : (q : ℕ) → IsIn q ks → IsIn q lp.0 → ⊥ = λ q h i. rp (same_some r p (sym ((l.members q).0 h) ∙ (lp.1.members q).0 i)) in
      let not_n : (q : ℕ) → IsIn q ks → q ≢ n = λ q h is. apart q h (subst (λ v. IsIn v lp.0) (sym is) here) in
      record {
        linked = subst (λ v. AreLinks after' before' None v ks) (sym (f_same r rp))
            (Chain-same after before after' before' None (first r) ks
            (λ q h. (
              a_same q (not_n q h) (λ is. elim (before_in_chain after before None (first p) lp.0 lp.1.linked n q here is) [ inl i ↦ none≢some q i.0 | inr i ↦ apart q h i.0 ]),
              b_same q (not_n q h) (λ is. apart q h (after_in_chain after before None (first p) lp.0 lp.1.linked n q here is).0),
            ))
            l.linked);
        once = l.once;
        members = λ m. elim (cases_eq m n) [
          | inl is ↦ (λ h. absurd (not_n m h is), λ e. absurd (p_none r (subst (λ v. parent' v ≡ Some r) is e)))
          | inr ne ↦ (λ h. p_same m ne ∙ (l.members m).0 h, λ e. (l.members m).1 (sym (p_same m ne) ∙ e))
        ];
      }

  pub Linked-out : Linked parent' first' after' before'
  Linked-out = record {
    listed = λ r. let l = linked.listed r in elim (cases_eq r p) [
      | inl is ↦ (drop_one n l.0, subst (λ v. IsChainOf parent' first' after' before' v (drop_one n l.0)) (sym is) (lessened l.0 (subst (λ v. IsChainOf parent first after before v l.0) is l.1)))
      | inr ne ↦ (l.0, untouched r l.0 ne l.1)
    ];
  }

-- ---- what the links tell
module _ {parent first after before : ℕ → Option ℕ} (linked : Linked parent first after before) where
  pub first_child_of : (p m : ℕ) → first p ≡ Some m → (parent m ≡ Some p) × (before m ≡ None)
  first_child_of p m e = let l = linked.listed p in here l.0 l.1.linked (λ q h. (l.1.members q).0 h)
    where
      here : (ks : List ℕ) → AreLinks after before None (first p) ks → ((q : ℕ) → IsIn q ks → parent q ≡ Some p) → (parent m ≡ Some p) × (before m ≡ None)
      here [] c up = absurd (none≢some m (sym c ∙ e))
      here (k ∷ ks) c up = let is : k ≡ m = same_some k m (sym c.0 ∙ e) in (subst (λ v. parent v ≡ Some p) is (up k (in_here k ks)), ap before (sym is) ∙ c.1)

  -- no first child, no child
  pub no_child : (p : ℕ) → first p ≡ None → (m : ℕ) → parent m ≡ Some p → ⊥
  no_child p e m h = let l = linked.listed p in here l.0 l.1.linked ((l.1.members m).1 h)
    where
      here : (ks : List ℕ) → AreLinks after before None (first p) ks → IsIn m ks → ⊥
      here [] c i = false≢true i
      here (k ∷ ks) c i = none≢some k (sym e ∙ c.0)

  pub sibling_after : (p n m : ℕ) → parent n ≡ Some p → after n ≡ Some m → (parent m ≡ Some p) × (before m ≡ Some n)
  sibling_after p n m h e =
      let l = linked.listed p in
      let r = after_in_chain after before None (first p) l.0 l.1.linked n m ((l.1.members n).1 h) e in
      ((l.1.members m).0 r.0, r.1)

  pub sibling_before : (p n m : ℕ) → parent n ≡ Some p → before n ≡ Some m → (parent m ≡ Some p) × (after m ≡ Some n)
  sibling_before p n m h e =
      let l = linked.listed p in
      elim (before_in_chain after before None (first p) l.0 l.1.linked n m ((l.1.members n).1 h) e) [
        | inl i ↦ absurd (none≢some m i.0)
        | inr i ↦ ((l.1.members m).0 i.0, i.1)
      ]
