-- The lock that is found, by its place: of those with the token the one with the fewest segments, of these the first.
use Rattle.std.proofs.Common.{◌≡◌, ◌⊎◌, inl, inr, ℕ, zero, suc, ◌+◌, ◌<◌, ◌≤◌, Bool, true, false, cond, List, [], ◌∷◌, length, get_or, Option, Some, None, refl, sym, ap, ◌∙◌, subst, arith}
use Rattle.std.specs.Prelude.{nat_le, option_map}
use Rattle.std.proofs.lemmas.Bool.{cases_Bool, le-leb, lt-leb}
use Rattle.dav_path_core.specs.Fronts.{Path}
use Rattle.dav_locks_core.specs.Lock.{Lock}
use Rattle.dav_locks_core.specs.Locks.{found_token, found_from, found_here, better, height}

module _ (p : Path) (token : List ℕ) where
  abbrev here : Lock → Bool
  here l = found_here p token l

  abbrev NoneHere : List Lock → Type 0
  NoneHere ls = (j : ℕ) (d : Lock) → j < length ls → here (get_or ls j d) ≡ false

  -- the lock at k is the best
  pub record IsBest (ls : List Lock) (k : ℕ) : Type 0 where
    pub within : k < length ls
    pub is_here : (d : Lock) → here (get_or ls k d) ≡ true
    pub others : (j : ℕ) (d : Lock) → j < length ls → here (get_or ls j d) ≡ true → (height (get_or ls k d) < height (get_or ls j d)) ⊎ ((height (get_or ls k d) ≡ height (get_or ls j d)) × (k ≤ j))

  pub found_from-none : (i : ℕ) (ls : List Lock) → NoneHere ls → found_from i ls p token ≡ None
  found_from-none i [] h = refl
  found_from-none i (l ∷ ls) h =
      subst (λ b. better (cond b (Some (i, height l)) None) (found_from (i + 1) ls p token) ≡ None) (sym (h 0 l (omega arith)))
      (found_from-none (i + 1) ls (λ j d lt. h (suc j) d (omega arith)))

  -- what is found further on is of no less height than a lower bound of all
  found_from-above : (i n : ℕ) (ls : List Lock) → ((j : ℕ) (d : Lock) → j < length ls → here (get_or ls j d) ≡ true → n ≤ height (get_or ls j d))
      → (f : ℕ × ℕ) → found_from i ls p token ≡ Some f → n ≤ f.1
  found_from-above i n [] h f e = absurd (none_is f e)
    where
      none_is : (f : ℕ × ℕ) → None ≡ Some f → ⊥
      none_is f e = cc
  found_from-above i n (l ∷ ls) h f e = by (found_from (i + 1) ls p token) refl (found_from-above (i + 1) n ls (λ j d lt. h (suc j) d (omega arith))) (here l) refl e
    where
      none_is : (f : ℕ × ℕ) → None ≡ Some f → ⊥
      none_is f e = cc

      some_is : (f g : ℕ × ℕ) → Some f ≡ Some g → f ≡ g
      some_is f g e = cc

      by : (o : Option (ℕ × ℕ)) → found_from (i + 1) ls p token ≡ o → ((f : ℕ × ℕ) → found_from (i + 1) ls p token ≡ Some f → n ≤ f.1) → (b : Bool) → here l ≡ b
          → better (cond b (Some (i, height l)) None) (found_from (i + 1) ls p token) ≡ Some f → n ≤ f.1
      by o oe rec false be e = rec f e
      by None oe rec true be e =
          let at : Some (i, height l) ≡ Some f = sym (ap (better (Some (i, height l))) oe) ∙ e in
          let same = some_is _ _ at in
          let low : n ≤ height l = h 0 l (omega arith) be in
          subst (λ (f : ℕ × ℕ). n ≤ f.1) same low
      by (Some q) oe rec true be e =
          let low : n ≤ height l = h 0 l (omega arith) be in
          let later : n ≤ q.1 = rec q oe in
          let at : cond (nat_le (height l) q.1) (Some (i, height l)) (Some q) ≡ Some f = sym (ap (better (Some (i, height l))) oe) ∙ e in
          elim (cases_Bool (nat_le (height l) q.1)) [
            | inl t ↦ subst (λ (f : ℕ × ℕ). n ≤ f.1) (some_is _ _ (subst (λ b. cond b (Some (i, height l)) (Some q) ≡ Some f) t at)) low
            | inr t ↦ subst (λ (f : ℕ × ℕ). n ≤ f.1) (some_is _ _ (subst (λ b. cond b (Some (i, height l)) (Some q) ≡ Some f) t at)) later
          ]

  pub found_from-best : (i : ℕ) (ls : List Lock) (k : ℕ) (d : Lock) → IsBest ls k → found_from i ls p token ≡ Some (i + k, height (get_or ls k d))
  found_from-best i [] k d b = absurd (omega (arith, b.within))
  found_from-best i (l ∷ ls) zero d b =
      subst (λ t. better (cond t (Some (i, height l)) None) (found_from (i + 1) ls p token) ≡ Some (i + 0, height l)) (sym (b.is_here l))
      (by (found_from (i + 1) ls p token) refl)
    where
      low : (j : ℕ) (d : Lock) → j < length ls → here (get_or ls j d) ≡ true → height l ≤ height (get_or ls j d)
      low j d lt h = elim (b.others (suc j) d (omega arith) h) [
        | inl less ↦ omega (arith, less)
        | inr same ↦ omega (arith, same.0)
      ]

      first : i ≡ i + 0
      first = omega arith

      by : (o : Option (ℕ × ℕ)) → found_from (i + 1) ls p token ≡ o → better (Some (i, height l)) o ≡ Some (i + 0, height l)
      by None e = ap (λ n. Some (n, height l)) first
      by (Some f) e =
          let above : height l ≤ f.1 = found_from-above (i + 1) (height l) ls low f e in
          ap (λ b. cond b (Some (i, height l)) (Some f)) (le-leb (height l) f.1 above) ∙ ap (λ n. Some (n, height l)) first
  found_from-best i (l ∷ ls) (suc k) d b =
      let rest : found_from (i + 1) ls p token ≡ Some ((i + 1) + k, height (get_or ls k d)) = found_from-best (i + 1) ls k d (record {
        within = omega (arith, b.within);
        is_here = b.is_here;
        others = λ j d lt h. elim (b.others (suc j) d (omega arith) h) [ inl less ↦ inl less | inr same ↦ inr (same.0, omega (arith, same.1)) ];
      }) in
      let at : (i + 1) + k ≡ i + suc k = omega arith in
      by (here l) refl rest ∙ ap (λ n. Some (n, height (get_or ls k d))) at
    where
      lower : here l ≡ true → height (get_or ls k d) < height l
      lower e = elim (b.others 0 d (omega arith) e) [ inl less ↦ less | inr same ↦ absurd (omega (arith, same.1)) ]

      by : (t : Bool) → here l ≡ t → found_from (i + 1) ls p token ≡ Some ((i + 1) + k, height (get_or ls k d))
          → better (cond t (Some (i, height l)) None) (found_from (i + 1) ls p token) ≡ Some ((i + 1) + k, height (get_or ls k d))
      by false e rest = rest
      by true e rest =
          ap (better (Some (i, height l))) rest
          ∙ ap (λ b. cond b (Some (i, height l)) (Some ((i + 1) + k, height (get_or ls k d)))) (lt-leb (height l) (height (get_or ls k d)) (lower e))

  pub found-none : (ls : List Lock) → NoneHere ls → found_token ls p token ≡ None
  unfolding found_token
  found-none ls h = ap (option_map (λ f. f.0)) (found_from-none 0 ls h)

  pub found-best : (ls : List Lock) (k : ℕ) (d : Lock) → IsBest ls k → found_token ls p token ≡ Some k
  unfolding found_token
  found-best ls k d b = let first : 0 + k ≡ k = omega arith in ap (option_map (λ f. f.0)) (found_from-best 0 ls k d b) ∙ ap (λ (n : ℕ). Some n) first
