-- The latest of the moments along a path, from the path up; and what is not after it.
use Rattle.std.proofs.Common.{◌≡◌, ◌⊎◌, inl, inr, ℕ, zero, suc, ◌+◌, ◌≤◌, true, List, [], ◌∷◌, ◌++◌, length, map, refl, sym, ◌∙◌, ap, subst, arith}
use Rattle.std.proofs.lemmas.Bool.{false≢true}
use Rattle.std.specs.Prelude.{max}
use Rattle.std.proofs.Math.Nat.{le-max_left, le-max_right, max-zero}
use Rattle.dav_path_core.specs.Fronts.{Path, is_front, parent, shorter_fronts}
use Rattle.dav_path_core.proofs.paths.AbovePaths.{above, parent_length}
use Rattle.dav_files_core.specs.Meta.{Meta}
use Rattle.dav_files_core.specs.Resources.{ResourceMap, at_path}
use Rattle.dav_fields_core.specs.LatestMoments.{last_change, latest, latest_above, latest_along}

-- ---- one folder up

pub up : (h : Path) (n : ℕ) → length h ≡ n + 1 → shorter_fronts h ≡ parent h ∷ shorter_fronts (parent h)
up [] n h = absurd (omega (arith, h))
up (x ∷ []) n h = refl
up (x ∷ y ∷ p) zero h = absurd (omega (arith, h))
up (x ∷ y ∷ p) (suc n) h = ap (λ (fs : List Path). map (λ f. x ∷ f) fs ++ [] ∷ []) (up (y ∷ p) n (omega (arith, h)))

max_again : (a b c : ℕ) → max (max a b) c ≡ max a (max b c)
max_again a b c = omega arith

module _ (m : ResourceMap) where
  -- what is looked at, and what is left
  pub one_up : (h : Path) (n first whole : ℕ) → length h ≡ n + 1 → max first (latest_above m h) ≡ whole
      → max (max first (last_change (at_path m (parent h)))) (latest_above m (parent h)) ≡ whole
  one_up h n first whole long so_far =
      max_again first (last_change (at_path m (parent h))) (latest_above m (parent h))
      ∙ ap (λ (fs : List Path). max first (latest_of fs)) (sym (up h n long)) ∙ so_far
    where
      latest_of : List Path → ℕ
      latest_of fs = latest (map (λ q. last_change (at_path m q)) fs)

  pub at_top : (h : Path) (first whole : ℕ) → length h ≡ 0 → max first (latest_above m h) ≡ whole → first ≡ whole
  at_top [] first whole none so_far = sym (max-zero first) ∙ so_far
  at_top (x ∷ h) first whole none so_far = absurd (omega (arith, none))

  -- ---- what is not after it

  above_is : (p : Path) (n : ℕ) → length p ≡ n + 1 → latest_above m p ≡ max (last_change (at_path m (parent p))) (latest_above m (parent p))
  above_is p n long = ap (λ (fs : List Path). latest (map (λ q. last_change (at_path m q)) fs)) (up p n long)

  no_later : (a b c : ℕ) → a ≡ max b c → (b ≤ a) × (c ≤ a)
  no_later a b c is = (subst (λ n. b ≤ n) (sym is) (le-max_left b c), subst (λ n. c ≤ n) (sym is) (le-max_right b c))

  pub bounds : (n : ℕ) (q p : Path) → length p ≡ n → is_front q p ≡ true → (q ≡ p) ⊎ (last_change (at_path m q) ≤ latest_above m p)
  bounds zero q [] long front = elim (above q [] front) [
    | inl same ↦ inl same
    | inr again ↦ inl (none_above q again)
  ]
    where
      none_above : (q : Path) → is_front q [] ≡ true → q ≡ []
      none_above [] h = refl
      none_above (x ∷ q) h = absurd (false≢true h)
  bounds zero q (x ∷ p) long front = absurd (omega (arith, long))
  bounds (suc n) q p long front = elim (above q p front) [
    | inl same ↦ inl same
    | inr higher ↦ elim (bounds n q (parent p) (parent_length p n (omega (arith, long))) higher) [
      | inl same ↦
          inr (subst (λ q. last_change (at_path m q) ≤ latest_above m p) (sym same)
          (no_later (latest_above m p) (last_change (at_path m (parent p))) (latest_above m (parent p)) (above_is p n (omega (arith, long)))).0)
      | inr under ↦
          let less = (no_later (latest_above m p) (last_change (at_path m (parent p))) (latest_above m (parent p)) (above_is p n (omega (arith, long)))).1 in
          inr (omega (arith, under, less))
    ]
  ]

  pub own_bounds : (p : Path) (known : Meta) → (known.created ≤ latest_along m p known) × (known.modified ≤ latest_along m p known) × (latest_above m p ≤ latest_along m p known)
  own_bounds p known =
      let own = le-max_left (max known.created known.modified) (latest_above m p) in
      let created = le-max_left known.created known.modified in
      let modified = le-max_right known.created known.modified in
      (omega (arith, own, created), omega (arith, own, modified), le-max_right (max known.created known.modified) (latest_above m p))
