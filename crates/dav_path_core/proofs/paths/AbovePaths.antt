-- The parent of a path: its fronts and its length; and members of a list of which one is taken away.
use Rattle.std.proofs.Common.{◌≡◌, ◌⊎◌, inl, inr, ℕ, zero, suc, ◌+◌, ◌<◌, Bool, true, false, List, [], ◌∷◌, length, get_or, refl, sym, ◌∙◌, ap, arith}
use Rattle.std.specs.Prelude.{remove}
use Rattle.std.specs.List.{list_any}
use Rattle.std.proofs.lemmas.Bool.{or_parts, false≢true}
use Rattle.dav_path_core.specs.Fronts.{Path, is_front, parent}
use Rattle.dav_path_core.proofs.lists.MemberLemmas.{In}
use Rattle.dav_path_core.proofs.paths.FrontLemmas.{is_front-parts, is_front-cons}

-- ---- a path and its parent

pub above : (q h : Path) → is_front q h ≡ true → (q ≡ h) ⊎ (is_front q (parent h) ≡ true)
above [] [] h = inl refl
above [] (x ∷ []) h = inr refl
above [] (x ∷ y ∷ p) h = inr refl
above (s ∷ q) [] h = absurd (false≢true h)
above (s ∷ q) (x ∷ []) h =
    let parts = is_front-parts s x q [] h in
    elim (above q [] parts.1) [
      | inl e ↦ inl (ap (λ t. t ∷ q) parts.0 ∙ ap (λ r. x ∷ r) e)
      | inr f ↦ elim q as (λ q. is_front q [] ≡ true → (s ∷ q ≡ x ∷ []) ⊎ (is_front (s ∷ q) [] ≡ true)) [
        | [] ↦ λ _. inl (ap (λ t. t ∷ []) parts.0)
        | (t ∷ r) ↦ λ g. absurd (false≢true g)
      ] f
    ]
above (s ∷ q) (x ∷ y ∷ p) h =
    let parts = is_front-parts s x q (y ∷ p) h in
    elim (above q (y ∷ p) parts.1) [
      | inl e ↦ inl (ap (λ t. t ∷ q) parts.0 ∙ ap (λ r. x ∷ r) e)
      | inr f ↦ inr (is_front-cons s x q (parent (y ∷ p)) parts.0 f)
    ]

pub parent_front : (h : Path) → is_front (parent h) h ≡ true
parent_front [] = refl
parent_front (x ∷ []) = refl
parent_front (x ∷ y ∷ p) = is_front-cons x x (parent (y ∷ p)) (y ∷ p) refl (parent_front (y ∷ p))

pub parent_length : (h : Path) (n : ℕ) → length h ≡ n + 1 → length (parent h) ≡ n
parent_length [] n h = absurd (omega (arith, h))
parent_length (x ∷ []) n h = omega (arith, h)
parent_length (x ∷ y ∷ p) zero h = absurd (omega (arith, h))
parent_length (x ∷ y ∷ p) (suc n) h =
    let rest = parent_length (y ∷ p) n (omega (arith, h)) in omega (arith, rest)

pub one_less : (h : Path) (i n : ℕ) → length h + i ≡ n → i < n → length (parent h) + (i + 1) ≡ n
one_less h i n e lt = by (length h) refl
  where
    by : (k : ℕ) → length h ≡ k → length (parent h) + (i + 1) ≡ n
    by zero is = absurd (omega (arith, is, e, lt))
    by (suc k) is =
        let rest = parent_length h k (omega (arith, is)) in omega (arith, rest, is, e)

-- ---- members of a list

pub any_false : {A : Type 0} (test : A → Bool) (xs : List A) (x : A) → list_any test xs ≡ false → In x xs → test x ≡ false
any_false test [] x h i = absurd i
any_false test (y ∷ xs) x h (inl e) = ap test (sym e) ∙ (or_parts (test y) (list_any test xs) h).0
any_false test (y ∷ xs) x h (inr i) = any_false test xs x (or_parts (test y) (list_any test xs) h).1 i

pub left_or_gone : {A : Type 0} (xs : List A) (k : ℕ) (x : A) → In x xs → In x (remove xs k) ⊎ ((d : A) → get_or xs k d ≡ x)
left_or_gone [] k x i = absurd i
left_or_gone (y ∷ xs) zero x (inl e) = inr (λ d. e)
left_or_gone (y ∷ xs) zero x (inr i) = inl i
left_or_gone (y ∷ xs) (suc k) x (inl e) = inl (inl e)
left_or_gone (y ∷ xs) (suc k) x (inr i) = elim (left_or_gone xs k x i) [
  | inl j ↦ inl (inr j)
  | inr gone ↦ inr gone
]
