-- The longest front that two texts have in common.
use Rattle.std.proofs.Common.{◌≡◌, ◌≢◌, ℕ, zero, suc, ◌+◌, ◌<◌, ◌≤◌, Bool, true, false, cond, eqb, List, [], ◌∷◌, ◌++◌, length, get_or, take, drop, refl, sym, ap, ◌∙◌, arith, zero-add, add-one}
use Rattle.std.proofs.lemmas.Bool.{cond_both, eqb-true, eq-eqb, ne_eqb}
use Rattle.std.proofs.lemmas.List.{nil_from_length, length-drop}
use Rattle.dav_effects_core.specs.ByteForms.{common_len}

pub common_le_text : (a b : List ℕ) → common_len a b ≤ length b
common_le_text [] b = omega arith
common_le_text (x ∷ a) [] = omega arith
common_le_text (x ∷ a) (y ∷ b) =
    cond_both (eqb x y) (suc (common_len a b)) 0 (λ (n : ℕ). n ≤ suc (length b)) (λ e. let more = common_le_text a b in omega arith) (λ e. omega arith)

pub common_le_before : (a b : List ℕ) → common_len a b ≤ length a
common_le_before [] b = omega arith
common_le_before (x ∷ a) [] = omega arith
common_le_before (x ∷ a) (y ∷ b) =
    cond_both (eqb x y) (suc (common_len a b)) 0 (λ (n : ℕ). n ≤ suc (length a)) (λ e. let more = common_le_before a b in omega arith) (λ e. omega arith)

-- the text is that front, and what it has behind it
pub common_parts : (a b : List ℕ) → take (common_len a b) a ++ drop (common_len a b) b ≡ b
common_parts [] b = refl
common_parts (x ∷ a) [] = refl
common_parts (x ∷ a) (y ∷ b) =
    cond_both (eqb x y) (suc (common_len a b)) 0 (λ (n : ℕ). take n (x ∷ a) ++ drop n (y ∷ b) ≡ y ∷ b)
    (λ e. ap (λ (z : ℕ). z ∷ (take (common_len a b) a ++ drop (common_len a b) b)) (eqb-true x y e) ∙ ap (λ (l : List ℕ). y ∷ l) (common_parts a b))
    (λ e. refl)

-- one byte more of both is the same
common_next : (a b : List ℕ) (i : ℕ) → i < length a → i < length b → get_or a i 0 ≡ get_or b i 0
    → common_len (drop i a) (drop i b) ≡ suc (common_len (drop (suc i) a) (drop (suc i) b))
common_next [] b i lt lt' same = absurd (omega arith)
common_next (x ∷ a) [] i lt lt' same = absurd (omega arith)
common_next (x ∷ a) (y ∷ b) zero lt lt' same = rw (eq-eqb x y same) refl
common_next (x ∷ a) (y ∷ b) (suc i) lt lt' same = common_next a b i (omega arith) (omega arith) same

pub common_one : (a b : List ℕ) (i : ℕ) → i < length a → i < length b → get_or a i 0 ≡ get_or b i 0
    → common_len (drop i a) (drop i b) ≡ suc (common_len (drop (i + 1) a) (drop (i + 1) b))
common_one a b i lt lt' same = rw add-one (common_next a b i lt lt' same)

common_nil : (a : List ℕ) → common_len a [] ≡ 0
common_nil [] = refl
common_nil (x ∷ a) = refl

pub common_end_text : (a b : List ℕ) (i : ℕ) → length b ≤ i → common_len a (drop i b) ≡ 0
common_end_text a b i le = rw (nil_from_length (drop i b) (omega (arith, length-drop i b))) (common_nil a)
