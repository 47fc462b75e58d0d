-- Bytes that are repeated, and binary digits.
use Rattle.std.proofs.Common.{◌≡◌, ◌<◌, ◌+◌, ◌-◌, ◌/◌, ◌%◌, ℕ, suc, List, [], ◌∷◌, ◌++◌, length, take, min, inl, inr, sym, ◌∙◌, ap, arith, append_assoc}
use Rattle.std.proofs.lemmas.List.{append-nil, length-take, take-append-le, take_all}
use Rattle.std.proofs.Math.Seq.{take-append-add}
use Rattle.std.proofs.lemmas.Bool.{cases_lt}
use Rattle.dav_users_core.specs.Crypt.{by_digit, by_digits, times}
use Rattle.dav_users_core.specs.CryptText.{letter, letters_of}

-- more of the bytes, up to so many
filled : (count : ℕ) (xs b text new : List ℕ) → text ≡ take count xs → new ≡ text ++ take (count - length text) b → new ≡ take count (xs ++ b)
filled count xs b text new is more =
    let len : length text ≡ min count (length xs) = ap length is ∙ length-take count xs in
    elim (cases_lt count (length xs)) [
      | inl lt ↦
          let none : count - length text ≡ 0 = omega (arith, len, lt) in
          more ∙ ap (λ (k : ℕ). text ++ take k b) none ∙ append-nil text ∙ is ∙ sym (take-append-le count xs b (omega (arith, lt)))
      | inr ge ↦
          let whole : take count xs ≡ xs = take_all count xs ge in
          let left : length xs + (count - length text) ≡ count = omega (arith, len, ge) in
          more ∙ ap (λ (l : List ℕ). l ++ take (count - length text) b) (is ∙ whole) ∙ sym (take-append-add xs b (count - length text)) ∙ ap (λ (k : ℕ). take k (xs ++ b)) left
    ]

-- once more, and up to so many
pub filled_once : (count i : ℕ) (b text new : List ℕ) → text ≡ take count (times i b) → new ≡ text ++ take (count - length text) b → new ≡ take count (times (i + 1) b)
filled_once count i b text new is more =
    let next : i + 1 ≡ suc i = omega arith in
    filled count (times i b) b text new is more ∙ ap (λ (k : ℕ). take count (times k b)) (sym next)

-- one digit more
pub digits_on : (n i rest : ℕ) (x a b all : List ℕ) → i < n → x ++ by_digits (n - i) rest a b ≡ all → (x ++ by_digit rest a b) ++ by_digits (n - (i + 1)) (rest / 2) a b ≡ all
digits_on n i rest x a b all lt is =
    let next : n - i ≡ suc (n - (i + 1)) = omega (arith, lt) in
    append_assoc x (by_digit rest a b) (by_digits (n - (i + 1)) (rest / 2) a b) ∙ ap (λ (k : ℕ). x ++ by_digits k rest a b) (sym next) ∙ is

-- one letter more
pub letters_on : (n i rest : ℕ) (text new all : List ℕ) → i < n → text ++ letters_of (n - i) rest ≡ all → new ≡ text ++ letter (rest % 64) ∷ [] → new ++ letters_of (n - (i + 1)) (rest / 64) ≡ all
letters_on n i rest text new all lt is more =
    let next : n - i ≡ suc (n - (i + 1)) = omega (arith, lt) in
    ap (λ (l : List ℕ). l ++ letters_of (n - (i + 1)) (rest / 64)) more ∙ append_assoc text (letter (rest % 64) ∷ []) (letters_of (n - (i + 1)) (rest / 64))
    ∙ ap (λ (k : ℕ). text ++ letters_of k rest) (sym next) ∙ is
