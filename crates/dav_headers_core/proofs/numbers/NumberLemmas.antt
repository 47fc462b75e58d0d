-- Numbers, as `parse` reads them and as they are written.
use Rattle.std.proofs.Common.{◌≡◌, refl, ℕ, ◌^◌, ◌<◌, arith, true, false, ◌&&◌, ltb, leb, List, [], ◌∷◌, length, Some, Result, Ok, Err}
use Rattle.std.specs.Prelude.{decimal}
use Rattle.std.specs.Char.{is_ascii_digit}
use Rattle.std.specs.Int.{IsInRange}
use Rattle.std.specs.List.{All}
use Rattle.std.specs.Result.{result_ok}
use Rattle.std.specs.Str.{all_ascii_digits}
use Rattle.std.specs.Str.Parse.{digits_value, without_leading_plus, ParsesUnsigned}
use Rattle.std.proofs.lemmas.Bool.{and_from, and_parts, ltb-true, lt-ltb, leb-true, false_from_ne_true}
use Rattle.std.proofs.lemmas.List.Elements.{All-nil, All-cons}
use Rattle.std.proofs.lemmas.Fmt.{decimal_is_IsNumeral, decimal_nonempty}
use Rattle.std.proofs.lemmas.Str.Parse.{IsNumeralModel, numerals_by_value, tells_all_ascii_digits, without_leading_plus_none, not_in_digits}
use Rattle.dav_headers_core.specs.Numbers.{number, is_numeral}

pub own : IsNumeralModel (λ digits. all_ascii_digits digits ≡ true) (digits_value 10)
own = numerals_by_value _ tells_all_ascii_digits

-- what `parse` gives is the number
pub number_is : {E : Type 0} (bits : ℕ) (text : List ℕ) (r : Result ℕ E) → ParsesUnsigned bits 10 text r → result_ok r ≡ number bits text
unfolding number
number_is bits text (Ok n) h =
    let digits = without_leading_plus text in
    let t : (is_numeral digits && ltb (digits_value 10 digits) (2 ^ bits)) ≡ true = and_from _ _ (and_from _ _ (lt-ltb 0 (length digits) h.0.0.0) (own.from digits h.0.0.1)) (lt-ltb (digits_value 10 digits) (2 ^ bits) h.0.1) in
    rw (t, h.1) refl
number_is bits text (Err e) h =
    let digits = without_leading_plus text in
    let t : (is_numeral digits && ltb (digits_value 10 digits) (2 ^ bits)) ≡ false = false_from_ne_true _ (λ x.
    let p = and_parts (is_numeral digits) (ltb (digits_value 10 digits) (2 ^ bits)) x in
    let q = and_parts (ltb 0 (length digits)) (all_ascii_digits digits) p.0 in
    h ((ltb-true 0 (length digits) q.0, own.to digits q.1), ltb-true (digits_value 10 digits) (2 ^ bits) p.1)) in
    rw t refl

-- a number in decimal is read as itself
pub number-decimal : (bits n : ℕ) → n < 2 ^ bits → n < 2 ^ 64 → number bits (decimal n) ≡ Some n
unfolding number
number-decimal bits n fits small =
    let h = decimal_is_IsNumeral n small in
    let some = decimal_nonempty n small in
    let digits = own.from (decimal n) h.0.1 in
    let no_plus : without_leading_plus (decimal n) ≡ decimal n = without_leading_plus_none (decimal n) (not_in_digits own (decimal n) 43 digits (λ r. absurd (omega (arith, r.0, r.1))) 0 some) in
    let t : (is_numeral (decimal n) && ltb n (2 ^ bits)) ≡ true = and_from _ _ (and_from _ _ (lt-ltb 0 (length (decimal n)) some) digits) (lt-ltb n (2 ^ bits) fits) in
    rw (no_plus, h.1, t) refl

-- ---- the bytes of a number in decimal

digits_in : (digits : List ℕ) → all_ascii_digits digits ≡ true → All (IsInRange 48 57) digits
digits_in [] h = All-nil (IsInRange 48 57)
digits_in (d ∷ digits) h =
    let parts = and_parts (is_ascii_digit d) (all_ascii_digits digits) h in
    All-cons (IsInRange 48 57) d digits (digit_in d parts.0) (digits_in digits parts.1)
  where
    digit_in : (d : ℕ) → is_ascii_digit d ≡ true → IsInRange 48 57 d
    digit_in d h = let parts = and_parts (leb 48 d) (leb d 57) h in (leb-true 48 d parts.0, leb-true d 57 parts.1)

pub decimal_in : (n : ℕ) → n < 2 ^ 64 → All (IsInRange 48 57) (decimal n)
decimal_in n small = digits_in (decimal n) (own.from (decimal n) (decimal_is_IsNumeral n small).0.1)
