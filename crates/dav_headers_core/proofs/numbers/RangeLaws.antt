-- A range is read as it is written.
use Rattle.std.proofs.Common.{◌≡◌, refl, ℕ, ◌^◌, ◌<◌, arith, true, List, [], ◌∷◌, ◌++◌, length, Some}
use Rattle.std.specs.Prelude.{decimal, codes}
use Rattle.std.specs.Int.{IsInRange}
use Rattle.std.specs.List.{list_all}
use Rattle.std.proofs.lemmas.Bool.Decides.{nat_tests}
use Rattle.std.proofs.lemmas.Fmt.{decimal_nonempty}
use Rattle.std.proofs.lemmas.List.Elements.{All-get_or}
use Rattle.http_header.specs.FieldValue.{plain_value}
use Rattle.dav_headers_core.specs.Optional.{◌>>=◌}
use Rattle.dav_headers_core.specs.Values.{is_text_byte}
use Rattle.dav_headers_core.specs.Numbers.{number}
use Rattle.dav_headers_core.specs.UpdateRanges.{range_between, range_header, range_text, IsRangeWithin}
use Rattle.dav_headers_core.specs.declared.davheaders.update_ranges.XUpdateRange.{XUpdateRange}
use Rattle.dav_headers_core.specs.declared.davheaders.update_ranges.XUpdateRange.TheVariants.{FromTo, AllFrom, Last, Append}
use Rattle.dav_headers_core.proofs.numbers.DashLemmas.{NoDash, just_two}
use Rattle.dav_headers_core.proofs.numbers.NumberLemmas.{decimal_in, number-decimal}
use Rattle.dav_headers_core.proofs.texts.TextLemmas.{text-append, each_of}

digit_is_text : (b : ℕ) → IsInRange 48 57 b → is_text_byte b ≡ true
digit_is_text b h = grind (arith, nat_tests)

decimal_is_text : (n : ℕ) → n < 2 ^ 64 → list_all is_text_byte (decimal n) ≡ true
decimal_is_text n small = each_of is_text_byte (IsInRange 48 57) digit_is_text (decimal n) (decimal_in n small)

decimal_no_dash : (n : ℕ) → n < 2 ^ 64 → NoDash (decimal n)
decimal_no_dash n small i lt e = let h = All-get_or (IsInRange 48 57) (decimal n) i 0 lt (decimal_in n small) in absurd (omega (arith, h.0, h.1))

nil_no_dash : NoDash []
nil_no_dash i lt e = absurd (omega arith)

between_both : (first last : List ℕ) → 0 < length first → 0 < length last → range_between first last ≡ (number 64 first >>= λ m. number 64 last >>= λ n. Some (FromTo m n))
unfolding range_between
between_both [] last some more = absurd (omega arith)
between_both (b ∷ first) [] some more = absurd (omega arith)
between_both (b ∷ first) (c ∷ last) some more = refl

between_first : (first : List ℕ) → 0 < length first → range_between first [] ≡ (number 64 first >>= λ m. Some (AllFrom m))
unfolding range_between
between_first [] some = absurd (omega arith)
between_first (b ∷ first) some = refl

between_last : (last : List ℕ) → 0 < length last → range_between [] last ≡ (number 64 last >>= λ n. Some (Last n))
unfolding range_between
between_last [] some = absurd (omega arith)
between_last (b ∷ last) some = refl

-- a text that is a range behind `bytes=`
reads : (first last : List ℕ) (range : XUpdateRange) → list_all is_text_byte first ≡ true → list_all is_text_byte last ≡ true → NoDash first → NoDash last → range_between first last ≡ Some range
    → range_header (plain_value (codes "bytes=" ++ (first ++ 45 ∷ last)) ∷ []) ≡ Some range
reads first last range h k no_dash none_after e =
    let text = text-append is_text_byte first (45 ∷ last) h k in
    rw (text, just_two (first ++ 45 ∷ last) first last refl no_dash none_after) e

pub range_round_trips : (range : XUpdateRange) → IsRangeWithin range → range_header (plain_value (range_text range) ∷ []) ≡ Some range
range_round_trips Append within = refl
range_round_trips (FromTo m n) within =
    reads (decimal m) (decimal n) (FromTo m n) (decimal_is_text m within.0) (decimal_is_text n within.1) (decimal_no_dash m within.0) (decimal_no_dash n within.1)
    (rw (between_both (decimal m) (decimal n) (decimal_nonempty m within.0) (decimal_nonempty n within.1), number-decimal 64 m within.0 within.0, number-decimal 64 n within.1 within.1) refl)
range_round_trips (AllFrom m) within =
    reads (decimal m) [] (AllFrom m) (decimal_is_text m within) refl (decimal_no_dash m within) nil_no_dash
    (rw (between_first (decimal m) (decimal_nonempty m within), number-decimal 64 m within within) refl)
range_round_trips (Last n) within =
    reads [] (decimal n) (Last n) refl (decimal_is_text n within) nil_no_dash (decimal_no_dash n within)
    (rw (between_last (decimal n) (decimal_nonempty n within), number-decimal 64 n within within) refl)

pub range_is_text : (range : XUpdateRange) → IsRangeWithin range → list_all is_text_byte (range_text range) ≡ true
range_is_text Append within = refl
range_is_text (FromTo m n) within = text-append is_text_byte (decimal m) (45 ∷ decimal n) (decimal_is_text m within.0) (decimal_is_text n within.1)
range_is_text (AllFrom m) within = text-append is_text_byte (decimal m) (45 ∷ []) (decimal_is_text m within) refl
range_is_text (Last n) within = decimal_is_text n within
