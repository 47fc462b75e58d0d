-- Numbers in headers: an optional `+`, and one or more decimal digits.
use Rattle.std.specs.Prelude.{ℕ, ◌^◌, Bool, ◌&&◌, nat_lt, List, length, Option}
use Rattle.std.specs.Str.{all_ascii_digits}
use Rattle.std.specs.Str.Parse.{digits_value, without_leading_plus}
use Rattle.dav_headers_core.specs.Optional.{when}

abbrev pub is_numeral : List ℕ → Bool
is_numeral digits = nat_lt 0 (length digits) && all_ascii_digits digits

-- the number that the text spells, where it is below 2 ^ bits
unfoldable pub number : ℕ → List ℕ → Option ℕ
number bits text =
    let digits = without_leading_plus text in
    when (is_numeral digits && nat_lt (digits_value 10 digits) (2 ^ bits)) (digits_value 10 digits)
