-- The first blank of a line.
use Rattle.std.proofs.Common.{◌≡◌, ℕ, ◌+◌, Bool, true, false, List, length, take, drop, take_all, get_or, Some, None, sym, ap, ◌∙◌, arith, refl}
use Rattle.std.proofs.lemmas.List.Sums.{position_or_len_is}
use Rattle.std.proofs.Math.ListN.{drop_of_length-le}
use Rattle.memchr.specs.Find.{IsFirstByte, is_byte}
use Rattle.std.specs.List.{after_first, before_first, position_or_len}
use Rattle.http_frames.specs.Frames.{is_single_space}

not_passed : (b : Bool) → ¬ (b ≡ true) → b ≡ false
not_passed true fails = absurd (fails refl)
not_passed false fails = refl

pub behind_found : (line : List ℕ) (k : ℕ) → IsFirstByte (is_byte 32) line (Some k) → drop (k + 1) line ≡ after_first is_single_space line
behind_found line k x = sym (ap (λ (n : ℕ). drop (n + 1) line) (position_or_len_is is_single_space line k 0 (omega (arith, x.0.high)) (λ i lt. not_passed (is_single_space (get_or line i 0)) (x.0.before i (omega arith) lt)) (λ lt. x.1)))

pub before_found : (line : List ℕ) (k : ℕ) → IsFirstByte (is_byte 32) line (Some k) → take k line ≡ before_first is_single_space line
before_found line k x = sym (ap (λ (n : ℕ). take n line) (position_or_len_is is_single_space line k 0 (omega (arith, x.0.high)) (λ i lt. not_passed (is_single_space (get_or line i 0)) (x.0.before i (omega arith) lt)) (λ lt. x.1)))

pub before_none : (line : List ℕ) → IsFirstByte (is_byte 32) line None → line ≡ before_first is_single_space line
before_none line none = sym (take_all (position_or_len is_single_space line) line (omega (arith, position_or_len_is is_single_space line (length line) 0 (omega arith) (λ i lt. not_passed (is_single_space (get_or line i 0)) (none i (omega arith) lt)) (λ lt. absurd (omega (arith, lt))))))

pub behind_none : (line : List ℕ) → IsFirstByte (is_byte 32) line None → drop (length line) line ≡ after_first is_single_space line
behind_none line none = drop_of_length-le line {i = length line} (omega arith) ∙ sym (drop_of_length-le line {i = position_or_len is_single_space line + 1} (omega (arith, position_or_len_is is_single_space line (length line) 0 (omega arith) (λ i lt. not_passed (is_single_space (get_or line i 0)) (none i (omega arith) lt)) (λ lt. absurd (omega (arith, lt))))))
