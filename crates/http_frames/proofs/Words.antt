-- A line that is the head of a frame is text: each of its bytes is ASCII.
use Rattle.std.proofs.Common.{◌≡◌, ℕ, ◌<◌, ◌+◌, Bool, true, false, ◌&&◌, List, [], ◌∷◌, length, take, drop, suc, Option, Some, None, All, codes, nat_lt, refl, sym, ap, ◌∙◌, subst, arith, rules}
use Rattle.std.proofs.lemmas.List.Elements.{All-cons, All-head, All-tail, All-weaker}
use Rattle.std.proofs.lemmas.Bool.{eqb-true, ltb-true}
use Rattle.std.proofs.lemmas.List.Sums.{AllPass-from_list_all}
use Rattle.std.proofs.lemmas.Fmt.{IsAscii-from_digits}
use Rattle.std.proofs.lemmas.Slice.Eq.{bytes_eq-Decides}
use Rattle.std.proofs.lemmas.Str.{IsUtf8-from_ascii}
use Rattle.std.proofs.lemmas.Str.Ascii.{All-from_ascii, IsAscii-from_all}
use Rattle.std.proofs.lemmas.Str.Parse.{IsDigitsTest, IsNumeralModel, numerals_by_value}
use Rattle.std.proofs.Math.ListN.{drop_of_length-le}
use Rattle.std.specs.Char.{is_ascii_digit}
use Rattle.std.specs.List.{list_all, before_first, after_first, position_or_len}
use Rattle.std.specs.Str.{IsUtf8, bytes_eq}
use Rattle.std.specs.Str.Parse.{digits_value}
use Rattle.line_streams.proofs.Numerals.{no_digits}
use Rattle.line_streams.specs.Numerals.{numeral}
use Rattle.http_frames.specs.declared.frames.Head.{Head}
use Rattle.http_frames.specs.Frames.{is_single_space, is_address, is_address_byte, gone_in, clock_in, free_in, from_by, from_in, taken_by, taken_in, piece_in, users_head, late_in, turned_by, turned_in, one_word, told_head_of, other_head_of, head_of, head}

abbrev Low : List ℕ → Type 0
Low bytes = All (λ b. b < 128) bytes

one_more : (n : ℕ) → 1 + n ≡ suc n
one_more n = omega arith

one_less : (n : ℕ) → 1 + n + 1 ≡ suc (n + 1)
one_less n = omega arith

around-cons : (b : ℕ) (line : List ℕ) (test : Bool) → is_single_space b ≡ test → (Low (before_first is_single_space line) → Low (after_first is_single_space line) → Low line)
    → Low (before_first is_single_space (b ∷ line)) → Low (after_first is_single_space (b ∷ line)) → Low (b ∷ line)
around-cons b line true is rest before after =
    All-cons (λ x. x < 128) b line (omega (arith, eqb-true b 32 is)) (rw is at after)
around-cons b line false is rest before after =
    let n = position_or_len is_single_space line in
    let front = subst (λ k. Low (take k (b ∷ line))) (one_more n) (rw is at before) in
    let back = subst (λ k. Low (drop k (b ∷ line))) (one_less n) (rw is at after) in
    All-cons (λ x. x < 128) b line (All-head (λ x. x < 128) b (take n line) front) (rest (All-tail (λ x. x < 128) b (take n line) front) back)

around : (line : List ℕ) → Low (before_first is_single_space line) → Low (after_first is_single_space line) → Low line
around [] before after = before
around (b ∷ line) before after = around-cons b line (is_single_space b) refl (around line) before after

tells : IsDigitsTest (λ ds. list_all is_ascii_digit ds ≡ true)
tells = search rules

own : IsNumeralModel (λ ds. list_all is_ascii_digit ds ≡ true) (digits_value 10)
own = numerals_by_value _ tells

digits_low : (word : List ℕ) → list_all is_ascii_digit word ≡ true → Low word
digits_low word digits = All-from_ascii word (IsAscii-from_digits word (own.to word digits))

numeral_low : (word : List ℕ) (n : ℕ) (test : Bool) → list_all is_ascii_digit word ≡ test → numeral word ≡ Some n → Low word
numeral_low word n true digits is = digits_low word digits
numeral_low word n false digits is = let none = sym (no_digits word digits) ∙ is in cc

is_word : (word text : List ℕ) → bytes_eq word text ≡ true → word ≡ text
is_word word text is = (bytes_eq-Decides word text).0 is

word_low : (word text : List ℕ) → list_all (λ b. nat_lt b 128) text ≡ true → bytes_eq word text ≡ true → Low word
word_low word text low is =
    subst Low (sym (is_word word text is)) (All-weaker (λ b. nat_lt b 128 ≡ true) (λ b. b < 128) (λ b x. ltb-true b 128 x) text (AllPass-from_list_all (λ b. nat_lt b 128) text low))

number_low : (word : List ℕ) (n : Option ℕ) (m : ℕ) → numeral word ≡ n → n ≡ Some m → Low word
number_low word n m is some = numeral_low word m (list_all is_ascii_digit word) refl (is ∙ some)

gone_low : (rest : List ℕ) (n : Option ℕ) (h : Head) → numeral rest ≡ n → gone_in n ≡ Some h → Low rest
gone_low rest None h is says = cc
gone_low rest (Some n) h is says = number_low rest (Some n) n is refl

taken_low : (rest : List ℕ) (n c : Option ℕ) (h : Head) → numeral (before_first is_single_space rest) ≡ n → numeral (after_first is_single_space rest) ≡ c → taken_by n c ≡ Some h → Low rest
taken_low rest None c h is was says = cc
taken_low rest (Some n) None h is was says = cc
taken_low rest (Some n) (Some c) h is was says = around rest (number_low (before_first is_single_space rest) (Some n) n is refl) (number_low (after_first is_single_space rest) (Some c) c was refl)

piece_low : (word rest : List ℕ) (n l : Option ℕ) (h : Head) → numeral word ≡ n → numeral rest ≡ l → piece_in n l ≡ Some h → Low word × Low rest
piece_low word rest None l h is was says = cc
piece_low word rest (Some n) None h is was says = cc
piece_low word rest (Some n) (Some l) h is was says = (number_low word (Some n) n is refl, number_low rest (Some l) l was refl)

clock_low : (rest : List ℕ) (n : Option ℕ) (h : Head) → numeral rest ≡ n → clock_in n ≡ Some h → Low rest
clock_low rest None h is says = cc
clock_low rest (Some n) h is says = number_low rest (Some n) n is refl

free_low : (rest : List ℕ) (n : Option ℕ) (h : Head) → numeral rest ≡ n → free_in n ≡ Some h → Low rest
free_low rest None h is says = cc
free_low rest (Some n) h is says = number_low rest (Some n) n is refl

behind_and : (x y : Bool) → (x && y) ≡ true → y ≡ true
behind_and true y is = is
behind_and false y is = cc

address_low : (address : List ℕ) → list_all is_address_byte address ≡ true → Low address
address_low address all =
    All-weaker (λ b. is_address_byte b ≡ true) (λ b. b < 128) (λ b x. let below = ltb-true b 127 (behind_and (nat_lt 32 b) (nat_lt b 127) x) in omega (arith, below)) address (AllPass-from_list_all is_address_byte address all)

from_low-by : (rest : List ℕ) (n : Option ℕ) (h : Head) (test : Bool) → numeral (before_first is_single_space rest) ≡ n → is_address (after_first is_single_space rest) ≡ test
    → from_by n (after_first is_single_space rest) ≡ Some h → Low rest
from_low-by rest None h test is was says = cc
from_low-by rest (Some n) h false is was says = let none = rw was at says in cc
from_low-by rest (Some n) h true is was says =
    let address = after_first is_single_space rest in
    around rest (number_low (before_first is_single_space rest) (Some n) n is refl)
    (address_low address (behind_and (nat_lt (length address) 65) (list_all is_address_byte address) (behind_and (nat_lt 0 (length address)) (nat_lt (length address) 65 && list_all is_address_byte address) was)))

users_low : (rest : List ℕ) (n : Option ℕ) (h : Head) → numeral rest ≡ n → users_head n ≡ Some h → Low rest
users_low rest None h is says = cc
users_low rest (Some n) h is says = number_low rest (Some n) n is refl

late_low : (rest : List ℕ) (n : Option ℕ) (h : Head) → numeral rest ≡ n → late_in n ≡ Some h → Low rest
late_low rest None h is says = cc
late_low rest (Some n) h is says = number_low rest (Some n) n is refl

turned_low-by : (rest : List ℕ) (n : Option ℕ) (h : Head) (test : Bool) → numeral (after_first is_single_space rest) ≡ n → is_address (before_first is_single_space rest) ≡ test
    → turned_by (before_first is_single_space rest) n ≡ Some h → Low rest
turned_low-by rest None h test is was says = cc
turned_low-by rest (Some n) h false is was says = let none = rw was at says in cc
turned_low-by rest (Some n) h true is was says =
    let address = before_first is_single_space rest in
    around rest
    (address_low address (behind_and (nat_lt (length address) 65) (list_all is_address_byte address) (behind_and (nat_lt 0 (length address)) (nat_lt (length address) 65 && list_all is_address_byte address) was)))
    (number_low (after_first is_single_space rest) (Some n) n is refl)

told_low-by : (word rest : List ℕ) (h : Head) (users late turned : Bool) → bytes_eq word (codes "users") ≡ users → bytes_eq word (codes "late") ≡ late → bytes_eq word (codes "turned") ≡ turned
    → told_head_of word rest ≡ Some h → Low word × Low rest
told_low-by word rest h true late turned is was now says = (word_low word (codes "users") refl is, users_low rest (numeral rest) h refl (rw is at says))
told_low-by word rest h false true turned is was now says = (word_low word (codes "late") refl was, late_low rest (numeral rest) h refl (rw (is, was) at says))
told_low-by word rest h false false true is was now says =
    (word_low word (codes "turned") refl now, turned_low-by rest (numeral (after_first is_single_space rest)) h (is_address (before_first is_single_space rest)) refl refl (rw (is, was, now) at says))
told_low-by word rest h false false false is was now says = piece_low word rest (numeral word) (numeral rest) h refl refl (rw (is, was, now) at says)

others_low-by : (word rest : List ℕ) (h : Head) (free from : Bool) → bytes_eq word (codes "free") ≡ free → bytes_eq word (codes "from") ≡ from → other_head_of word rest ≡ Some h → Low word × Low rest
others_low-by word rest h true from is was says = (word_low word (codes "free") refl is, free_low rest (numeral rest) h refl (rw is at says))
others_low-by word rest h false true is was says =
    (word_low word (codes "from") refl was, from_low-by rest (numeral (before_first is_single_space rest)) h (is_address (after_first is_single_space rest)) refl refl (rw (is, was) at says))
others_low-by word rest h false false is was says =
    told_low-by word rest h (bytes_eq word (codes "users")) (bytes_eq word (codes "late")) (bytes_eq word (codes "turned")) refl refl refl (rw (is, was) at says)

words_low-by : (word rest : List ℕ) (h : Head) (gone taken clock : Bool) → bytes_eq word (codes "gone") ≡ gone → bytes_eq word (codes "taken") ≡ taken → bytes_eq word (codes "clock") ≡ clock
    → head_of word rest ≡ Some h → Low word × Low rest
words_low-by word rest h true taken clock is was now says = (word_low word (codes "gone") refl is, gone_low rest (numeral rest) h refl (rw is at says))
words_low-by word rest h false true clock is was now says =
    (word_low word (codes "taken") refl was, taken_low rest (numeral (before_first is_single_space rest)) (numeral (after_first is_single_space rest)) h refl refl (rw (is, was) at says))
words_low-by word rest h false false true is was now says = (word_low word (codes "clock") refl now, clock_low rest (numeral rest) h refl (rw (is, was, now) at says))
words_low-by word rest h false false false is was now says = others_low-by word rest h (bytes_eq word (codes "free")) (bytes_eq word (codes "from")) refl refl (rw (is, was, now) at says)

one_word_low : (line : List ℕ) (h : Head) (none touch go : Bool) → bytes_eq line (codes "none") ≡ none → bytes_eq line (codes "touch") ≡ touch → bytes_eq line (codes "go") ≡ go → one_word line ≡ Some h → Low line
one_word_low line h true touch go is was now says = word_low line (codes "none") refl is
one_word_low line h false true go is was now says = word_low line (codes "touch") refl was
one_word_low line h false false true is was now says = word_low line (codes "go") refl now
one_word_low line h false false false is was now says = let none = rw (is, was, now) at says in cc

line_low-by : (line : List ℕ) (h : Head) (word : Option Head) → one_word line ≡ word → head line ≡ Some h → Low line
line_low-by line h (Some w) is says = one_word_low line w (bytes_eq line (codes "none")) (bytes_eq line (codes "touch")) (bytes_eq line (codes "go")) refl refl refl is
line_low-by line h None is says =
    let word = before_first is_single_space line in
    let x = words_low-by word (after_first is_single_space line) h (bytes_eq word (codes "gone")) (bytes_eq word (codes "taken")) (bytes_eq word (codes "clock")) refl refl refl (rw is at says) in
    around line x.0 x.1

words_low : (line : List ℕ) (h : Head) → head line ≡ Some h → Low line
words_low line h is = line_low-by line h (one_word line) refl is

head_is_text : (line : List ℕ) (h : Head) → head line ≡ Some h → IsUtf8 line
head_is_text line h is = IsUtf8-from_ascii line (IsAscii-from_all line (words_low line h is))

no_text-by : (line : List ℕ) (h : Option Head) → ¬ (IsUtf8 line) → head line ≡ h → h ≡ None
no_text-by line None not_text is = refl
no_text-by line (Some h) not_text is = absurd (not_text (head_is_text line h is))

-- what is no text is no head
pub no_text : (line : List ℕ) → ¬ (IsUtf8 line) → head line ≡ None
no_text line not_text = no_text-by line (head line) not_text refl

numeral_none : numeral [] ≡ None
unfolding numeral
numeral_none = refl

taken_by_none : (n : Option ℕ) → taken_by n None ≡ None
taken_by_none None = refl
taken_by_none (Some n) = refl

pub no_second : (rest : List ℕ) → position_or_len is_single_space rest ≡ length rest → taken_in rest ≡ None
no_second rest is =
    let none : after_first is_single_space rest ≡ [] = drop_of_length-le rest {i = position_or_len is_single_space rest + 1} (omega (arith, is)) in
    ap (λ t. taken_by (numeral (before_first is_single_space rest)) (numeral t)) none ∙ ap (taken_by (numeral (before_first is_single_space rest))) numeral_none ∙ taken_by_none _

from_by_none : (n : Option ℕ) → from_by n [] ≡ None
from_by_none None = refl
from_by_none (Some n) = refl

pub no_address : (rest : List ℕ) → position_or_len is_single_space rest ≡ length rest → from_in rest ≡ None
no_address rest is =
    let none : after_first is_single_space rest ≡ [] = drop_of_length-le rest {i = position_or_len is_single_space rest + 1} (omega (arith, is)) in
    ap (from_by (numeral (before_first is_single_space rest))) none ∙ from_by_none _

piece_in_none : (n : Option ℕ) → piece_in n None ≡ None
piece_in_none None = refl
piece_in_none (Some n) = refl

pub no_count : (rest : List ℕ) → position_or_len is_single_space rest ≡ length rest → turned_in rest ≡ None
no_count rest is =
    let none : after_first is_single_space rest ≡ [] = drop_of_length-le rest {i = position_or_len is_single_space rest + 1} (omega (arith, is)) in
    ap (λ t. turned_by (before_first is_single_space rest) (numeral t)) none ∙ ap (turned_by (before_first is_single_space rest)) numeral_none

told_head_of_none : (word : List ℕ) (users late turned : Bool) → bytes_eq word (codes "users") ≡ users → bytes_eq word (codes "late") ≡ late → bytes_eq word (codes "turned") ≡ turned → told_head_of word [] ≡ None
told_head_of_none word true late turned is was now = rw (is, numeral_none) refl
told_head_of_none word false true turned is was now = rw (is, was, numeral_none) refl
told_head_of_none word false false true is was now = rw (is, was, now) (no_count [] refl)
told_head_of_none word false false false is was now = rw (is, was, now, numeral_none) (piece_in_none (numeral word))

other_head_of_none : (word : List ℕ) (free from : Bool) → bytes_eq word (codes "free") ≡ free → bytes_eq word (codes "from") ≡ from → other_head_of word [] ≡ None
other_head_of_none word true from is was = rw (is, numeral_none) refl
other_head_of_none word false true is was = rw (is, was) (no_address [] refl)
other_head_of_none word false false is was = rw (is, was) (told_head_of_none word (bytes_eq word (codes "users")) (bytes_eq word (codes "late")) (bytes_eq word (codes "turned")) refl refl refl)

head_of_none : (word : List ℕ) (gone taken clock : Bool) → bytes_eq word (codes "gone") ≡ gone → bytes_eq word (codes "taken") ≡ taken → bytes_eq word (codes "clock") ≡ clock → head_of word [] ≡ None
head_of_none word true taken clock is was now = rw (is, numeral_none) refl
head_of_none word false true clock is was now = rw (is, was) (no_second [] refl)
head_of_none word false false true is was now = rw (is, was, now, numeral_none) refl
head_of_none word false false false is was now = rw (is, was, now) (other_head_of_none word (bytes_eq word (codes "free")) (bytes_eq word (codes "from")) refl refl)

-- a line that is not one of the words is read by its first word and what stands behind it
pub two_words : (line : List ℕ) → one_word line ≡ None → head line ≡ head_of (before_first is_single_space line) (after_first is_single_space line)
two_words line not_none = rw not_none refl

-- a line without a blank is no head but for these words
pub no_blank : (line : List ℕ) → one_word line ≡ None → position_or_len is_single_space line ≡ length line → head line ≡ None
no_blank line not_none is =
    let none : after_first is_single_space line ≡ [] = drop_of_length-le line {i = position_or_len is_single_space line + 1} (omega (arith, is)) in
    let word = before_first is_single_space line in
    rw not_none (ap (head_of word) none ∙ head_of_none word (bytes_eq word (codes "gone")) (bytes_eq word (codes "taken")) (bytes_eq word (codes "clock")) refl refl refl)
