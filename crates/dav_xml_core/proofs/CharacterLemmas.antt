-- The characters of a text, one by one.
use Rattle.std.proofs.Common.{◌≡◌, refl, sym, ap, ◌∙◌, ℕ, zero, suc, ◌+◌, ◌-◌, ◌⊎◌, inl, inr, arith, sub-one, Bool, true, false, ◌&&◌, cond, nat_eq, List, [], ◌∷◌, ◌++◌, length, length-append, append_assoc, append-nil, chars, IsUtf8, Option, Some}
use Rattle.std.specs.Char.{len_utf8, encode_utf8}
use Rattle.std.proofs.lemmas.Bool.{ne_eqb}
use Rattle.std.proofs.lemmas.Str.{chars-nil, chars_past_char, length-encode}
use Rattle.dav_xml_core.specs.Characters.{is_char, lines_from}
use Rattle.dav_xml_core.specs.Refusals.{no_char_at, bytes_before}

pub chars_none : (bytes : List ℕ) → length bytes ≡ 0 → chars bytes ≡ []
chars_none [] h = chars-nil
chars_none (b ∷ bytes) h = absurd (omega arith)

-- ---- the first that is no Char

pub all_are : (at : ℕ) (bytes : List ℕ) (whole : Option ℕ) → length bytes ≡ 0 → no_char_at at (chars bytes) ≡ whole → whole ≡ no_char_at at []
all_are at bytes whole h inv = sym inv ∙ ap (no_char_at at) (chars_none bytes h)

pub is_next : (at c : ℕ) (bytes rest : List ℕ) (whole : Option ℕ) → IsUtf8 bytes → bytes ≡ encode_utf8 c ++ rest → is_char c ≡ true
    → no_char_at at (chars bytes) ≡ whole → no_char_at (at + length (encode_utf8 c)) (chars rest) ≡ whole
is_next at c bytes rest whole u e h inv =
    ap (λ (n : ℕ). no_char_at (at + n) (chars rest)) (length-encode c)
    ∙ sym (ap (no_char_at at) (chars_past_char bytes rest c u e) ∙ ap (λ b. cond b (no_char_at (at + len_utf8 c) (chars rest)) (Some at)) h) ∙ inv

pub is_here : (at c : ℕ) (bytes rest : List ℕ) (whole : Option ℕ) → IsUtf8 bytes → bytes ≡ encode_utf8 c ++ rest → is_char c ≡ false
    → no_char_at at (chars bytes) ≡ whole → Some at ≡ whole
is_here at c bytes rest whole u e h inv =
    sym (ap (no_char_at at) (chars_past_char bytes rest c u e) ∙ ap (λ b. cond b (no_char_at (at + len_utf8 c) (chars rest)) (Some at)) h) ∙ inv

-- ---- lines

off : (b : Bool) → (b && false) ≡ false
off true = refl
off false = refl

-- no line feed right behind a carriage return
pub no_second : (c : ℕ) (after : Bool) → ((c ≡ 10) × (after ≡ false)) ⊎ (c ≡ 10 → ⊥) → (nat_eq c 10 && after) ≡ false
no_second c after (inl h) = ap (λ a. nat_eq c 10 && a) h.1 ∙ off (nat_eq c 10)
no_second c after (inr h) = ap (λ b. b && after) (ne_eqb c 10 h)

pub at_return : (front bytes rest whole : List ℕ) (after : Bool) (c : ℕ) → IsUtf8 bytes → bytes ≡ encode_utf8 c ++ rest → c ≡ 13
    → front ++ lines_from after (chars bytes) ≡ whole → (front ++ 10 ∷ []) ++ lines_from true (chars rest) ≡ whole
at_return front bytes rest whole after c u e h inv =
    append_assoc front (10 ∷ []) (lines_from true (chars rest))
    ∙ sym (ap (λ (t : List ℕ). front ++ lines_from after t) (chars_past_char bytes rest c u e) ∙ ap (λ (d : ℕ). front ++ lines_from after (d ∷ chars rest)) h) ∙ inv

pub at_second : (front bytes rest whole : List ℕ) (after : Bool) (c : ℕ) → IsUtf8 bytes → bytes ≡ encode_utf8 c ++ rest → c ≡ 10 → after ≡ true
    → front ++ lines_from after (chars bytes) ≡ whole → front ++ lines_from false (chars rest) ≡ whole
at_second front bytes rest whole after c u e h a inv =
    sym (ap (λ (t : List ℕ). front ++ lines_from after t) (chars_past_char bytes rest c u e)
    ∙ ap (λ (d : ℕ). front ++ lines_from after (d ∷ chars rest)) h ∙ ap (λ b. front ++ lines_from b (10 ∷ chars rest)) a) ∙ inv

pub at_other : (front bytes rest whole : List ℕ) (after : Bool) (c : ℕ) → IsUtf8 bytes → bytes ≡ encode_utf8 c ++ rest → nat_eq c 13 ≡ false
    → (nat_eq c 10 && after) ≡ false → front ++ lines_from after (chars bytes) ≡ whole → (front ++ c ∷ []) ++ lines_from false (chars rest) ≡ whole
at_other front bytes rest whole after c u e h k inv =
    let others = lines_from false (chars rest) in
    append_assoc front (c ∷ []) others
    ∙ sym (ap (λ (t : List ℕ). front ++ lines_from after t) (chars_past_char bytes rest c u e)
    ∙ ap (λ b. front ++ cond b (10 ∷ lines_from true (chars rest)) (cond (nat_eq c 10 && after) others (c ∷ others))) h
    ∙ ap (λ b. front ++ cond b others (c ∷ others)) k) ∙ inv

pub lines_end : (front bytes whole : List ℕ) (after : Bool) → length bytes ≡ 0 → front ++ lines_from after (chars bytes) ≡ whole → front ≡ whole
lines_end front bytes whole after h inv = sym (append-nil front) ∙ sym (ap (λ (t : List ℕ). front ++ lines_from after t) (chars_none bytes h)) ∙ inv

-- ---- places

second_is : (n : ℕ) (text : List ℕ) → bytes_before true n (10 ∷ text) ≡ 1 + bytes_before false n text
second_is zero text = refl
second_is (suc n) text = refl

pub past_second : (at n c whole : ℕ) (bytes rest : List ℕ) (after : Bool) → IsUtf8 bytes → bytes ≡ encode_utf8 c ++ rest → c ≡ 10 → after ≡ true
    → at + bytes_before after n (chars bytes) ≡ whole → at + length (encode_utf8 c) + bytes_before false n (chars rest) ≡ whole
past_second at n c whole bytes rest after u e h a inv =
    let same : bytes_before after n (chars bytes) ≡ 1 + bytes_before false n (chars rest) =
    ap (bytes_before after n) (chars_past_char bytes rest c u e) ∙ ap (λ (d : ℕ). bytes_before after n (d ∷ chars rest)) h
    ∙ ap (λ b. bytes_before b n (10 ∷ chars rest)) a ∙ second_is n (chars rest) in
    let one : length (encode_utf8 c) ≡ 1 = length-encode c ∙ ap len_utf8 h in
    omega arith

pub past_other : (at n c whole : ℕ) (bytes rest : List ℕ) (after : Bool) → IsUtf8 bytes → bytes ≡ encode_utf8 c ++ rest → (n ≡ 0 → ⊥)
    → (nat_eq c 10 && after) ≡ false → at + bytes_before after n (chars bytes) ≡ whole
    → at + length (encode_utf8 c) + bytes_before (nat_eq c 13) (n - 1) (chars rest) ≡ whole
past_other at zero c whole bytes rest after u e more k inv = absurd (more refl)
past_other at (suc n) c whole bytes rest after u e more k inv =
    let same : bytes_before after (suc n) (chars bytes) ≡ len_utf8 c + bytes_before (nat_eq c 13) n (chars rest) =
    ap (bytes_before after (suc n)) (chars_past_char bytes rest c u e)
    ∙ ap (λ b. cond b (1 + bytes_before false (suc n) (chars rest)) (len_utf8 c + bytes_before (nat_eq c 13) n (chars rest))) k in
    let long : length (encode_utf8 c) ≡ len_utf8 c = length-encode c in
    rw sub-one (omega arith)

pub at_place : (at n c whole : ℕ) (bytes rest : List ℕ) (after : Bool) → IsUtf8 bytes → bytes ≡ encode_utf8 c ++ rest → n ≡ 0
    → (nat_eq c 10 && after) ≡ false → at + bytes_before after n (chars bytes) ≡ whole → at ≡ whole
at_place at n c whole bytes rest after u e none k inv =
    let same : bytes_before after n (chars bytes) ≡ 0 =
    ap (λ (m : ℕ). bytes_before after m (chars bytes)) none ∙ ap (bytes_before after 0) (chars_past_char bytes rest c u e)
    ∙ ap (λ b. cond b (1 + bytes_before false 0 (chars rest)) 0) k in
    omega arith

pub at_length : (at n whole : ℕ) (bytes : List ℕ) (after : Bool) → length bytes ≡ 0 → at + bytes_before after n (chars bytes) ≡ whole → at ≡ whole
at_length at n whole bytes after h inv =
    let same : bytes_before after n (chars bytes) ≡ 0 = ap (bytes_before after n) (chars_none bytes h) ∙ nothing_before n after in
    omega arith
  where
    nothing_before : (n : ℕ) (after : Bool) → bytes_before after n [] ≡ 0
    nothing_before n after = refl

pub within_more : (at c whole : ℕ) (bytes rest : List ℕ) → bytes ≡ encode_utf8 c ++ rest → at + length bytes ≡ whole → at + length (encode_utf8 c) + length rest ≡ whole
within_more at c whole bytes rest e inv =
    let long : length bytes ≡ length (encode_utf8 c) + length rest = ap length e ∙ length-append (encode_utf8 c) rest in
    omega arith
