-- The bytes of an escaped text are those of its escaped characters, and they are read as these.
use Rattle.std.proofs.Common.{◌≡◌, refl, sym, ap, ◌∙◌, ℕ, suc, ◌<◌, ◌≤◌, arith, Bool, true, false, ◌&&◌, not, cond, List, [], ◌∷◌, ◌++◌, length, get_or, inl, inr, Some, append-nil, ne_eqb}
use Rattle.std.specs.Prelude.{codes, flat_map, ◌==◌, encode_utf8_all}
use Rattle.std.specs.Char.{encode_utf8}
use Rattle.std.specs.List.{list_all}
use Rattle.std.proofs.lemmas.Bool.{and_parts, cases_lt, false≢true}
use Rattle.std.proofs.lemmas.Bool.Decides.{nat_tests}
use Rattle.std.proofs.lemmas.Grind.{flat_map-append}
use Rattle.std.proofs.lemmas.List.Folds.{list_all-append}
use Rattle.std.proofs.lemmas.Str.{chars-encodes, encode_ascii, inside_one, encodes-append, is_utf8-from_IsUtf8}
use lib.Utf8.{scalar, scalars}
use Rattle.dav_xml_core.specs.Characters.{is_char, lines_from, characters}
use Rattle.dav_xml_core.specs.Writing.{escaped_character}

-- ---- bytes and characters

plain_true : (c : ℕ) → (c == 38) ≡ false → (c == 60) ≡ false → (c == 62) ≡ false → (c == 13) ≡ false → (c == 34) ≡ false → (c == 9) ≡ false → (c == 10) ≡ false
    → escaped_character true c ≡ c ∷ []
plain_true c a b d e f g h = rw (a, b, d, e, f, g, h) refl

plain_false : (c : ℕ) → (c == 38) ≡ false → (c == 60) ≡ false → (c == 62) ≡ false → (c == 13) ≡ false → escaped_character false c ≡ c ∷ []
plain_false c a b d e = rw (a, b, d, e) refl

high_plain : (v : Bool) (c : ℕ) → 128 ≤ c → escaped_character v c ≡ c ∷ []
high_plain true c h =
    plain_true c (ne_eqb c 38 (λ e. omega arith)) (ne_eqb c 60 (λ e. omega arith)) (ne_eqb c 62 (λ e. omega arith)) (ne_eqb c 13 (λ e. omega arith))
    (ne_eqb c 34 (λ e. omega arith)) (ne_eqb c 9 (λ e. omega arith)) (ne_eqb c 10 (λ e. omega arith))
high_plain false c h =
    plain_false c (ne_eqb c 38 (λ e. omega arith)) (ne_eqb c 60 (λ e. omega arith)) (ne_eqb c 62 (λ e. omega arith)) (ne_eqb c 13 (λ e. omega arith))

all_high : (v : Bool) (xs : List ℕ) → ((k : ℕ) → k < length xs → 128 ≤ get_or xs k 0) → flat_map (escaped_character v) xs ≡ xs
all_high v [] h = refl
all_high v (x ∷ xs) h =
    ap (λ (l : List ℕ). l ++ flat_map (escaped_character v) xs) (high_plain v x (h 0 (omega arith)))
    ∙ ap (λ (l : List ℕ). x ∷ l) (all_high v xs (λ k below. h (suc k) (omega arith)))

-- texts of ASCII are their own bytes
IsSame : List ℕ → Type 0
IsSame text = encode_utf8_all text ≡ text

same : (b : Bool) (first second : List ℕ) → IsSame first → IsSame second → IsSame (cond b first second)
same true first second f s = f
same false first second f s = s

amp : IsSame (codes "&amp;")
unfolding IsSame encode_utf8
amp = refl

lt : IsSame (codes "&lt;")
unfolding IsSame encode_utf8
lt = refl

gt : IsSame (codes "&gt;")
unfolding IsSame encode_utf8
gt = refl

return : IsSame (codes "&#13;")
unfolding IsSame encode_utf8
return = refl

quot : IsSame (codes "&quot;")
unfolding IsSame encode_utf8
quot = refl

tab : IsSame (codes "&#9;")
unfolding IsSame encode_utf8
tab = refl

line : IsSame (codes "&#10;")
unfolding IsSame encode_utf8
line = refl

low : (c : ℕ) → c < 128 → IsSame (c ∷ [])
unfolding IsSame
low c h = append-nil _ ∙ encode_ascii c h

low_one : (v : Bool) (c : ℕ) → c < 128 → IsSame (escaped_character v c)
low_one v c h =
    same _ _ _ amp (same _ _ _ lt (same _ _ _ gt (same _ _ _ return (same _ _ _ quot (same _ _ _ tab (same _ _ _ line (low c h)))))))

one_char : (v : Bool) (c : ℕ) → flat_map (escaped_character v) (encode_utf8 c) ≡ encode_utf8_all (escaped_character v c)
unfolding IsSame
one_char v c = elim (cases_lt c 128) [
  | inl small ↦ ap (flat_map (escaped_character v)) (encode_ascii c small) ∙ append-nil (escaped_character v c) ∙ sym (low_one v c small)
  | inr big ↦
      let high : (k : ℕ) → k < length (encode_utf8 c) → 128 ≤ get_or (encode_utf8 c) k 0 = λ k below. elim (cases_lt (get_or (encode_utf8 c) k 0) 128) [
        | inl less ↦ absurd (omega (arith, inside_one c [] (encode_utf8 c) k (sym (append-nil _)) below less))
        | inr h ↦ h
      ] in
      all_high v (encode_utf8 c) high ∙ sym (append-nil _) ∙ sym (ap encode_utf8_all (high_plain v c big))
]

-- the bytes of an escaped text are those of its escaped characters
pub escaped_bytes : (v : Bool) (text : List ℕ) → flat_map (escaped_character v) (encode_utf8_all text) ≡ encode_utf8_all (flat_map (escaped_character v) text)
escaped_bytes v [] = refl
escaped_bytes v (c ∷ text) =
    flat_map-append (escaped_character v) (encode_utf8 c) (encode_utf8_all text)
    ∙ ap (λ (l : List ℕ). l ++ flat_map (escaped_character v) (encode_utf8_all text)) (one_char v c)
    ∙ ap (λ (l : List ℕ). encode_utf8_all (escaped_character v c) ++ l) (escaped_bytes v text)
    ∙ sym (encodes-append (escaped_character v c) (flat_map (escaped_character v) text))

-- ---- characters that are read as they are

-- a Char that ends no line by itself
abbrev pub is_kept : ℕ → Bool
is_kept c = is_char c && not (c == 13)

is_scalar : (c : ℕ) → is_char c ≡ true → scalar c ≡ true
is_scalar c h = grind (arith, nat_tests)

pub all_scalars : (text : List ℕ) → list_all is_kept text ≡ true → scalars text ≡ true
all_scalars [] h = refl
all_scalars (c ∷ text) h =
    let p = and_parts _ _ h in
    let q = and_parts (is_char c) (not (c == 13)) p.0 in
    rw (is_scalar c q.0, all_scalars text p.1) refl

pub all_chars : (text : List ℕ) → list_all is_kept text ≡ true → list_all is_char text ≡ true
all_chars [] h = refl
all_chars (c ∷ text) h =
    let p = and_parts _ _ h in
    let q = and_parts (is_char c) (not (c == 13)) p.0 in
    rw (q.0, all_chars text p.1) refl

not_return : (b : Bool) → not b ≡ true → b ≡ false
not_return true h = sym h
not_return false h = refl

same_lines : (text : List ℕ) → list_all is_kept text ≡ true → lines_from false text ≡ text
same_lines [] h = refl
same_lines (c ∷ text) h =
    let p = and_parts _ _ h in
    let q = and_parts (is_char c) (not (c == 13)) p.0 in
    go (c == 13) (c == 10) (not_return _ q.1) ∙ ap (λ (l : List ℕ). c ∷ l) (same_lines text p.1)
  where
    go : (b d : Bool) → b ≡ false
        → cond b (10 ∷ lines_from true text) (cond (d && false) (lines_from false text) (c ∷ lines_from false text)) ≡ c ∷ lines_from false text
    go true d e = absurd (false≢true (sym e))
    go false true e = refl
    go false false e = refl

-- the bytes of such characters are read as them
pub characters_again : (text : List ℕ) → list_all is_kept text ≡ true → characters (encode_utf8_all text) ≡ Some text
characters_again text h =
    let s = all_scalars text h in
    rw (is_utf8-from_IsUtf8 (encode_utf8_all text) (text, (s, refl)), chars-encodes text s, all_chars text h, same_lines text h) refl

-- ---- escaped characters are such

IsKept : List ℕ → Type 0
IsKept text = list_all is_kept text ≡ true

kept : (b : Bool) (first second : List ℕ) → IsKept first → IsKept second → IsKept (cond b first second)
kept true first second f s = f
kept false first second f s = s

kept_by : (b : Bool) (first second : List ℕ) → IsKept first → (b ≡ false → IsKept second) → IsKept (cond b first second)
kept_by true first second f s = f
kept_by false first second f s = s refl

amp_kept : IsKept (codes "&amp;")
unfolding IsKept
amp_kept = refl

lt_kept : IsKept (codes "&lt;")
unfolding IsKept
lt_kept = refl

gt_kept : IsKept (codes "&gt;")
unfolding IsKept
gt_kept = refl

return_kept : IsKept (codes "&#13;")
unfolding IsKept
return_kept = refl

quot_kept : IsKept (codes "&quot;")
unfolding IsKept
quot_kept = refl

tab_kept : IsKept (codes "&#9;")
unfolding IsKept
tab_kept = refl

line_kept : IsKept (codes "&#10;")
unfolding IsKept
line_kept = refl

char_kept : (c : ℕ) → is_char c ≡ true → (c == 13) ≡ false → IsKept (c ∷ [])
unfolding IsKept
char_kept c h e = rw (h, e) refl

one_kept : (v : Bool) (c : ℕ) → is_char c ≡ true → IsKept (escaped_character v c)
one_kept v c h =
    kept _ _ _ amp_kept (kept _ _ _ lt_kept (kept _ _ _ gt_kept (kept_by (c == 13) _ _ return_kept (λ e. kept _ _ _ quot_kept (
    kept _ _ _ tab_kept (kept _ _ _ line_kept (char_kept c h e)))))))

pub escaped_kept : (v : Bool) (text : List ℕ) → list_all is_char text ≡ true → list_all is_kept (flat_map (escaped_character v) text) ≡ true
unfolding IsKept
escaped_kept v [] h = refl
escaped_kept v (c ∷ text) h =
    let p = and_parts _ _ h in
    list_all-append is_kept (escaped_character v c) (flat_map (escaped_character v) text) ∙ rw (one_kept v c p.0, escaped_kept v text p.1) refl

-- the bytes that are written for the characters of a text are read as its escaped characters
pub escaped_characters : (v : Bool) (text : List ℕ) → list_all is_char text ≡ true
    → characters (flat_map (escaped_character v) (encode_utf8_all text)) ≡ Some (flat_map (escaped_character v) text)
escaped_characters v text h = ap characters (escaped_bytes v text) ∙ characters_again (flat_map (escaped_character v) text) (escaped_kept v text h)
