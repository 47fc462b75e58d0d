-- Bytes that are read as they are, with others around them.
use Rattle.std.proofs.Common.{◌≡◌, refl, sym, ap, ◌∙◌, ℕ, Bool, true, false, ◌&&◌, not, cond, List, [], ◌∷◌, ◌++◌, Option, Some, append_assoc}
use Rattle.std.specs.Prelude.{◌==◌, chars, encode_utf8_all}
use Rattle.std.specs.List.{list_all}
use Rattle.std.specs.Str.{is_utf8}
use Rattle.std.proofs.lemmas.Bool.{and_parts, false≢true}
use Rattle.std.proofs.lemmas.List.Folds.{list_all-append}
use Rattle.std.proofs.lemmas.Str.{chars-encodes, encodes-append, IsUtf8-from_is_utf8, is_utf8-from_IsUtf8}
use lib.Utf8.{scalar, scalars}
use Rattle.dav_xml_core.specs.Characters.{is_char, lines_from, characters}
use Rattle.dav_xml_core.proofs.BindingLemmas.{not_true}
use Rattle.dav_xml_core.proofs.BytesLemmas.{is_kept, all_scalars, all_chars}
use Rattle.dav_xml_core.proofs.ElementLemmas.{when_some}

scalars_append : (front rest : List ℕ) → scalars front ≡ true → scalars rest ≡ true → scalars (front ++ rest) ≡ true
scalars_append [] rest h i = i
scalars_append (c ∷ front) rest h i = let p = and_parts (scalar c) (scalars front) h in rw (p.0, scalars_append front rest p.1 i) refl

-- lines up to a tag
lines_before : (front : List ℕ) (after_return : Bool) (rest : List ℕ) → lines_from after_return (front ++ 60 ∷ rest) ≡ lines_from after_return front ++ 60 ∷ lines_from false rest
lines_before [] after_return rest = refl
lines_before (c ∷ front) after_return rest = go (c == 13) (c == 10 && after_return) (lines_before front true rest) (lines_before front false rest)
  where
    go : (a b : Bool) → lines_from true (front ++ 60 ∷ rest) ≡ lines_from true front ++ 60 ∷ lines_from false rest
        → lines_from false (front ++ 60 ∷ rest) ≡ lines_from false front ++ 60 ∷ lines_from false rest
        → cond a (10 ∷ lines_from true (front ++ 60 ∷ rest)) (cond b (lines_from false (front ++ 60 ∷ rest)) (c ∷ lines_from false (front ++ 60 ∷ rest)))
        ≡ cond a (10 ∷ lines_from true front) (cond b (lines_from false front) (c ∷ lines_from false front)) ++ 60 ∷ lines_from false rest
    go true b i j = ap (λ (l : List ℕ). 10 ∷ l) i
    go false true i j = j
    go false false i j = ap (λ (l : List ℕ). c ∷ l) j

lines_behind : (text rest : List ℕ) → list_all is_kept text ≡ true → lines_from false (text ++ rest) ≡ text ++ lines_from false rest
lines_behind [] rest h = refl
lines_behind (c ∷ text) rest h =
    let p = and_parts (is_kept c) (list_all is_kept text) h in
    let q = and_parts (is_char c) (not (c == 13)) p.0 in
    go (c == 13) (c == 10) (not_true (c == 13) q.1) ∙ ap (λ (l : List ℕ). c ∷ l) (lines_behind text rest p.1)
  where
    go : (a b : Bool) → a ≡ false
        → cond a (10 ∷ lines_from true (text ++ rest)) (cond (b && false) (lines_from false (text ++ rest)) (c ∷ lines_from false (text ++ rest))) ≡ c ∷ lines_from false (text ++ rest)
    go true b e = absurd (false≢true (sym e))
    go false true e = refl
    go false false e = refl

-- the characters of bytes, before their lines end alike
record Holds (bytes text : List ℕ) : Type 0 where
  codes : List ℕ
  bytes_are : encode_utf8_all codes ≡ bytes
  scalar_all : scalars codes ≡ true
  char_all : list_all is_char codes ≡ true
  lines : lines_from false codes ≡ text

held : (bytes text : List ℕ) → characters bytes ≡ Some text → Holds bytes text
held bytes text h =
    let w = when_some (is_utf8 bytes && list_all is_char (chars bytes)) (lines_from false (chars bytes)) text h in
    let p = and_parts (is_utf8 bytes) (list_all is_char (chars bytes)) w.0 in
    let u = IsUtf8-from_is_utf8 bytes p.0 in
    let is : chars bytes ≡ u.0 = ap chars (sym u.1.1) ∙ chars-encodes u.0 u.1.0 in
    record { codes = u.0; bytes_are = u.1.1; scalar_all = u.1.0; char_all = ap (list_all is_char) (sym is) ∙ p.1; lines = ap (lines_from false) (sym is) ∙ w.1 }

characters_of : (codes : List ℕ) → scalars codes ≡ true → list_all is_char codes ≡ true → characters (encode_utf8_all codes) ≡ Some (lines_from false codes)
characters_of codes s h = rw (is_utf8-from_IsUtf8 (encode_utf8_all codes) (codes, (s, refl)), chars-encodes codes s, h) refl

some : List ℕ → Option (List ℕ)
some text = Some text

-- bytes of a text that begins with a tag are read as they are between any others
pub characters_around : (before behind front rest text after : List ℕ) → text ≡ 60 ∷ after → list_all is_kept text ≡ true → characters before ≡ Some front → characters behind ≡ Some rest
    → characters (before ++ encode_utf8_all text ++ behind) ≡ Some (front ++ text ++ rest)
unfolding some
characters_around before behind front rest text after e kept i j =
    let f = held before front i in
    let r = held behind rest j in
    let all = f.codes ++ text ++ r.codes in
    let later : list_all is_kept after ≡ true = ap (list_all is_kept) (sym e) ∙ kept in
    let bytes : encode_utf8_all all ≡ before ++ encode_utf8_all text ++ behind =
    encodes-append (f.codes ++ text) r.codes ∙ ap (λ (b : List ℕ). b ++ encode_utf8_all r.codes) (encodes-append f.codes text)
    ∙ ap (λ (b : List ℕ). b ++ encode_utf8_all text ++ encode_utf8_all r.codes) f.bytes_are ∙ ap (λ (b : List ℕ). before ++ encode_utf8_all text ++ b) r.bytes_are in
    let chars_all : list_all is_char all ≡ true =
    list_all-append is_char (f.codes ++ text) r.codes ∙ ap (λ b. b && list_all is_char r.codes) (list_all-append is_char f.codes text) ∙ rw (f.char_all, all_chars text kept, r.char_all) refl in
    let lines : lines_from false all ≡ front ++ text ++ rest =
    ap (λ (t : List ℕ). lines_from false (f.codes ++ t ++ r.codes)) e ∙ ap (lines_from false) (append_assoc f.codes (60 ∷ after) r.codes)
    ∙ lines_before f.codes false (after ++ r.codes) ∙ ap (λ (l : List ℕ). lines_from false f.codes ++ 60 ∷ l) (lines_behind after r.codes later)
    ∙ ap (λ (l : List ℕ). l ++ 60 ∷ (after ++ lines_from false r.codes)) f.lines ∙ ap (λ (l : List ℕ). front ++ 60 ∷ (after ++ l)) r.lines
    ∙ sym (append_assoc front (60 ∷ after) rest) ∙ ap (λ (t : List ℕ). front ++ t ++ rest) (sym e) in
    ap characters (sym bytes) ∙ characters_of all (scalars_append (f.codes ++ text) r.codes (scalars_append f.codes text f.scalar_all (all_scalars text kept)) r.scalar_all) chars_all ∙ ap some lines
