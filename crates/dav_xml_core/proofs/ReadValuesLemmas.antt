-- What is read between quotes or between tags are characters that a document may hold.
use Rattle.std.proofs.Common.{◌≡◌, refl, sym, ap, subst, ◌∙◌, ℕ, suc, ◌≤◌, arith, Bool, true, false, ◌&&◌, not, cond, List, [], ◌∷◌, length, map, Option, None, Some}
use Rattle.std.specs.Prelude.{◌==◌, is_none, codes}
use Rattle.std.specs.List.{list_all, list_any}
use Rattle.std.specs.Prelude.{chars}
use Rattle.std.specs.Str.{is_utf8}
use Rattle.std.proofs.lemmas.Bool.{and_parts}
use Rattle.std.proofs.lemmas.Option.{none-some, same_Some}
use Rattle.std.proofs.lemmas.Str.{IsUtf8-from_is_utf8, chars-encodes, length-le-encodes}
use Rattle.dav_xml_core.specs.Characters.{is_char, is_white, lines_from, characters}
use Rattle.dav_xml_core.specs.Optional.{◌>>=◌, when}
use Rattle.dav_xml_core.specs.Reading.{content_of}
use Rattle.dav_xml_core.specs.References.{named_entity, digits_of, referenced_character, expanded_at, expanded_text, as_blank, value_of}
use Rattle.dav_xml_core.specs.Scanning.{until}
use Rattle.dav_xml_core.specs.Sequences.{many, sequence, at_end}
use Rattle.dav_xml_core.proofs.EachLemmas.{Each}
use Rattle.dav_xml_core.proofs.ElementLemmas.{bind_some, when_some}
use Rattle.dav_xml_core.proofs.ProductionLemmas.{Fine, many_found, first_passes, others_pass, searched}

abbrev AllChars : List ℕ → Type 0
AllChars text = list_all is_char text ≡ true

-- ---- references

chosen : (b : Bool) (k r : ℕ) (other : Option ℕ) → is_char k ≡ true → (other ≡ Some r → is_char r ≡ true) → cond b (Some k) other ≡ Some r → is_char r ≡ true
chosen true k r other is more h = subst (λ (c : ℕ). is_char c ≡ true) (same_Some k r h) is
chosen false k r other is more h = more h

named_char : (name : List ℕ) (r : ℕ) → named_entity name ≡ Some r → is_char r ≡ true
named_char name r h =
    chosen _ 60 r _ refl (chosen _ 62 r _ refl (chosen _ 38 r _ refl (chosen _ 39 r _ refl (chosen _ 34 r _ refl (λ (e : none ≡ Some r). absurd (none-some r e)))))) h
  where
    none : Option ℕ
    none = None

referenced_char : (name : List ℕ) (r : ℕ) → referenced_character name ≡ Some r → is_char r ≡ true
unfolding referenced_character
referenced_char [] r h = absurd (none-some r h)
referenced_char (c ∷ name) r h = go (c == 35) h
  where
    go : (b : Bool) → cond b (digits_of name >>= λ n. when (is_char n) n) (named_entity (c ∷ name)) ≡ Some r → is_char r ≡ true
    go true e =
        let a = bind_some (digits_of name) _ r e in
        let w = when_some (is_char a.0) a.0 r a.2 in
        subst (λ (x : ℕ). is_char x ≡ true) w.1 w.0
    go false e = named_char (c ∷ name) r e

module _ (n : ℕ) where
  abbrev CharAt : ℕ × List ℕ → Type 0
  CharAt found = (is_char found.0 ≡ true) × Fine is_char n found.1

  expanded_char : (text : List ℕ) (found : ℕ × List ℕ) → Fine is_char n text → expanded_at text ≡ Some found → CharAt found
  unfolding expanded_at
  expanded_char [] found f h = absurd (none-some found h)
  expanded_char (c ∷ text) found f h = go (c == 38) h
    where
      go : (b : Bool) → cond b (until (59 ∷ []) text >>= λ name. referenced_character name.0 >>= λ r. Some (r, name.1)) (Some (c, text)) ≡ Some found → CharAt found
      go true e =
          let a = bind_some (until (59 ∷ []) text) _ found e in
          let cut = searched is_char n (59 ∷ []) text a.0 (others_pass is_char n c text f) a.1 in
          let b = bind_some (referenced_character a.0.0) _ found a.2 in
          subst CharAt (same_Some (b.0, a.0.1) found b.2) (referenced_char a.0.0 b.0 b.1, cut.1)
      go false e = subst CharAt (same_Some (c, text) found e) (first_passes is_char n c text f, others_pass is_char n c text f)

from_each : (text : List ℕ) → Each (λ (c : ℕ). is_char c ≡ true) text → AllChars text
from_each [] h = refl
from_each (c ∷ text) h = rw (h.0, from_each text h.1) refl

expanded_chars : (text result : List ℕ) → AllChars text → expanded_text text ≡ Some result → AllChars result
unfolding sequence
expanded_chars text result all h =
    let n = length text in
    let a = bind_some (many at_end expanded_at (suc n) text) _ result h in
    let found = many_found at_end expanded_at (Fine is_char n) (λ (x : List ℕ). Unit {0}) (λ (c : ℕ). is_char c ≡ true) (λ t e f i. tt) (expanded_char n) (suc n) text a.0
    (record { chars = all; short = omega arith }) a.1 in
    subst AllChars (same_Some a.0.0 result a.2) (from_each a.0.0 found.0)

-- ---- values and texts

blank_chars : (raw : List ℕ) → AllChars raw → AllChars (map as_blank raw)
blank_chars [] h = refl
blank_chars (c ∷ raw) h =
    let p = and_parts (is_char c) (list_all is_char raw) h in
    rw (go (is_white c) p.0, blank_chars raw p.1) refl
  where
    go : (b : Bool) → is_char c ≡ true → is_char (cond b 32 c) ≡ true
    go true e = refl
    go false e = e

pub value_chars : (raw value : List ℕ) → AllChars raw → value_of raw ≡ Some value → AllChars value
value_chars raw value all h =
    let a = bind_some (when (not (list_any (λ c. c == 60) raw)) (map as_blank raw)) expanded_text value h in
    let w = when_some (not (list_any (λ c. c == 60) raw)) (map as_blank raw) a.0 a.1 in
    expanded_chars a.0 value (subst AllChars w.1 (blank_chars raw all)) a.2

pub content_chars : (raw text : List ℕ) → AllChars raw → content_of raw ≡ Some text → AllChars text
unfolding content_of
content_chars raw text all h =
    let a = bind_some (when (is_none (until (codes "]]>") raw)) raw) expanded_text text h in
    let w = when_some (is_none (until (codes "]]>") raw)) raw a.0 a.1 in
    expanded_chars a.0 text (subst AllChars w.1 all) a.2

-- ---- the characters of bytes

line_chars : (n : ℕ) (after_return : Bool) (text : List ℕ) → Fine is_char n text → Fine is_char n (lines_from after_return text)
line_chars n after_return text f = record { chars = all after_return text f.chars; short = omega (arith, f.short, short after_return text) }
  where
    all : (b : Bool) (t : List ℕ) → AllChars t → AllChars (lines_from b t)
    all b [] h = refl
    all b (c ∷ t) h =
        let p = and_parts (is_char c) (list_all is_char t) h in
        go (c == 13) (c == 10 && b) (all true t p.1) (all false t p.1) p.0
      where
        go : (d e : Bool) → AllChars (lines_from true t) → AllChars (lines_from false t) → is_char c ≡ true
            → AllChars (cond d (10 ∷ lines_from true t) (cond e (lines_from false t) (c ∷ lines_from false t)))
        go true e i j k = i
        go false true i j k = j
        go false false i j k = rw (k, j) refl

    short : (b : Bool) (t : List ℕ) → length (lines_from b t) ≤ length t
    short b [] = omega arith
    short b (c ∷ t) = go (c == 13) (c == 10 && b) (short true t) (short false t)
      where
        go : (d e : Bool) → length (lines_from true t) ≤ length t → length (lines_from false t) ≤ length t
            → length (cond d (10 ∷ lines_from true t) (cond e (lines_from false t) (c ∷ lines_from false t))) ≤ suc (length t)
        go true e i j = omega (arith, i)
        go false true i j = omega (arith, j)
        go false false i j = omega (arith, j)

-- there are no more characters than bytes
pub characters_read : (n : ℕ) (bytes text : List ℕ) → length bytes ≤ n → characters bytes ≡ Some text → Fine is_char n text
characters_read n bytes text short h =
    let w = when_some (is_utf8 bytes && list_all is_char (chars bytes)) (lines_from false (chars bytes)) text h in
    let p = and_parts (is_utf8 bytes) (list_all is_char (chars bytes)) w.0 in
    let u = IsUtf8-from_is_utf8 bytes p.0 in
    let is : chars bytes ≡ u.0 = ap chars (sym u.1.1) ∙ chars-encodes u.0 u.1.0 in
    let few : length (chars bytes) ≤ n = omega (arith, ap length is, length-le-encodes u.0, ap length u.1.1, short) in
    subst (Fine is_char n) w.1 (line_chars n false (chars bytes) (record { chars = p.1; short = few }))
