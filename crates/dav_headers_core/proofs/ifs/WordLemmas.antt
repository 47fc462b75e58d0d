-- A word is the longest front of word bytes.
use Rattle.std.proofs.Common.{◌≡◌, ◌≢◌, refl, sym, ap, ◌∙◌, ℕ, suc, Bool, true, false, not, ◌&&◌, cond, eqb, ltb, List, [], ◌∷◌, ◌++◌, length, take, drop, Option, None, Some, inl, inr}
use Rattle.std.specs.Prelude.{codes, is_none}
use Rattle.std.specs.Str.{is_utf8}
use Rattle.std.specs.List.{AllByRecursion}
use Rattle.std.proofs.lemmas.Bool.{eqb-true, and_parts, and_right, or_cases, not_from_true}
use Rattle.std.proofs.lemmas.List.{take_at, drop_at, take-append-drop}
use Rattle.std.proofs.lemmas.Str.{IsUtf8-from_is_utf8, is_utf8-from_IsUtf8}
use Rattle.dav_headers_core.specs.IfBytes.{is_special, is_word_byte, ends_word}
use Rattle.dav_headers_core.specs.CommaPieces.{is_blank}
use Rattle.dav_headers_core.specs.IfGrammar.{WordAt, EndsWord}
use Rattle.dav_headers_core.specs.Private.IfReading.{after_not, holds_colon, word_len, begins_ending, is_word, word_at}
use Rattle.dav_headers_core.proofs.lists.OptionalLemmas.{when_some}

-- ---- `Not`

pub not_sound : (bytes rest : List ℕ) → after_not bytes ≡ Some rest → bytes ≡ codes "Not" ++ rest
not_sound [] rest e = absurd cc
not_sound (a ∷ []) rest e = absurd cc
not_sound (a ∷ b ∷ []) rest e = absurd cc
not_sound (a ∷ b ∷ c ∷ more) rest e =
    let w = when_some (eqb a 78 && eqb b 111 && eqb c 116) more rest e in
    let p = and_parts (eqb a 78 && eqb b 111) (eqb c 116) w.0 in
    let q = and_parts (eqb a 78) (eqb b 111) p.0 in
    let x = eqb-true a 78 q.0 in
    let y = eqb-true b 111 q.1 in
    let z = eqb-true c 116 p.1 in
    let r = w.1 in
    rw (x, y, z, r) refl

pub not_complete : (bytes rest : List ℕ) → bytes ≡ codes "Not" ++ rest → after_not bytes ≡ Some rest
not_complete bytes rest e = ap after_not e

pub none_after : (bytes : List ℕ) → ((rest : List ℕ) → bytes ≢ codes "Not" ++ rest) → after_not bytes ≡ None
none_after bytes h = go (after_not bytes) refl
  where
    go : (o : Option (List ℕ)) → after_not bytes ≡ o → after_not bytes ≡ None
    go None e = e
    go (Some rest) e = absurd (h rest (not_sound bytes rest e))

-- ---- the bytes

front_passes : (bytes : List ℕ) → AllByRecursion (λ b. is_word_byte b ≡ true) (take (word_len bytes) bytes)
front_passes [] = tt
front_passes (b ∷ bytes) = go (is_word_byte b) refl (front_passes bytes)
  where
    go : (t : Bool) → is_word_byte b ≡ t → AllByRecursion (λ x. is_word_byte x ≡ true) (take (word_len bytes) bytes) → AllByRecursion (λ x. is_word_byte x ≡ true) (take (cond t (suc (word_len bytes)) 0) (b ∷ bytes))
    go true e h = (e, h)
    go false e h = tt

-- a byte that ends a word is none of its bytes
ending_byte : (b : ℕ) → ends_word b ≡ true → is_word_byte b ≡ false
ending_byte b e =
    elim (or_cases (is_blank b) (is_special b) e) [
      | inl blank ↦ elim (or_cases (eqb b 32) (eqb b 9) blank) [
        | inl space ↦ rw (eqb-true b 32 space) refl
        | inr tab ↦ rw (eqb-true b 9 tab) refl
      ]
      | inr special ↦ and_right (ltb 32 b) (not (is_special b)) (not_from_true (is_special b) special)
    ]

ending_len : (rest : List ℕ) → EndsWord rest → word_len rest ≡ 0
ending_len [] h = absurd h
ending_len (b ∷ rest) h = rw (ending_byte b h) refl

word_len_is : (text rest : List ℕ) → AllByRecursion (λ b. is_word_byte b ≡ true) text → EndsWord rest → word_len (text ++ rest) ≡ length text
word_len_is [] rest each h = ending_len rest h
word_len_is (b ∷ text) rest each h = rw each.0 (ap suc (word_len_is text rest each.1 h))

ending_from : (rest : List ℕ) → begins_ending rest ≡ true → EndsWord rest
ending_from [] e = absurd cc
ending_from (b ∷ rest) e = e

ending_to : (rest : List ℕ) → EndsWord rest → begins_ending rest ≡ true
ending_to [] h = absurd h
ending_to (b ∷ rest) h = h

is_none_from : {A : Type 0} (o : Option A) → is_none o ≡ true → o ≡ None
is_none_from None e = refl
is_none_from (Some x) e = absurd cc

-- ---- the word

found_word : (text rest : List ℕ) → is_word text rest ≡ true → (is_utf8 text ≡ true) × (holds_colon text ≡ true) × (after_not text ≡ None) × (begins_ending rest ≡ true)
found_word text rest e =
    let p = and_parts (is_utf8 text && holds_colon text && is_none (after_not text)) (begins_ending rest) e in
    let q = and_parts (is_utf8 text && holds_colon text) (is_none (after_not text)) p.0 in
    let r = and_parts (is_utf8 text) (holds_colon text) q.0 in
    (r.0, r.1, is_none_from (after_not text) q.1, p.1)

pub word_sound : (bytes text rest : List ℕ) → word_at bytes ≡ Some (text, rest) → WordAt bytes text rest
word_sound bytes text rest e =
    let len = word_len bytes in
    let w = when_some (is_word (take len bytes) (drop len bytes)) (take len bytes, drop len bytes) (text, rest) e in
    let f = found_word (take len bytes) (drop len bytes) w.0 in
    let text-is : take len bytes ≡ text = ap (λ (x : List ℕ × List ℕ). x.0) w.1 in
    let rest-is : drop len bytes ≡ rest = ap (λ (x : List ℕ × List ℕ). x.1) w.1 in
    rw (← text-is, ← rest-is) record {
      parts = sym (take-append-drop len bytes);
      each = front_passes bytes;
      utf8 = IsUtf8-from_is_utf8 (take len bytes) f.0;
      colon = f.1;
      no_not = λ more same. let found : after_not (take len bytes) ≡ Some more = not_complete (take len bytes) more same in let none = f.2 in cc;
      ends = ending_from (drop len bytes) f.3;
    }

pub word_complete : (bytes text rest : List ℕ) → WordAt bytes text rest → word_at bytes ≡ Some (text, rest)
word_complete bytes text rest h =
    let len : word_len bytes ≡ length text = ap word_len h.parts ∙ word_len_is text rest h.each h.ends in
    let t : take (word_len bytes) bytes ≡ text = rw (len, h.parts) (take_at text rest (length text) refl) in
    let d : drop (word_len bytes) bytes ≡ rest = rw (len, h.parts) (drop_at text rest (length text) refl) in
    let none = none_after text h.no_not in
    rw (t, d, is_utf8-from_IsUtf8 text h.utf8, h.colon, none, ending_to rest h.ends) refl
