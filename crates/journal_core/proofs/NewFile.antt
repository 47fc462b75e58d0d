-- What a crash leaves in each step in which a new file is made.
use Rattle.std.proofs.Common.{◌≡◌, inl, inr, ℕ, ◌<◌, ◌≤◌, List, [], ◌∷◌, ◌++◌, length, take, drop, slice_index, refl, sym, ◌∙◌, ap, subst, arith, length-append}
use Rattle.std.proofs.lemmas.Bool.{cases_eq}
use Rattle.std.proofs.lemmas.List.{append-nil, drop_more, length-drop, nil_from_length}
use Rattle.sqlite_disk.specs.Disk.{Holds, Torn, Only}
use Rattle.journal_core.specs.declared.header.Header.{Header}
use Rattle.journal_core.specs.Format.{IsNewFile, IsOf64Bits, Lies, StandsFor, header_text, shut_word}
use Rattle.journal_core.specs.Private.Stages.{HasZeroFirst, IsMade}
use Rattle.journal_core.proofs.Headers.{header_len}
use Rattle.journal_core.proofs.Rounds.{front_none}
use Rattle.journal_core.proofs.Writes.{written, over, over_done}

pub new_stands : (h : Header) (c : List ℕ) → IsNewFile c → StandsFor h c []
new_stands h c new = inl (new, refl)

-- the first byte is written
pub first_new : (old c : List ℕ) → length old ≤ 1 → Torn 0 1 old c → IsNewFile c
first_new old c few torn = inl (omega (arith, few, torn.no_longer))

pub first_zero : (old c : List ℕ) → length old ≤ 1 → Torn 0 1 old c → Holds c 0 (0 ∷ []) → HasZeroFirst c
first_zero old c few torn holds = record { some = omega (arith, holds.within); zero = holds.each 0 (omega arith); short = omega (arith, few, torn.no_longer) }

pub new_zero : (c : List ℕ) → 1 < length c → IsNewFile c → HasZeroFirst c
new_zero c many new = elim new [
  | inl few ↦ absurd (omega (arith, few, many))
  | inr zero ↦ record { some = omega (arith, many); zero = zero.0; short = zero.1 }
]

single : (w : List ℕ) → length w ≡ 1 → w ≡ slice_index w 0 ∷ []
single [] one = absurd (omega (arith, one))
single (x ∷ []) one = refl
single (x ∷ y ∷ w) one = absurd (omega (arith, one))

module _ (h : Header) (fits : IsOf64Bits h) (text : List ℕ) (text_is : text ≡ header_text h ++ shut_word) where
  text_len : length text ≡ 63
  text_len = omega (arith, ap length text_is, length-append (header_text h) shut_word, header_len h)

  -- the header is written behind it
  pub header_new : (old c : List ℕ) → HasZeroFirst old → Torn 1 (length text) old c → IsNewFile c
  header_new old c it torn = inr (torn.below 0 it.some (omega arith) ∙ it.zero, omega (arith, it.short, torn.no_longer, text_len))

  pub header_made : (old c : List ℕ) → HasZeroFirst old → Torn 1 (length text) old c → Holds c 1 text → c ≡ 0 ∷ text
  header_made old c it torn holds =
      let old_is : old ≡ (0 ∷ []) ++ drop 1 old = drop_more old 0 0 it.some ∙ ap (λ k. k ∷ drop 1 old) it.zero in
      let there = written (0 ∷ []) (drop 1 old) text c (subst (λ (f : List ℕ). Torn 1 (length text) f c) old_is torn) holds in
      let end : drop (length text) (drop 1 c) ≡ [] = nil_from_length (drop (length text) (drop 1 c)) (omega (arith, length-drop (length text) (drop 1 c), length-drop 1 c, it.short, torn.no_longer, text_len)) in
      there ∙ ap (λ (l : List ℕ). (0 ∷ []) ++ (text ++ l)) end ∙ append-nil (0 ∷ text)

  lies_made : (first : ℕ) (c : List ℕ) → (first ≡ 0 → ⊥) → c ≡ first ∷ text → Lies h c []
  lies_made first c other is = record {
    first = first;
    behind = [];
    made = other;
    fits = fits;
    split = is ∙ ap (λ (l : List ℕ). first ∷ l) text_is ∙ sym (front_none first h shut_word);
    gates = tt;
  }

  -- the first byte is written, whatever it is
  made_stands : (first : ℕ) (c : List ℕ) → c ≡ first ∷ text → StandsFor h c []
  made_stands first c is = elim (cases_eq first 0) [
    | inl zero ↦ inl (inr (ap (λ (l : List ℕ). slice_index l 0) is ∙ zero, omega (arith, ap length is, text_len)), refl)
    | inr other ↦ inr ([], lies_made first c other is, refl)
  ]

  pub last_stands : (mid c : List ℕ) → mid ≡ 0 ∷ text → Torn 0 1 mid c → StandsFor h c []
  last_stands mid c is torn =
      let torn' : Torn 0 1 (0 ∷ text) c = subst (λ (f : List ℕ). Torn 0 1 f c) is torn in
      let both = over [] (0 ∷ []) text c torn' in
      let word = take 1 c in
      made_stands (slice_index word 0) c (both.1 ∙ ap (λ (w : List ℕ). w ++ text) (single word both.0))

  pub last_made : {D : Type 0} (seen : D → List ℕ) (may_leave : D → List ℕ → Type 0) (disk : D) (mid : List ℕ) → mid ≡ 0 ∷ text → Torn 0 1 mid (seen disk) → Holds (seen disk) 0 (74 ∷ []) → Only (seen disk) (may_leave disk)
      → IsMade seen may_leave h disk
  last_made seen may_leave disk mid is torn holds only =
      let torn' : Torn 0 1 (0 ∷ text) (seen disk) = subst (λ (f : List ℕ). Torn 0 1 f (seen disk)) is torn in
      let there : seen disk ≡ 74 ∷ text = over_done [] (0 ∷ []) text (74 ∷ []) (seen disk) refl torn' holds in
      record { lies = lies_made 74 (seen disk) (λ zero. omega (arith, zero)) there; durable = only }
