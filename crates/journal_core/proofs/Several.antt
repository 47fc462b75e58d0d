-- Rounds that are appended at once.
use Rattle.std.proofs.Common.{◌≡◌, ◌≢◌, inl, inr, ℕ, ◌+◌, ◌<◌, ◌^◌, List, [], ◌∷◌, ◌++◌, length, slice_index, sym, refl, ◌∙◌, ap, subst, arith, append_assoc, length-append}
use Rattle.std.proofs.lemmas.List.{append-nil, nil_from_length}
use Rattle.journal_core.specs.Format.{Laid, IsOpen, open_word, records_in, records_text, round_text, rounds_text, shut_word, size_of}
use Rattle.journal_core.specs.declared.batch.Batch.{Batch}
use Rattle.journal_core.specs.declared.journal.Journal.{Journal}
use Rattle.journal_core.specs.Batches.{FitsBehind, Gathers, IsNextGate, place_for}
use Rattle.journal_core.specs.SeveralRounds.{AreRoundsBehind}
use Rattle.journal_core.specs.Private.AllLaws.{all_two}
use Rattle.journal_core.specs.Private.Stages.{JoinsRound}
use Rattle.journal_core.proofs.Rounds.{first_apart, records_in_more, round_len, rounds_more}

pub opened_is_open : open_word ≢ shut_word
opened_is_open is = omega (arith, ap (λ (l : List ℕ). slice_index l 0) is)

-- one round, whose bytes are these
pub one_behind : (key gate : ℕ) (bytes : List ℕ) (records : List (List ℕ)) → bytes ≡ records_text records → 0 < length bytes → length bytes < 2 ^ 64 → AreRoundsBehind key gate (round_text key gate bytes) records
unfolding rounds_text
one_behind key gate bytes records is some short = record {
  one = records;
  more = [];
  first = record { word = refl; other = opened_is_open; some = omega (arith, some, ap length is); short = omega (arith, short, ap length is) };
  others = tt;
  split = ap (λ (l : List ℕ). round_text key gate l) is ∙ sym (append-nil (round_text key gate (records_text records)));
  all = append-nil records;
}

module _ (key gate : ℕ) (text : List ℕ) (records : List (List ℕ)) (it : AreRoundsBehind key gate text records) where
  -- the rounds, with this word at the gate of the first
  abbrev pub laid : List ℕ → List Laid
  laid word = (word, it.one) ∷ it.more

  pub laid_text : (word rest : List ℕ) → word ++ (text ++ rest) ≡ rounds_text key gate (laid word) ++ rest
  laid_text word rest =
      let one = round_text key gate (records_text it.one) in
      let more = rounds_text key (gate + size_of (open_word, it.one)) it.more in
      ap (λ (l : List ℕ). word ++ (l ++ rest)) it.split ∙ ap (λ (l : List ℕ). word ++ l) (append_assoc one more rest) ∙ sym (first_apart key gate (word, it.one) it.more rest)

  pub laid_size : (word : List ℕ) → length word ≡ 8 → length (rounds_text key gate (laid word)) ≡ 8 + length text
  laid_size word len =
      omega (
        arith,
        len,
        ap length (laid_text word []),
        length-append word (text ++ []),
        length-append text [],
        length-append (rounds_text key gate (laid word)) [],
      )

-- one round more
one_more : (key gate place : ℕ) (text bytes : List ℕ) (records new : List (List ℕ)) → AreRoundsBehind key gate text records → place ≡ gate + (8 + length text) → bytes ≡ records_text new → 0 < length bytes → length bytes < 2 ^ 64
    → AreRoundsBehind key gate (text ++ (open_word ++ round_text key place bytes)) (records ++ new)
one_more key gate place text bytes records new it place_is is some short =
    let r : Laid = (open_word, new) in
    let one = round_text key gate (records_text it.one) in
    let next = gate + size_of (open_word, it.one) in
    let more = rounds_text key next it.more in
    let end : next + length more ≡ place = omega (arith, place_is, ap length it.split, length-append one more, round_len key gate (records_text it.one)) in
    let round = round_text key place bytes in
    let last = round_text key (next + length more) (records_text new) in
    let last_is : last ≡ round = λ i. round_text key (end i) (sym is i) in
    let behind : rounds_text key next (it.more ++ r ∷ []) ≡ more ++ (open_word ++ last) =
    sym (append-nil (rounds_text key next (it.more ++ r ∷ []))) ∙ rounds_more key next it.more r [] it.others ∙ ap (λ (l : List ℕ). more ++ (open_word ++ l)) (append-nil last) in
    record {
      one = it.one;
      more = it.more ++ r ∷ [];
      first = it.first;
      others = all_two IsOpen it.more (r ∷ []) it.others (record { word = refl; other = opened_is_open; some = omega (arith, some, ap length is); short = omega (arith, short, ap length is) }, tt);
      split = ap (λ (l : List ℕ). l ++ (open_word ++ round)) it.split ∙ append_assoc one more (open_word ++ round)
          ∙ ap (λ (l : List ℕ). one ++ (more ++ (open_word ++ l))) (sym last_is) ∙ ap (λ (l : List ℕ). one ++ l) (sym behind);
      all = ap (λ (l : List (List ℕ)). it.one ++ l) (records_in_more it.more r) ∙ sym (append_assoc it.one (records_in it.more) new) ∙ ap (λ (l : List (List ℕ)). l ++ new) it.all;
    }

-- ---- in memory

-- there is a byte where there is a round
none_behind : (key gate : ℕ) (text : List ℕ) (records : List (List ℕ)) → AreRoundsBehind key gate text records → text ≢ []
none_behind key gate text records it none =
    let one = round_text key gate (records_text it.one) in
    let more = rounds_text key (gate + size_of (open_word, it.one)) it.more in
    omega (arith, ap length it.split, ap length none, length-append one more, round_len key gate (records_text it.one))

pub gathers_more : (place : ℕ) (bytes : List ℕ) (old b : Batch) (done new : List (List ℕ)) → bytes ≡ records_text new → 0 < length bytes → length bytes < 2 ^ 64 → IsNextGate old place → JoinsRound place bytes old b
    → place_for b ≡ place_for old → Gathers old done → Gathers b (done ++ new)
gathers_more place bytes old b done new is some short next joins same gathers =
    inr (subst (λ (p : ℕ × ℕ). AreRoundsBehind p.0 p.1 b.text.items (done ++ new)) (sym same) (behind gathers))
  where
    first : AreRoundsBehind old.key place (round_text old.key place bytes) new
    first = one_behind old.key place bytes new is some short

    behind : Gathers old done → AreRoundsBehind old.key old.gate b.text.items (done ++ new)
    behind (inl none) = elim joins [
      | inl alone ↦ elim next [
        | inl here ↦
            let moved : AreRoundsBehind old.key old.gate (round_text old.key place bytes) new = subst (λ n. AreRoundsBehind old.key n (round_text old.key place bytes) new) here.1 first in
            subst (λ (l : List (List ℕ)). AreRoundsBehind old.key old.gate b.text.items l) (ap (λ (l : List (List ℕ)). l ++ new) (sym none.1))
            (subst (λ (t : List ℕ). AreRoundsBehind old.key old.gate t new) (sym alone.1) moved)
        | inr later ↦ absurd (omega (arith, later.0, ap length none.0))
      ]
      | inr other ↦ absurd (omega (arith, other.0, ap length none.0))
    ]
    behind (inr are) = elim joins [
      | inl alone ↦ absurd (none_behind old.key old.gate old.text.items done are alone.0)
      | inr other ↦ elim next [
        | inl here ↦ absurd (omega (arith, other.0, ap length here.0))
        | inr later ↦
            subst (λ (t : List ℕ). AreRoundsBehind old.key old.gate t (done ++ new)) (sym other.1)
            (one_more old.key old.gate place old.text.items bytes done new are later.1 is some short)
      ]
    ]

-- no record is gathered only where there is no byte
pub gathers_some : (b : Batch) → 0 < length b.text.items → Gathers b [] → ⊥
gathers_some b some it = elim it [
  | inl none ↦ omega (arith, some, ap length none.0)
  | inr are ↦
      let none : are.one ≡ [] = nil_from_length are.one (omega (arith, ap (λ (l : List (List ℕ)). length l) are.all, length-append are.one (records_in are.more))) in
      omega (arith, are.first.some, ap (λ (l : List (List ℕ)). length (records_text l)) none)
]

-- what is gathered for a journal stands behind its gate, where it is something
pub gathered : {D B : Type 0} (b : Batch) (j : Journal D B) (records : List (List ℕ)) → FitsBehind b j → 0 < length b.text.items → Gathers b records → AreRoundsBehind j.header.key j.at b.text.items records
gathered b j records fits some it = elim it [
  | inl none ↦ absurd (omega (arith, some, ap length none.0))
  | inr are ↦ subst (λ (p : ℕ × ℕ). AreRoundsBehind p.0 p.1 b.text.items records) fits are
]
