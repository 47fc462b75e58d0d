-- Whether a whole round stands at the front of bytes.
use Rattle.std.proofs.Common.{◌≡◌, ◌≢◌, ℕ, ◌+◌, ◌<◌, ◌≤◌, ◌^◌, List, [], ◌∷◌, ◌++◌, ◌-◌, length, take, drop, refl, sym, ◌∙◌, ap, arith, length-append}
use Rattle.std.proofs.lemmas.List.{append-nil, drop-drop, length-drop}
use Rattle.journal_core.specs.Format.{shut_word, word_of, sum_of, records_text, round_text}
use Rattle.journal_core.proofs.Rounds.{round_len, round_one}
use Rattle.journal_core.proofs.Gates.{few_no_round, short_no_round, other_no_round, round_stands}
use Rattle.journal_copies.specs.WholeRounds.{HasNoRound, HasRound, IsRound}

-- what no records are, is no round
none : (key place : ℕ) (bytes : List ℕ)
    → ((records : List (List ℕ)) (behind : List ℕ) → 0 < length (records_text records) → length (records_text records) < 2 ^ 64 → bytes ≢ round_text key place (records_text records) ++ behind)
    → HasNoRound key place bytes
none key place bytes no_records text it =
    let len = ap length it.are in
    no_records it.records it.behind (omega (arith, it.some, len)) (omega (arith, it.short, len)) (it.stands ∙ ap (λ (l : List ℕ). round_text key place l ++ it.behind) it.are)

-- too little is left for a length and a sum
pub few : (key place : ℕ) (bytes : List ℕ) → length bytes < 16 → HasNoRound key place bytes
few key place bytes low = none key place bytes (few_no_round bytes 0 key place (omega (arith, low)))

-- the length and the sum that were read, and what stands behind them
pub record Head (bytes word rest sum_word behind : List ℕ) (len : ℕ) : Type 0 where
  pub word_is : word ≡ take 8 bytes
  pub rest_is : rest ≡ drop 8 bytes
  pub len_is : word ≡ word_of len
  pub sum_word_is : sum_word ≡ take 8 rest
  pub behind_is : behind ≡ drop 8 rest
  pub many : 16 ≤ length bytes

module _ (key place : ℕ) (bytes word rest sum_word behind : List ℕ) (len : ℕ) (it : Head bytes word rest sum_word behind len) where
  first : word_of len ≡ take 8 (drop 0 bytes)
  first = sym it.len_is ∙ it.word_is

  second : (sum : ℕ) → sum_word ≡ word_of sum → word_of sum ≡ take 8 (drop (0 + 8) bytes)
  second sum sum_is = sym sum_is ∙ it.sum_word_is ∙ ap (λ (l : List ℕ). take 8 l) it.rest_is

  third : behind ≡ drop 16 bytes
  third = it.behind_is ∙ ap (λ (l : List ℕ). drop 8 l) it.rest_is ∙ drop-drop 8 8 bytes

  long : length bytes ≡ 16 + length behind
  long = omega (arith, ap length third, length-drop 16 bytes, it.many)

  -- less is left than the length says
  pub short : len < 2 ^ 64 → length behind < len → HasNoRound key place bytes
  short fits low = none key place bytes (short_no_round bytes 0 key place len fits first (omega (arith, low, long)))

  -- the bytes that it says are no records, or have another sum
  pub other : (sum : ℕ) (text : List ℕ) → sum_word ≡ word_of sum → len < 2 ^ 64 → text ≡ take len behind → ((records : List (List ℕ)) → 0 < length (records_text records) → text ≡ records_text records → word_of sum ≢ word_of (sum_of key place text)) → HasNoRound key place bytes
  other sum text sum_is fits text_is unlike = none key place bytes (other_no_round bytes 0 key place len sum text fits first (second sum sum_is) (text_is ∙ ap (λ (l : List ℕ). take len l) third) unlike)

  -- they are
  pub stands : (sum : ℕ) (text : List ℕ) (records : List (List ℕ)) → sum_word ≡ word_of sum → text ≡ take len behind → length text ≡ len → len < 2 ^ 64 → 0 < length text → text ≡ records_text records → sum ≡ sum_of key place text → HasRound key place bytes text
  stands sum text records sum_is text_is text_len fits some are right = record {
    records = records;
    behind = drop (0 + 16 + len) bytes;
    some = some;
    short = omega (arith, fits, text_len);
    are = are;
    stands = round_stands bytes 0 key place len sum text first (second sum sum_is) (text_is ∙ ap (λ (l : List ℕ). take len l) third) text_len right;
  }

empty : (l : List ℕ) → length l ≡ 0 → l ≡ []
empty [] none = refl
empty (x ∷ l) none = absurd (omega (arith, none))

-- nothing stands behind it
pub round_alone : (key place : ℕ) (bytes text : List ℕ) → HasRound key place bytes text → length bytes - length text ≡ 16 → IsRound key place bytes
round_alone key place bytes text it alone =
    let short : length it.behind ≡ 0 = omega (arith, alone, ap length it.stands, length-append (round_text key place text) it.behind, round_len key place text) in
    record {
      records = it.records;
      some = omega (arith, it.some, ap length it.are);
      is = it.stands ∙ ap (λ (l : List ℕ). round_text key place text ++ l) (empty it.behind short) ∙ append-nil (round_text key place text) ∙ ap (round_text key place) it.are;
    }

-- two whole rounds at the front of one list
pub one : (key place key' place' : ℕ) (bytes a b : List ℕ) → HasRound key place bytes a → HasRound key' place' bytes b → a ≡ b
one key place key' place' bytes a b first second =
    (round_one shut_word shut_word a b first.behind second.behind key place key' place' refl refl first.short second.short (ap (λ (l : List ℕ). shut_word ++ l) (sym first.stands ∙ second.stands))).1
