-- Whether a whole round stands at a place.
use Rattle.std.proofs.Common.{◌≡◌, ◌≢◌, ℕ, ◌+◌, ◌<◌, ◌^◌, List, ◌++◌, length, take, drop, sym, ◌∙◌, ap, length-append, arith}
use Rattle.std.proofs.lemmas.List.{take-append-drop, take_at, drop_at, drop-drop, length-drop}
use Rattle.journal_core.specs.declared.error.JournalError.{JournalError}
use Rattle.journal_core.specs.declared.error.JournalError.TheVariants.{Damaged}
use Rattle.journal_core.specs.declared.reader.Reader.{Reader}
use Rattle.journal_core.specs.Format.{word_of, sum_of, shut_word, records_text, round_text}
use Rattle.journal_core.specs.JournalReading.{EndsThere}
use Rattle.journal_core.specs.Private.RoundSteps.{BodyRead, NoRound, RoundRead}
use Rattle.journal_core.proofs.Numbers.{word_len, word_one}
use Rattle.journal_core.proofs.Rounds.{round_parts, round_len}

-- what stands at a place, in two parts
at_place : (at n : ℕ) (file : List ℕ) → drop at file ≡ take n (drop at file) ++ drop (at + n) file
at_place at n file = sym (take-append-drop n (drop at file)) ∙ ap (λ (l : List ℕ). take n (drop at file) ++ l) (drop-drop n at file)

-- a length, a sum and bytes that were read are a round
pub round_stands : (file : List ℕ) (at key place len sum : ℕ) (bytes : List ℕ) → word_of len ≡ take 8 (drop at file) → word_of sum ≡ take 8 (drop (at + 8) file) → bytes ≡ take len (drop (at + 16) file)
    → length bytes ≡ len → sum ≡ sum_of key place bytes → drop at file ≡ round_text key place bytes ++ drop (at + 16 + len) file
round_stands file at key place len sum bytes len_is sum_is bytes_is long right =
    let third : drop (at + 16) file ≡ bytes ++ drop (at + 16 + len) file = at_place (at + 16) len file ∙ ap (λ (l : List ℕ). l ++ drop (at + 16 + len) file) (sym bytes_is) in
    let second : drop (at + 8) file ≡ word_of (sum_of key place bytes) ++ (bytes ++ drop (at + 16 + len) file) =
    at_place (at + 8) 8 file ∙ ap (λ (l : List ℕ). l ++ drop (at + 8 + 8) file) (sym sum_is ∙ ap word_of right)
    ∙ ap (λ (l : List ℕ). word_of (sum_of key place bytes) ++ l) (ap (λ n. drop n file) (omega arith) ∙ third) in
    at_place at 8 file ∙ ap (λ (l : List ℕ). l ++ drop (at + 8) file) (sym len_is ∙ ap word_of (sym long)) ∙ ap (λ (l : List ℕ). word_of (length bytes) ++ l) second
    ∙ sym (round_parts key place bytes (drop (at + 16 + len) file))

-- the parts of a round that stands at a place
module _ (file : List ℕ) (at key place : ℕ) (bytes behind : List ℕ) (is : drop at file ≡ round_text key place bytes ++ behind) where
  whole : drop at file ≡ word_of (length bytes) ++ (word_of (sum_of key place bytes) ++ (bytes ++ behind))
  whole = is ∙ round_parts key place bytes behind

  pub len_at : take 8 (drop at file) ≡ word_of (length bytes)
  len_at = ap (λ (l : List ℕ). take 8 l) whole ∙ take_at (word_of (length bytes)) (word_of (sum_of key place bytes) ++ (bytes ++ behind)) 8 (word_len (length bytes))

  behind_len : drop (at + 8) file ≡ word_of (sum_of key place bytes) ++ (bytes ++ behind)
  behind_len = sym (drop-drop 8 at file) ∙ ap (λ (l : List ℕ). drop 8 l) whole ∙ drop_at (word_of (length bytes)) (word_of (sum_of key place bytes) ++ (bytes ++ behind)) 8 (word_len (length bytes))

  pub sum_at : take 8 (drop (at + 8) file) ≡ word_of (sum_of key place bytes)
  sum_at = ap (λ (l : List ℕ). take 8 l) behind_len ∙ take_at (word_of (sum_of key place bytes)) (bytes ++ behind) 8 (word_len (sum_of key place bytes))

  pub bytes_at : drop (at + 16) file ≡ bytes ++ behind
  bytes_at = ap (λ n. drop n file) (omega arith) ∙ sym (drop-drop 8 (at + 8) file) ∙ ap (λ (l : List ℕ). drop 8 l) behind_len ∙ drop_at (word_of (sum_of key place bytes)) (bytes ++ behind) 8 (word_len (sum_of key place bytes))

-- too little is left for a length and a sum
pub few_no_round : (file : List ℕ) (at key place : ℕ) → length file < at + 16 → NoRound key place (drop at file)
few_no_round file at key place few records behind some short is =
    omega (arith, few, some, length-drop at file, ap length is, length-append (round_text key place (records_text records)) behind, round_len key place (records_text records))

-- less is left than the length says
pub short_no_round : (file : List ℕ) (at key place len : ℕ) → len < 2 ^ 64 → word_of len ≡ take 8 (drop at file) → length file < at + 16 + len → NoRound key place (drop at file)
short_no_round file at key place len fits len_is few records behind some short is =
    let bytes = records_text records in
    let same = word_one len (length bytes) fits short (len_is ∙ len_at file at key place bytes behind is) in
    omega (arith, few, some, same, length-drop at file, ap length is, length-append (round_text key place bytes) behind, round_len key place bytes)

-- what was read is no records, or has another sum
pub other_no_round : (file : List ℕ) (at key place len sum : ℕ) (bytes : List ℕ) → len < 2 ^ 64 → word_of len ≡ take 8 (drop at file) → word_of sum ≡ take 8 (drop (at + 8) file)
    → bytes ≡ take len (drop (at + 16) file)
    → ((records : List (List ℕ)) → 0 < length (records_text records) → bytes ≡ records_text records → word_of sum ≢ word_of (sum_of key place bytes)) → NoRound key place (drop at file)
other_no_round file at key place len sum bytes fits len_is sum_is bytes_is other records behind some short is =
    let text = records_text records in
    let same = word_one len (length text) fits short (len_is ∙ len_at file at key place text behind is) in
    let bytes_are : bytes ≡ text = bytes_is ∙ ap (λ (l : List ℕ). take len l) (bytes_at file at key place text behind is) ∙ take_at text behind len (sym same) in
    other records some bytes_are (sum_is ∙ sum_at file at key place text behind is ∙ ap (λ (l : List ℕ). word_of (sum_of key place l)) (sym bytes_are))

-- ---- what is read at a gate

-- a word and what stands behind it
pub word_behind : (file : List ℕ) (place : ℕ) → drop place file ≡ take 8 (drop place file) ++ drop (place + 8) file
word_behind file place = at_place place 8 file

-- fewer than eight bytes are left
pub few_end_there : (e : JournalError) (key place : ℕ) (file : List ℕ) → e ≡ Damaged place → length file < place + 8 → EndsThere e key place file
few_end_there e key place file told few = record {
  told = told;
  shut = λ behind is. omega (arith, few, length-drop place file, ap length is);
  round = λ r behind it is. omega (arith, few, it.word, length-drop place file, ap length is, length-append r.0 (round_text key place (records_text r.1) ++ behind));
}

-- the gate is open, and no whole round stands behind it
pub open_ends_there : (e : JournalError) (key place : ℕ) (file word : List ℕ) → e ≡ Damaged place → word ≡ take 8 (drop place file) → word ≢ shut_word → NoRound key place (drop (place + 8) file) → EndsThere e key place file
open_ends_there e key place file word told word_is other none = record {
  told = told;
  shut = λ behind is. other (word_is ∙ ap (λ (l : List ℕ). take 8 l) is);
  round = λ r behind it is. none r.1 behind it.some it.short (sym (drop-drop 8 place file) ∙ ap (λ (l : List ℕ). drop 8 l) is ∙ drop_at r.0 (round_text key place (records_text r.1) ++ behind) 8 it.word);
}

-- the gate is open, and a whole round stands behind it
pub round_read : (old : Reader) (file : List ℕ) (new : Reader) (word : List ℕ) → length word ≡ 8 → word ≡ take 8 (drop old.place file) → word ≢ shut_word → BodyRead old file new → RoundRead old file new
round_read old file new word len word_is other it = record {
  read = (word, it.records);
  is_open = record { word = len; other = other; some = it.some; short = it.short };
  stood = word_behind file old.place ∙ ap (λ (l : List ℕ). l ++ drop (old.place + 8) file) (sym word_is) ∙ ap (λ (l : List ℕ). word ++ l) it.stood;
  place = it.place;
  round = it.round;
  to = it.to;
  header = it.header;
  ended = it.ended;
}
