-- One step of a reader.
use Rattle.std.specs.Prelude.{◌≡◌, ◌≢◌, ℕ, ◌+◌, ◌<◌, ◌^◌, List, ◌∷◌, ◌++◌, length, drop}
use Rattle.journal_core.specs.declared.reader.Reader.{Reader}
use Rattle.journal_core.specs.Format.{Laid, IsOpen, record_text, records_text, round_text, shut_word, size_of}
use Rattle.journal_core.specs.JournalReading.{record_of}

-- no whole record stands at the front
abbrev pub NoRecord : List ℕ → Type 0
NoRecord bytes = (one rest : List ℕ) → length one < 2 ^ 64 → bytes ≢ record_text one ++ rest

-- the first of the records that were left is the one that was read last
pub record StepsTo (old : Reader) (left : List (List ℕ)) (new : Reader) : Type 0 where
  pub rest : List (List ℕ)
  pub left_is : left ≡ record_of new ∷ rest
  pub buffered : drop new.to new.round.items ≡ records_text rest
  pub header : new.header ≡ old.header
  pub place : new.place ≡ old.place
  pub ended : new.ended ≡ old.ended

-- behind the round whose bytes are there
pub record GoesBehind (old new : Reader) : Type 0 where
  pub place : new.place ≡ old.place + (24 + length old.round.items)
  pub to : new.to ≡ 0
  pub round : new.round ≡ old.round
  pub header : new.header ≡ old.header
  pub ended : new.ended ≡ old.ended

-- no whole round stands at the front, behind its gate, which is at this place
abbrev pub NoRound : ℕ → ℕ → List ℕ → Type 0
NoRound key place bytes = (records : List (List ℕ)) (behind : List ℕ) → 0 < length (records_text records) → length (records_text records) < 2 ^ 64 → bytes ≢ round_text key place (records_text records) ++ behind

-- a whole round stood behind the gate, and its bytes are there
pub record BodyRead (old : Reader) (file : List ℕ) (new : Reader) : Type 0 where
  pub records : List (List ℕ)
  pub some : 0 < length (records_text records)
  pub short : length (records_text records) < 2 ^ 64
  pub stood : drop (old.place + 8) file ≡ round_text old.header.key old.place (records_text records) ++ drop new.place file
  pub place : new.place ≡ old.place + (24 + length (records_text records))
  pub round : new.round.items ≡ records_text records
  pub to : new.to ≡ 0
  pub header : new.header ≡ old.header
  pub ended : new.ended ≡ old.ended

-- a whole round stood at the gate, and its bytes are there
pub record RoundRead (old : Reader) (file : List ℕ) (new : Reader) : Type 0 where
  pub read : Laid
  pub is_open : IsOpen read
  pub stood : drop old.place file ≡ read.0 ++ (round_text old.header.key old.place (records_text read.1) ++ drop new.place file)
  pub place : new.place ≡ old.place + size_of read
  pub round : new.round.items ≡ records_text read.1
  pub to : new.to ≡ 0
  pub header : new.header ≡ old.header
  pub ended : new.ended ≡ old.ended

abbrev pub IsShutAt : ℕ → List ℕ → Type 0
IsShutAt place file = (behind : List ℕ) × (drop place file ≡ shut_word ++ behind)
