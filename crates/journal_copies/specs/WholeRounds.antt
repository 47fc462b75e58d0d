-- Whole rounds in bytes, behind a gate (own).
use Rattle.std.specs.Prelude.{◌≡◌, ℕ, ◌<◌, ◌^◌, List, ◌++◌, length}
use Rattle.journal_core.specs.Format.{records_text, round_text}

-- At the front stands a round behind its gate, which is at this place: with its length, its sum, and these bytes, which are records.
pub record HasRound (key place : ℕ) (bytes text : List ℕ) : Type 0 where
  pub records : List (List ℕ)
  pub behind : List ℕ
  pub some : 0 < length text
  pub short : length text < 2 ^ 64
  pub are : text ≡ records_text records
  pub stands : bytes ≡ round_text key place text ++ behind

-- no whole round stands there
abbrev pub HasNoRound : ℕ → ℕ → List ℕ → Type 0
HasNoRound key place bytes = (text : List ℕ) → ¬ (HasRound key place bytes text)

-- the bytes are a length, a sum and records, and nothing stands behind them
pub record IsRound (key place : ℕ) (bytes : List ℕ) : Type 0 where
  pub records : List (List ℕ)
  pub some : 0 < length (records_text records)
  pub is : bytes ≡ round_text key place (records_text records)

-- at the front of bytes stands one whole round at most, whatever the place and the key
abbrev pub RoundsAreOne : Type 0
RoundsAreOne = (key place key' place' : ℕ) (bytes a b : List ℕ) → HasRound key place bytes a → HasRound key' place' bytes b → a ≡ b
