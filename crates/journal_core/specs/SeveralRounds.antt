-- Rounds that are appended at once (own).
use Rattle.std.specs.Prelude.{◌≡◌, ℕ, ◌+◌, List, ◌++◌}
use Rattle.std.specs.List.{AllByRecursion}
use Rattle.journal_core.specs.Format.{Laid, IsOpen, open_word, records_in, records_text, round_text, rounds_text, size_of}

-- The text is that of rounds with these records, one behind another, as they stand behind the gate at this place, which is that of the first of them. The gates of the others are open.
pub record AreRoundsBehind (key gate : ℕ) (text : List ℕ) (records : List (List ℕ)) : Type 0 where
  pub one : List (List ℕ)
  pub more : List Laid
  pub first : IsOpen (open_word, one)
  pub others : AllByRecursion IsOpen more
  pub split : text ≡ round_text key gate (records_text one) ++ rounds_text key (gate + size_of (open_word, one)) more
  pub all : one ++ records_in more ≡ records
