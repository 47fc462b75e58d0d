-- A copy of a journal that has not come to its end (own).
use Rattle.std.specs.Prelude.{◌≡◌, ◌≢◌, ◌⊎◌, ℕ, List, ◌++◌}
use Rattle.std.specs.List.{AllByRecursion}
use Rattle.sqlite_disk.specs.Disk.{Torn}
use Rattle.journal_core.specs.declared.header.Header.{Header}
use Rattle.journal_core.specs.Format.{Laid, IsOf64Bits, IsOpen, Lies, journal_front, records_text, round_text, shut_word}
use Rattle.journal_core.specs.LiveCopies.{gate_behind}

-- The file has a header and these rounds, and behind them stands neither a gate that is shut nor a whole round behind a gate.
pub record IsBroken (h : Header) (file : List ℕ) (rounds : List Laid) : Type 0 where
  pub first : ℕ
  pub rest : List ℕ
  pub made : first ≢ 0
  pub fits : IsOf64Bits h
  pub split : file ≡ journal_front first h rounds ++ rest
  pub gates : AllByRecursion IsOpen rounds
  pub shut : (behind : List ℕ) → rest ≢ shut_word ++ behind
  pub round : (r : Laid) (behind : List ℕ) → IsOpen r → rest ≢ r.0 ++ (round_text h.key (gate_behind h rounds) (records_text r.1) ++ behind)

-- The eight bytes at the gate behind these rounds are others, and no more: the file has these rounds, or is broken behind them as it was.
abbrev pub IsAdopting : Header → List Laid → List ℕ → List ℕ → Type 0
IsAdopting h rounds file c = Torn (gate_behind h rounds) 8 file c × (Lies h c rounds ⊎ IsBroken h c rounds)
