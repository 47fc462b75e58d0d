-- How far a journal was read (own).
use Rattle.std.specs.Prelude.{◌≡◌, ◌≢◌, ℕ, ◌+◌, ◌-◌, List, ◌∷◌, ◌++◌, length, take, drop, IsFalse}
use Rattle.std.specs.List.{AllByRecursion}
use Rattle.journal_core.specs.declared.error.JournalError.{JournalError}
use Rattle.journal_core.specs.declared.error.JournalError.TheVariants.{Foreign, Unsupported, Damaged, Failed, Full, NotOpen, Busy}
use Rattle.journal_core.specs.declared.header.Header.{Header}
use Rattle.journal_core.specs.declared.reader.Reader.{Reader}
use Rattle.journal_core.specs.Format.{Laid, IsOpen, IsOf64Bits, Lies, journal_front, header_text, magic, records_in, records_text, round_text, rounds_text, shut_word, version_word}

abbrev pub header_of : Reader → Header
header_of r = r.header

-- where the next gate is
abbrev pub place_of : Reader → ℕ
place_of r = r.place

-- the record that was read last
abbrev pub record_of : Reader → List ℕ
record_of r = take (r.to - r.from) (drop r.from r.round.items)

-- The file begins with a header and these rounds; their records are those that were handed out, and those of the last round that are still to be.
pub record HasRead (r : Reader) (file : List ℕ) (done : List (List ℕ)) : Type 0 where
  pub first : ℕ
  pub rounds : List Laid
  pub rest : List ℕ
  pub left : List (List ℕ)
  pub going : IsFalse r.ended
  pub made : first ≢ 0
  pub fits : IsOf64Bits r.header
  pub split : file ≡ journal_front first r.header rounds ++ rest
  pub gates : AllByRecursion IsOpen rounds
  pub place : r.place ≡ 56 + length (rounds_text r.header.key 56 rounds)
  pub buffered : drop r.to r.round.items ≡ records_text left
  pub same : records_in rounds ≡ done ++ left

-- the file has a header and rounds with these records, and then a gate that is shut, which is at the reader's place
pub record HasEnded (r : Reader) (file : List ℕ) (done : List (List ℕ)) : Type 0 where
  pub rounds : List Laid
  pub lies : Lies r.header file rounds
  pub same : records_in rounds ≡ done
  pub place : r.place ≡ 56 + length (rounds_text r.header.key 56 rounds)

module _ {S : Type 0} (is_at : S → List ℕ → ℕ → Type 0) (is_honest : S → Type 0) where
  -- the source stands behind what was read, and these records were handed out
  abbrev pub IsReading : S → Reader → List ℕ → List (List ℕ) → Type 0
  IsReading source r file done = is_at source file (place_of r) × (is_honest source → HasRead r file done)

-- the file is refused for what it holds
abbrev pub IsRefusal : JournalError → Type 0
IsRefusal Foreign = Unit {0}
IsRefusal Unsupported = Unit {0}
IsRefusal (Damaged at) = Unit {0}
IsRefusal _ = ⊥

-- the file begins as that of a journal does
abbrev pub IsOfJournal : List ℕ → Type 0
IsOfJournal file = (first : ℕ) × (rest : List ℕ) × (first ≢ 0) × (file ≡ (first ∷ magic) ++ rest)

abbrev pub IsOfThisVersion : List ℕ → Type 0
IsOfThisVersion file = (first : ℕ) × (rest : List ℕ) × (file ≡ (first ∷ magic) ++ (version_word ++ rest))

-- no header stands at the front of the file
abbrev pub HasNoHeader : List ℕ → Type 0
HasNoHeader file = (first : ℕ) (h : Header) (rest : List ℕ) → first ≢ 0 → IsOf64Bits h → file ≢ (first ∷ header_text h) ++ rest

-- a header is refused: what it is not
abbrev pub IsNoHeader : JournalError → List ℕ → Type 0
IsNoHeader Foreign file = ¬ (IsOfJournal file)
IsNoHeader Unsupported file = IsOfJournal file × ¬ (IsOfThisVersion file)
IsNoHeader (Damaged at) file = IsOfJournal file × HasNoHeader file × (at ≡ 0)
IsNoHeader _ file = Unit {0}

-- Behind what was read, at this place, stands neither a gate that is shut nor a whole round behind a gate; and that is told.
pub record EndsThere (e : JournalError) (key place : ℕ) (file : List ℕ) : Type 0 where
  pub told : e ≡ Damaged place
  pub shut : (behind : List ℕ) → drop place file ≢ shut_word ++ behind
  pub round : (r : Laid) (behind : List ℕ) → IsOpen r → drop place file ≢ r.0 ++ (round_text key place (records_text r.1) ++ behind)

-- where it is told that a call failed, or that the disk is full, a call failed; nothing is told of the lock, nor of writing
abbrev pub HasCause : Type 0 → JournalError → Type 0
HasCause failed (Failed e) = failed
HasCause failed Full = failed
HasCause failed NotOpen = ⊥
HasCause failed Busy = ⊥
HasCause failed _ = Unit {0}

-- the same of who only reads: nothing is told of a full disk
abbrev pub HasReadCause : Type 0 → JournalError → Type 0
HasReadCause failed (Failed e) = failed
HasReadCause failed Full = ⊥
HasReadCause failed NotOpen = ⊥
HasReadCause failed Busy = ⊥
HasReadCause failed _ = Unit {0}
