-- What stands in a journal, at rest and at any moment (own).
use Rattle.std.specs.Prelude.{Option, ◌≡◌, ℕ, ◌+◌, ◌≤◌, Bool, List, length, IsTrue, IsFalse, IfSome}
use Rattle.sqlite_disk.specs.Disk.{Only, MoreFaults}
use Rattle.journal_core.specs.declared.clocked.Clocked.{Clocked}
use Rattle.journal_core.specs.declared.error.JournalError.{JournalError}
use Rattle.journal_core.specs.declared.error.JournalError.TheVariants.{Failed, Full, NotOpen, TooLarge}
use Rattle.journal_core.specs.declared.header.Header.{Header}
use Rattle.journal_core.specs.declared.journal.Journal.{Journal}
use Rattle.journal_core.specs.declared.reader.Reader.{Reader}
use Rattle.journal_core.specs.declared.round.Round.{Round}
use Rattle.journal_core.specs.Clocked.{disk_of}
use Rattle.journal_core.specs.Format.{Laid, Lies, records_in, records_text, rounds_text}
use Rattle.journal_core.specs.JournalReading.{HasRead, place_of}
use Rattle.journal_core.specs.Private.Stages.{round_bytes}

-- the round has these records
abbrev pub Carries : Round → List (List ℕ) → Type 0
Carries round records = round_bytes round ≡ records_text records

abbrev pub clocked_of : {D B : Type 0} → Journal D B → Clocked D B
clocked_of j = j.disk

abbrev pub disk_behind : {D B : Type 0} → Journal D B → D
disk_behind j = disk_of j.disk

-- the header of the file, once it is open
abbrev pub header_in : {D B : Type 0} → Journal D B → Header
header_in j = j.header

-- where the gate is that is shut, once it is open
abbrev pub gate_of : {D B : Type 0} → Journal D B → ℕ
gate_of j = j.at

-- how long the file is, where that is known
abbrev pub len_of : {D B : Type 0} → Journal D B → Option ℕ
len_of j = j.len

-- records may be appended
abbrev pub is_ready : {D B : Type 0} → Journal D B → Bool
is_ready j = j.is_open

-- where it knows how long the file is, that is so
abbrev pub KnowsLength : {D B : Type 0} → (D → List ℕ) → (D → Bool) → Journal D B → Type 0
KnowsLength seen is_clean j = IfSome j.len (λ n. IsTrue (is_clean (disk_behind j)) → n ≡ length (seen (disk_behind j)))

-- it stands at this place of a file that holds these bytes
abbrev pub StandsAtPlace : {D B : Type 0} → (D → List ℕ) → (D → Bool) → Journal D B → List ℕ → ℕ → Type 0
StandsAtPlace seen is_clean j file at = (seen (disk_behind j) ≡ file) × (j.at ≡ at) × (IsTrue (is_clean (disk_behind j)) → at ≤ length file) × KnowsLength seen is_clean j

-- The file stands for these records; all of it is on the disk; and the journal stands at the gate that is shut behind them.
pub record IsSettled {D B : Type 0} (seen : D → List ℕ) (may_leave : D → List ℕ → Type 0) (is_clean : D → Bool) (j : Journal D B) (records : List (List ℕ)) : Type 0 where
  pub rounds : List Laid
  pub lies : Lies j.header (seen (disk_behind j)) rounds
  pub same : records_in rounds ≡ records
  pub at : j.at ≡ 56 + length (rounds_text j.header.key 56 rounds)
  pub durable : Only (seen (disk_behind j)) (may_leave (disk_behind j))
  pub knows : KnowsLength seen is_clean j

-- the reader has handed out these records of the file, and the journal stands behind what it read
abbrev pub IsBeingRead : {D B : Type 0} → (D → List ℕ) → (D → Bool) → Journal D B → Reader → List (List ℕ) → Type 0
IsBeingRead seen is_clean j r done = IsFalse j.is_open × ((file : List ℕ) × StandsAtPlace seen is_clean j file (place_of r) × (IsTrue (is_clean (disk_behind j)) → HasRead r file done))

-- an error of a write: a call of the disk failed, and whether it found no room; or it was not begun
abbrev pub HasDiskCause : JournalError → ℕ → ℕ → ℕ → ℕ → Type 0
HasDiskCause (Failed e) faults faults' refused refused' = MoreFaults faults faults' × (refused' ≡ refused)
HasDiskCause Full faults faults' refused refused' = MoreFaults faults faults' × MoreFaults refused refused'
HasDiskCause NotOpen faults faults' refused refused' = Unit {0}
HasDiskCause TooLarge faults faults' refused refused' = Unit {0}
HasDiskCause _ faults faults' refused refused' = ⊥

-- an error of making room: a call of the disk failed, or it was not begun
abbrev pub HasRoomCause : JournalError → ℕ → ℕ → Type 0
HasRoomCause (Failed e) faults faults' = MoreFaults faults faults'
HasRoomCause Full faults faults' = MoreFaults faults faults'
HasRoomCause NotOpen faults faults' = Unit {0}
HasRoomCause _ faults faults' = ⊥

-- an error of a touch: the same, or the file is too long
abbrev pub HasTouchCause : JournalError → ℕ → ℕ → Type 0
HasTouchCause TooLarge faults faults' = Unit {0}
HasTouchCause e faults faults' = HasRoomCause e faults faults'
