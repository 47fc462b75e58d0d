-- What a copy has of the rounds that come (own).
use Rattle.std.specs.Prelude.{◌≡◌, ℕ, Bool, List, [], ◌∷◌, ◌++◌, drop, length, Option, None, Some, IsTrue}
use Rattle.sqlite_disk.specs.Disk.{Only}
use Rattle.journal_core.specs.declared.journal.Journal.{Journal}
use Rattle.journal_core.specs.declared.reader.Reader.{Reader}
use Rattle.journal_core.specs.Format.{records_text}
use Rattle.journal_core.specs.Resting.{IsBeingRead, IsSettled, disk_behind}
use Rattle.journal_copies.specs.ReadRounds.{HoldRecords, records_of_all}

-- Where it has no reader, the copy has these records and no others; else the reader has handed them out, and others may follow. All of it is on its disk.
abbrev pub HasInFront : {D B : Type 0} → (D → List ℕ) → (D → List ℕ → Type 0) → (D → Bool) → Journal D B → Option Reader → List (List ℕ) → Type 0
HasInFront seen may_leave is_clean j None records = IsSettled seen may_leave is_clean j records
HasInFront seen may_leave is_clean j (Some r) records = IsBeingRead seen is_clean j r records × Only (seen (disk_behind j)) (may_leave (disk_behind j))

-- behind the records that the copy had in front it has those of these rounds, unless a read of the disk lied
abbrev pub AddsRounds : {D B : Type 0} → (D → List ℕ) → (D → List ℕ → Type 0) → (D → Bool) → Journal D B → Option Reader → Journal D B → Option Reader → List (List ℕ) → Type 0
AddsRounds seen may_leave is_clean j c j' c' rounds =
    (records : List (List ℕ)) (new : List (List (List ℕ))) → HasInFront seen may_leave is_clean j c records → HoldRecords rounds new
    → IsTrue (is_clean (disk_behind j')) → HasInFront seen may_leave is_clean j' c' (records ++ records_of_all new)

-- the bytes are these rounds as they come, each with the word at its gate in front
abbrev pub Came : List (List ℕ) → List ℕ → Type 0
Came [] bytes = bytes ≡ []
Came (r ∷ rounds) bytes = (word rest : List ℕ) × (length word ≡ 8) × (bytes ≡ word ++ (r ++ rest)) × Came rounds rest

-- the file has the records of this round, and no others, and all of it is on its disk, unless a read of the disk lied
abbrev pub HasRoundAlone : {D B : Type 0} → (D → List ℕ) → (D → List ℕ → Type 0) → (D → Bool) → Journal D B → List ℕ → Type 0
HasRoundAlone seen may_leave is_clean j round =
    (new : List (List ℕ)) → drop 16 round ≡ records_text new → IsTrue (is_clean (disk_behind j)) → IsSettled seen may_leave is_clean j new
