-- When a new file of a store may take the place of the old one (own).
use Rattle.std.specs.Prelude.{◌≡◌, ℕ, List, [], Bool, IsTrue}
use Rattle.journal_core.specs.declared.header.Header.{Header}
use Rattle.journal_core.specs.declared.journal.Journal.{Journal}
use Rattle.sqlite_disk.specs.Disk.{Only}
use Rattle.journal_core.specs.declared.reader.Reader.{Reader}
use Rattle.journal_core.specs.JournalReading.{header_of}
use Rattle.journal_core.specs.Resting.{IsBeingRead, IsSettled, disk_behind, header_in}
use Rattle.dav_guarded_core.specs.Stores.{Stores}
use Rattle.dav_snapshots_core.specs.WrittenSnapshots.{HasPaths}
use Rattle.dav_store_core.specs.Loading.{IsLoaded}

-- The journal has this header and no record, and that is on the disk; unless a read of the disk lied.
abbrev pub HasHeader : {D B : Type 0} → (D → List ℕ) → (D → List ℕ → Type 0) → (D → Bool) → Journal D B → Header → Type 0
HasHeader seen may_leave is_clean j h =
    IsTrue (is_clean (disk_behind j)) → IsSettled seen may_leave is_clean j [] × (header_in j ≡ h)

-- The journal has this header and stands for exactly these stores and this last moment, where their paths are made of segments, as all have that records stand for, and all of it is on the disk; unless a read of the disk lied.
abbrev pub IsOnDisk : {D B : Type 0} → (D → List ℕ) → (D → List ℕ → Type 0) → (D → Bool) → Journal D B → Header → Stores → ℕ → Type 0
IsOnDisk seen may_leave is_clean j h s last =
    IsTrue (is_clean (disk_behind j)) → HasPaths s.map → IsLoaded seen may_leave is_clean j h s last

-- These are the stores and the last moment that the journal stood for, which was read by this reader from its front to its end; unless a read of the disk lied.
abbrev pub IsReadAs : {D B : Type 0} → (D → List ℕ) → (D → List ℕ → Type 0) → (D → Bool) → Journal D B → Journal D B → Reader → Stores → ℕ → Type 0
IsReadAs seen may_leave is_clean old new reader s last =
    IsBeingRead seen is_clean old reader [] → IsTrue (is_clean (disk_behind new)) → Only (seen (disk_behind old)) (may_leave (disk_behind old))
    → IsLoaded seen may_leave is_clean new (header_of reader) s last
