-- A file of the system as a disk, and the journal that is made in a new one (own).
use Rattle.std.specs.Prelude.{◌≡◌, ℕ, List, [], Bool, Option, None, IsTrue}
use Rattle.sqlite_disk.specs.declared.modelled.Modelled.{Modelled}
use Rattle.sqlite_disk.specs.declared.calls.Calls as calls
use Rattle.sqlite_disk.specs.declared.start.Start.{Ghosts}
use Rattle.sqlite_disk.specs.Modelled.{start_of}
use Rattle.sqlite_disk.specs.Events.{replay}
use Rattle.sqlite_disk.specs.History.{MayLeave}
use Rattle.sqlite_std_file.specs.declared.host.Host.{Host}
use Rattle.journal_core.specs.declared.header.Header.{Header}
use Rattle.journal_core.specs.declared.journal.Journal.{Journal}
use Rattle.journal_core.specs.declared.reader.Reader.{Reader}
use Rattle.journal_core.specs.Resting.{IsSettled, disk_behind, header_in}

module _ {S : Type 0} {g : calls.Ghosts Host} where
  -- what is read of the file: its member `seen`
  abbrev pub file_seen : (start : Ghosts S) → Modelled Host S g start → List ℕ
  file_seen start f = (replay (start_of start f) f.calls.log.events).seen

  -- what a crash may leave of it: its member `may_leave`
  abbrev pub file_may_leave : (start : Ghosts S) → Modelled Host S g start → List ℕ → Type 0
  file_may_leave start f = let m = replay (start_of start f) f.calls.log.events in MayLeave start.is_mixing m.seen m.synced m.steps

  -- whether no wrong answer of the system was taken for true: its member `is_clean`
  abbrev pub file_is_clean : (start : Ghosts S) → Modelled Host S g start → Bool
  file_is_clean start f = (replay (start_of start f) f.calls.log.events).is_honest

  -- Where there is no reader, the file was new: the journal has this header and no record, and that is on the disk.
  abbrev pub IsMadeWith : {B : Type 0} → (start : Ghosts S) → Header → Journal (Modelled Host S g start) B → Option Reader → Type 0
  IsMadeWith start header j found =
      found ≡ None → IsTrue (file_is_clean start (disk_behind j))
      → IsSettled (file_seen start) (file_may_leave start) (file_is_clean start) j [] × (header_in j ≡ header)
