-- The head of a snapshot, as it is written.
use Rattle.std.specs.Prelude.{◌≡◌, ℕ, List, map}
use Rattle.dav_files_core.specs.Walks.{Stored}
use Rattle.dav_locks_core.specs.Lock.{Lock}
use Rattle.dav_effects_core.specs.ByteForms.{counted_text}
use Rattle.dav_snapshots_core.specs.SnapshotText.{snapshot_head}
use Rattle.dav_snapshots_core.specs.Snapshots.{Snapshot, snapshot_entry}
use Rattle.dav_snapshots_core.specs.WrittenSnapshots.{CanBeWritten}

abbrev pub snapshot_with : ℕ → ℕ → List Stored → List Lock → Snapshot
snapshot_with now next walk locks = record { now = now; next = next; entries = map snapshot_entry walk; locks = locks }

-- the bytes are the head of the snapshot of these, and how long it is in front
pub record IsHead (now next : ℕ) (walk : List Stored) (locks : List Lock) (bytes : List ℕ) : Type 0 where
  pub text : bytes ≡ counted_text (snapshot_head (snapshot_with now next walk locks))
  pub fits : CanBeWritten (snapshot_with now next walk locks)
