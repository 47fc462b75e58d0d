-- Which stores a snapshot is of (own).
use Rattle.std.specs.Prelude.{◌≡◌, ℕ, List as Sequence, length, IfSome, Some}
use Rattle.std.specs.List.{AllByRecursion}
use Rattle.dav_path_core.specs.Fronts.{Path}
use Rattle.dav_path_core.specs.PathText.{folder_bytes}
use Rattle.dav_path_core.specs.Segments.{segments}
use Rattle.dav_files_core.specs.Resources.{Resource, ResourceMap, at_path}
use Rattle.dav_locks_core.specs.Lock.{Lock}
use Rattle.dav_guarded_core.specs.Stores.{Stores}
use Rattle.dav_effects_core.specs.ByteForms.{FitsInEight, HasCount, IsUtf8Text}
use Rattle.dav_effects_core.specs.Records.{IsPathText, IsProperty}
use Rattle.dav_snapshots_core.specs.SnapshotText.{snapshot_head, snapshot_text}
use Rattle.dav_snapshots_core.specs.Snapshots.{IsSnapshotOf, Snapshot, SnapshotEntry}

-- ---- values that can be in stores

pub record IsSnapshotEntry (e : SnapshotEntry) : Type 0 where
  pub path : HasCount (folder_bytes e.path)
  pub number : FitsInEight e.number
  pub created : FitsInEight e.created
  pub modified : FitsInEight e.modified
  pub few : FitsInEight (length e.props)
  pub props : AllByRecursion IsProperty e.props
  pub bytes : HasCount e.bytes

pub record IsSnapshotLock (l : Lock) : Type 0 where
  pub token : IsUtf8Text l.token
  pub path : IsPathText l.path
  pub principal : IfSome l.principal IsUtf8Text
  pub owner : IfSome l.owner IsUtf8Text
  pub timeout_at : IfSome l.timeout_at FitsInEight
  pub timeout : IfSome l.timeout FitsInEight

pub record CanBeWritten (x : Snapshot) : Type 0 where
  pub now : FitsInEight x.now
  pub next : FitsInEight x.next
  pub few : FitsInEight (length x.entries)
  pub entries : AllByRecursion IsSnapshotEntry x.entries
  pub few_locks : FitsInEight (length x.locks)
  pub locks : AllByRecursion IsSnapshotLock x.locks
  pub short : HasCount (snapshot_head x)

-- ---- a snapshot

-- the bytes are those of what stands in the stores, and of that moment
pub record IsSnapshot (s : Stores) (now : ℕ) (bytes : Sequence ℕ) : Type 0 where
  pub what : Snapshot
  pub stands : IsSnapshotOf s now what
  pub fits : CanBeWritten what
  pub written : bytes ≡ snapshot_text what

-- each path of the map is the segments of some bytes, as each path of a request is
abbrev pub HasPaths : ResourceMap → Type 0
HasPaths m = (p : Path) (r : Resource) → at_path m p ≡ Some r → segments (folder_bytes p) ≡ p
