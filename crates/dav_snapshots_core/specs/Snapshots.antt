-- What stands in stores at a moment, as plain data (own).
use Rattle.std.specs.Prelude.{◌≡◌, ℕ, List, map}
use Rattle.std.specs.FinMap.{values}
use Rattle.std.specs.List.{AllByRecursion}
use Rattle.dav_path_core.specs.Fronts.{Path}
use Rattle.dav_files_core.specs.declared.memfs.Kind.{Kind}
use Rattle.dav_files_core.specs.Resources.{IsResourceMap, Property, Resource}
use Rattle.dav_files_core.specs.Restoring.{properties_from}
use Rattle.dav_files_core.specs.Walks.{IsMapWalk, Stored}
use Rattle.dav_locks_core.specs.Exclusive.{Exclusive}
use Rattle.dav_locks_core.specs.Lock.{Lock}
use Rattle.dav_guarded_core.specs.Stores.{Stores}

-- a folder or a file, with its properties in their order
pub record SnapshotEntry : Type 0 where
  pub path : Path
  pub number : ℕ
  pub kind : Kind
  pub created : ℕ
  pub modified : ℕ
  pub props : List Property
  pub bytes : List ℕ

-- the last moment, the next number, the folders and files, and the locks in the order of granting
pub record Snapshot : Type 0 where
  pub now : ℕ
  pub next : ℕ
  pub entries : List SnapshotEntry
  pub locks : List Lock

-- of what a walk gives
abbrev pub snapshot_entry : Stored → SnapshotEntry
snapshot_entry s = record {
  path = s.path;
  number = s.resource.number;
  kind = s.resource.node.kind;
  created = s.resource.node.created;
  modified = s.resource.node.modified;
  props = values s.resource.node.props;
  bytes = s.resource.node.bytes;
}

-- what stands again where an entry is restored
abbrev pub resource_from : SnapshotEntry → Resource
resource_from e = record {
  number = e.number;
  node = record { kind = e.kind; bytes = e.bytes; props = properties_from e.props; created = e.created; modified = e.modified };
}

-- restored from its properties in their order, it has them all
abbrev pub HasWholeProps : Stored → Type 0
HasWholeProps s = properties_from (values s.resource.node.props) ≡ s.resource.node.props

-- it is what stands in the stores, in the order of a walk, and that moment
pub record IsSnapshotOf (s : Stores) (moment : ℕ) (x : Snapshot) : Type 0 where
  pub walk : List Stored
  pub walked : IsMapWalk s.map walk
  pub entries : x.entries ≡ map snapshot_entry walk
  pub whole : AllByRecursion HasWholeProps walk
  pub locks : x.locks ≡ s.locks
  pub next : x.next ≡ s.map.next
  pub now : x.now ≡ moment
  pub shape : IsResourceMap s.map
  pub exclusive : Exclusive s.locks
