-- How a snapshot is read from the left, what stands in the stores then, and where its first fault is (own).
use Rattle.std.specs.Prelude.{◌==◌, ℕ, zero, suc, Bool, true, false, List as Sequence, [], ◌∷◌, ◌++◌, length, drop, map, take, Option, Result, Ok, Err, if◌then◌else◌}
use Rattle.dav_path_core.specs.Fronts.{Path}
use Rattle.dav_path_core.specs.PathText.{PathText, folder_bytes}
use Rattle.dav_path_core.specs.Segments.{segments}
use Rattle.dav_path_core.specs.declared.errors.FsError.{FsError}
use Rattle.dav_files_core.specs.declared.memfs.Kind.{Kind}
use Rattle.dav_files_core.specs.declared.memfs.Kind.TheVariants.{Folder, File}
use Rattle.dav_files_core.specs.declared.memfs.restoring.MemFsRestored.{MemFsRestored}
use Rattle.dav_files_core.specs.Properties.{property_of}
use Rattle.dav_files_core.specs.Resources.{Property, ResourceMap}
use Rattle.dav_files_core.specs.Restoring.{restore, with_later_next}
use Rattle.dav_locks_core.specs.Lock.{Lock}
use Rattle.dav_locks_core.specs.Locks.{lock_conflicts, lock_path}
use Rattle.dav_guarded_core.specs.Stores.{Stores, start_stores}
use Rattle.dav_effects_core.specs.ByteForms.{Reading, ◌>>=◌, pair_at, value_at, only_at, eight_bytes_at, counted_at, utf8_at, flag_at, optional_at, each_at, following_at}
use Rattle.dav_effects_core.specs.RecordReading.{body_is_left, path_at, property_at, whole_of_parts}
use Rattle.dav_snapshots_core.specs.Snapshots.{SnapshotEntry, resource_from}

-- so often, each time from what the time before left
unfoldable pub repeat_at : {A : Type 0} → (A → Reading A) → ℕ → A → Reading A
repeat_at step zero a bytes = Ok (a, bytes)
repeat_at step (suc n) a bytes = step a bytes >>= λ x. repeat_at step n x.0 x.1

-- as often as the number in front says
unfoldable pub steps_at : {A : Type 0} → (A → Reading A) → A → Reading A
steps_at step a bytes = eight_bytes_at bytes >>= λ n. repeat_at step n.0 a n.1

-- what the next one stands behind: the bytes of the path before, and the bytes of files that are left; and the stores as they are by then
pub record Standing : Type 0 where
  pub path : Sequence ℕ
  pub bodies : Sequence ℕ
  pub stores : Stores

abbrev pub standing : Sequence ℕ → Sequence ℕ → Stores → Standing
standing path bodies stores = record { path = path; bodies = bodies; stores = stores }

-- ---- folders and files

abbrev pub kind_if : Bool → Kind
kind_if true = Folder
kind_if false = File

abbrev pub EntryFields : Type 0
EntryFields = Path × (ℕ × (Bool × (ℕ × (ℕ × (Sequence Property × ℕ)))))

abbrev pub entry_from : Sequence ℕ → EntryFields → SnapshotEntry
entry_from bodies x = record {
  path = x.0;
  number = x.1.0;
  kind = kind_if x.1.1.0;
  created = x.1.1.1.0;
  modified = x.1.1.1.1.0;
  props = x.1.1.1.1.1.0;
  bytes = take x.1.1.1.1.1.1 bodies;
}

unfoldable pub stored_entry_at : Sequence ℕ → Sequence ℕ → Reading SnapshotEntry
stored_entry_at before bodies = value_at (entry_from bodies) (only_at (λ x. body_is_left bodies x.1.1.1.1.1.1)
    (pair_at (path_at before) (λ _. pair_at eight_bytes_at (λ _. pair_at flag_at (λ _. pair_at eight_bytes_at (λ _. pair_at eight_bytes_at (λ _. pair_at (each_at property_at) (λ _. eight_bytes_at))))))))

-- an entry that is to be restored at a path, as plain data
abbrev pub entry_with : PathText → MemFsRestored → SnapshotEntry
entry_with path e = record {
  path = segments path.bytes;
  number = e.number;
  kind = e.kind;
  created = e.created.0;
  modified = e.modified.0;
  props = map property_of e.props.items;
  bytes = e.content;
}

-- the stores with another map; or the fault is what begins with so many bytes left
abbrev pub with_restored_map : ℕ → Stores → Result (Unit {0} × ResourceMap) FsError → Result Stores ℕ
with_restored_map left s (Ok x) = Ok (record { map = x.1; locks = s.locks })
with_restored_map left s (Err e) = Err left

-- an entry, which is restored, and what the next one stands behind
unfoldable pub entry_step : Standing → Reading Standing
entry_step s bytes = stored_entry_at s.path s.bodies bytes >>= λ e. with_restored_map (length bytes) s.stores (restore s.stores.map e.0.path (resource_from e.0)) >>= λ stores.
    Ok (standing (folder_bytes e.0.path) (drop (length e.0.bytes) s.bodies) stores, e.1)

-- ---- locks

abbrev pub LockFields : Type 0
LockFields = Sequence ℕ × (Sequence ℕ × (Sequence ℕ × (Option (Sequence ℕ) × (Option (Sequence ℕ) × (Option ℕ × (Option ℕ × (Bool × Bool)))))))

abbrev pub lock_from : LockFields → Lock
lock_from x = record {
  token = x.0;
  path = record { prefix = x.1.0; bytes = x.1.1.0 };
  principal = x.1.1.1.0;
  owner = x.1.1.1.1.0;
  timeout_at = x.1.1.1.1.1.0;
  timeout = x.1.1.1.1.1.1.0;
  shared = x.1.1.1.1.1.1.1.0;
  deep = x.1.1.1.1.1.1.1.1;
}

unfoldable pub stored_lock_at : Sequence ℕ → Reading Lock
stored_lock_at before = value_at lock_from (pair_at utf8_at (λ _. pair_at utf8_at (λ _. pair_at (following_at before) (λ _. pair_at (optional_at utf8_at) (λ _. pair_at (optional_at utf8_at)
    (λ _. pair_at (optional_at eight_bytes_at) (λ _. pair_at (optional_at eight_bytes_at) (λ _. pair_at flag_at (λ _. flag_at)))))))))

-- the stores with the lock, where none stands in its way; or the fault is what begins with so many bytes left
abbrev pub with_restored_lock : ℕ → Stores → Lock → Result Stores ℕ
with_restored_lock left s l = if length (lock_conflicts s.locks (lock_path l) l.shared l.deep) == 0 then Ok (record { map = s.map; locks = s.locks ++ l ∷ [] }) else Err left

-- a lock, which is restored, and what the next one stands behind
unfoldable pub lock_step : Standing → Reading Standing
lock_step s bytes = stored_lock_at s.path bytes >>= λ l. with_restored_lock (length bytes) s.stores l.0 >>= λ stores. Ok (standing l.0.path.bytes s.bodies stores, l.1)

-- ---- a snapshot

-- no lower number is given then
abbrev pub numbered_from : ℕ → Stores → Stores
numbered_from next s = record { map = with_later_next s.map next; locks = s.locks }

-- the stores and the moment of a head that has nothing behind it, and the bytes of files that are left
unfoldable pub snapshot_head_at : Sequence ℕ → Sequence ℕ → Result ((Stores × ℕ) × Sequence ℕ) ℕ
snapshot_head_at bodies head = eight_bytes_at head >>= λ now. eight_bytes_at now.1 >>= λ next.
    steps_at entry_step (standing [] bodies (start_stores now.0)) next.1 >>= λ s.
    steps_at lock_step (standing [] s.0.bodies (numbered_from next.0 s.0.stores)) s.1 >>= λ t.
    if length t.1 == 0 then Ok ((t.0.stores, now.0), t.0.bodies) else Err (length t.1)

-- the stores and the moment of a snapshot, or the byte at which its first fault is
unfoldable pub snapshot_at : Sequence ℕ → Result (Stores × ℕ) ℕ
snapshot_at bytes = whole_of_parts snapshot_head_at (length bytes) (counted_at bytes)
