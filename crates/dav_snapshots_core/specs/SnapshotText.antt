-- What is written of a snapshot, byte by byte (own).
use Rattle.std.specs.Prelude.{ℕ, List as Sequence, [], ◌∷◌, ◌++◌, length}
use Rattle.std.specs.List.{flat_map}
use Rattle.dav_path_core.specs.PathText.{folder_bytes}
use Rattle.dav_files_core.specs.Resources.{is_folder}
use Rattle.dav_locks_core.specs.Lock.{Lock}
use Rattle.dav_effects_core.specs.ByteForms.{counted_text, each_text, flag_text, following_text, number_text, optional_text}
use Rattle.dav_effects_core.specs.RecordText.{path_text, stored_property_text}
use Rattle.dav_snapshots_core.specs.Snapshots.{Snapshot, SnapshotEntry}

-- a folder or a file behind a path; of its bytes only how many they are
unfoldable pub entry_text : Sequence ℕ → SnapshotEntry → Sequence ℕ
entry_text before e =
    path_text before e.path ++ (number_text e.number ++ (flag_text (is_folder e.kind) ++ (number_text e.created ++ (number_text e.modified ++ (each_text stored_property_text e.props ++ number_text (length e.bytes))))))

-- each behind the one before
unfoldable pub entries_text : Sequence ℕ → Sequence SnapshotEntry → Sequence ℕ
entries_text before [] = []
entries_text before (e ∷ es) = entry_text before e ++ entries_text (folder_bytes e.path) es

-- a lock behind a path
unfoldable pub lock_text : Sequence ℕ → Lock → Sequence ℕ
lock_text before l =
    counted_text l.token ++ (counted_text l.path.prefix ++ (following_text before l.path.bytes ++ (optional_text counted_text l.principal ++ (optional_text counted_text l.owner
    ++ (optional_text number_text l.timeout_at ++ (optional_text number_text l.timeout ++ (flag_text l.shared ++ flag_text l.deep)))))))

-- each behind the one before
unfoldable pub locks_text : Sequence ℕ → Sequence Lock → Sequence ℕ
locks_text before [] = []
locks_text before (l ∷ ls) = lock_text before l ++ locks_text l.path.bytes ls

-- the moment, the next number, how many folders and files there are, each, how many locks there are, and each
abbrev pub snapshot_head : Snapshot → Sequence ℕ
snapshot_head x = number_text x.now ++ (number_text x.next ++ (number_text (length x.entries) ++ (entries_text [] x.entries ++ (number_text (length x.locks) ++ locks_text [] x.locks))))

abbrev pub snapshot_bodies : Snapshot → Sequence ℕ
snapshot_bodies x = flat_map (λ e. e.bytes) x.entries

-- how long the head is, the head, and the bytes of the files
abbrev pub snapshot_text : Snapshot → Sequence ℕ
snapshot_text x = counted_text (snapshot_head x) ++ snapshot_bodies x
