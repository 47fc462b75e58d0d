-- Renaming (RFC 4918 section 9.9).
use Rattle.std.specs.Prelude.{ℕ, [], ◌∷◌, Option, Some, None, Result, Ok, Err, if◌then◌else◌}
use Rattle.dav_path_core.specs.declared.errors.FsError.{FsError}
use Rattle.dav_path_core.specs.declared.errors.FsError.TheVariants.{Exists, Forbidden}
use Rattle.dav_path_core.specs.Fronts.{Path, parent, behind}
use Rattle.dav_files_core.specs.Resources.{ResourceMap}
use Rattle.dav_files_core.specs.Finding.{find, has_members}
use Rattle.dav_files_core.specs.Folders.{is_root}
use Rattle.dav_files_core.specs.Moved.{moved_map}
use Rattle.dav_files_core.specs.Outcomes.{Outcome, ◌>>=◌, find_folder, with_modified_time}

-- by what is behind the source in the target: at its own place nothing moves, and nothing moves to below itself
abbrev pub put_elsewhere : ResourceMap → Path → Path → Option Path → Result ResourceMap FsError
put_elsewhere m from to (Some []) = Ok m
put_elsewhere m from to (Some (s ∷ below)) = Err Forbidden
put_elsewhere m from to None = Ok (moved_map m from to)

-- the map with the source put at the target, where the source and the target's folder are there
abbrev pub relocated_map : ResourceMap → Path → Path → Result ResourceMap FsError
relocated_map m from to =
    if is_root to then Err (if is_root from then Forbidden else Exists)
    else (if has_members m to then Err Exists
    else (if is_root from then Err Forbidden
    else put_elsewhere m from to (behind from to)))

-- the source, with all below it, is put at the target, where an entry without members goes; the modified times of both
-- folders are set
abbrev pub rename : ResourceMap → Path → Path → ℕ → Outcome (Unit {0})
rename m from to now =
    find m from >>= λ _.
    find_folder m (parent to) >>= λ _.
    relocated_map m from to >>= λ m. Ok (tt, with_modified_time (with_modified_time m (parent from) now) (parent to) now)
