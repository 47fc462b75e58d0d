-- Folders made, and folders and files removed (RFC 4918 sections 9.3 and 9.6).
use Rattle.std.specs.Prelude.{ℕ, Bool, true, false, ◌||◌, [], ◌∷◌, is_some, Ok, Err, if◌then◌else◌}
use Rattle.dav_path_core.specs.declared.errors.FsError.TheVariants.{Exists, Forbidden}
use Rattle.dav_path_core.specs.Fronts.{Path, parent}
use Rattle.dav_files_core.specs.Resources.{ResourceMap, at_path}
use Rattle.dav_files_core.specs.Finding.{find, has_members}
use Rattle.dav_files_core.specs.Outcomes.{Outcome, ◌>>=◌, find_folder, with_new_entry, with_modified_time, without, new_folder}

abbrev pub is_root : Path → Bool
is_root [] = true
is_root (s ∷ p) = false

-- a folder without members is made in its folder, whose modified time is set
abbrev pub create_dir : ResourceMap → Path → ℕ → Outcome (Unit {0})
create_dir m p now =
    find_folder m (parent p) >>= λ _.
    if is_some (at_path m p) then Err Exists else Ok (tt, with_modified_time (with_new_entry m p (new_folder now)) (parent p) now)

-- an entry without members goes, and its folder's modified time is set; the root stays
abbrev pub remove : ResourceMap → Path → ℕ → Outcome (Unit {0})
remove m p now =
    find m p >>= λ _.
    if is_root p || has_members m p then Err Forbidden else Ok (tt, with_modified_time (without m p) (parent p) now)
