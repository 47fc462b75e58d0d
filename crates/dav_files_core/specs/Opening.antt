-- Opening a file (own).
use Rattle.std.specs.Prelude.{ℕ, Bool, [], Option, Some, None, Ok, Err, if◌then◌else◌}
use Rattle.dav_path_core.specs.declared.errors.FsError.TheVariants.{Exists}
use Rattle.dav_path_core.specs.Fronts.{Path, parent}
use Rattle.dav_files_core.specs.declared.fs.OpenOptions.{OpenOptions}
use Rattle.dav_files_core.specs.Resources.{Resource, ResourceMap, at_path}
use Rattle.dav_files_core.specs.Finding.{find}
use Rattle.dav_files_core.specs.Outcomes.{Outcome, ◌>>=◌, only_file, find_folder, with_new_entry, with_other_node, new_file}

-- an open file: the number of its entry, where it stands in the bytes, and whether it writes at their end
pub record OpenFile : Type 0 where
  pub number : ℕ
  pub position : ℕ
  pub append : Bool

abbrev pub opened_file : ℕ → OpenOptions → OpenFile
opened_file number options = record { number = number; position = 0; append = options.append }

-- the map with a file emptied, if it is asked for
abbrev pub emptied_if : ResourceMap → Path → Resource → Bool → ℕ → ResourceMap
emptied_if m p r asked now = if asked then with_other_node m p r (record r.node { bytes = []; modified = now }) else m

-- by what stands at the path
abbrev pub opening_at : ResourceMap → Path → OpenOptions → ℕ → Option Resource → Outcome OpenFile
opening_at m p options now (Some r) =
    if options.create_new then Err Exists
    else (only_file r >>= λ r. Ok (opened_file r.number options, emptied_if m p r options.truncate now))
opening_at m p options now None =
    if options.create then (find_folder m (parent p) >>= λ _. Ok (opened_file m.next options, with_new_entry m p (new_file [] now)))
    else (find m p >>= λ r. Ok (opened_file r.number options, m))

-- a file is opened; a missing one is made in its folder, if it is asked for
abbrev pub opening : ResourceMap → Path → OpenOptions → ℕ → Outcome OpenFile
opening m p options now = opening_at m p options now (at_path m p)
