-- What the private changes of `MemFs` ask of their entries, and what they find (own).
use Rattle.std.specs.Prelude.{◌≡◌, ℕ, ◌||◌, [], ◌∷◌, ◌++◌, Option, Some, None, Result, Ok, Err, if◌then◌else◌}
use Rattle.dav_path_core.specs.declared.errors.FsError.{FsError}
use Rattle.dav_path_core.specs.declared.errors.FsError.TheVariants.{Forbidden}
use Rattle.dav_path_core.specs.Fronts.{Segment, Path, parent}
use Rattle.dav_files_core.specs.declared.memfs.Kind.TheVariants.{Folder, File}
use Rattle.dav_files_core.specs.Resources.{Node, Resource, ResourceMap, at_path}
use Rattle.dav_files_core.specs.Finding.{has_members}
use Rattle.dav_files_core.specs.Folders.{is_root}
use Rattle.dav_files_core.specs.Renaming.{relocated_map}
use Rattle.dav_files_core.specs.Outcomes.{Outcome, ◌>>=◌, find_folder, without}

-- some entry has the number
abbrev pub HasNumber : ResourceMap → ℕ → Type 0
HasNumber m id = (p : Path) × (r : Resource) × (at_path m p ≡ Some r) × (r.number ≡ id)

abbrev pub HasFileNumbered : ResourceMap → ℕ → Type 0
HasFileNumbered m id = (p : Path) × (r : Resource) × (at_path m p ≡ Some r) × (r.number ≡ id) × (r.node.kind ≡ File)

abbrev pub HasFolderNumbered : ResourceMap → ℕ → Type 0
HasFolderNumbered m id = (p : Path) × (r : Resource) × (at_path m p ≡ Some r) × (r.number ≡ id) × (r.node.kind ≡ Folder)

-- the folder in which a path stands, by its number; the root stands in none
abbrev pub StandsIn : ResourceMap → Path → Option ℕ → Type 0
StandsIn m p None = p ≡ []
StandsIn m p (Some folder) = (q : Path) × (s : Segment) × (f : Resource) × (p ≡ q ++ (s ∷ [])) × (at_path m q ≡ Some f) × (f.number ≡ folder)

-- the same of a path where nothing need be, or why that folder is not found
abbrev pub FindsFolder : ResourceMap → Path → Result (Option ℕ) FsError → Type 0
FindsFolder m p (Ok None) = p ≡ []
FindsFolder m p (Ok (Some folder)) = (q : Path) × (s : Segment) × (f : Resource) × (p ≡ q ++ (s ∷ [])) × (find_folder m q ≡ Ok f) × (f.number ≡ folder)
FindsFolder m p (Err e) = find_folder m (parent p) ≡ Err e

-- a folder has no bytes
abbrev pub IsBare : Node → Type 0
IsBare node = node.kind ≡ Folder → node.bytes ≡ []

-- an entry without members goes, but for the root
abbrev pub taken_out : ResourceMap → Path → Outcome (Unit {0})
taken_out m p = if is_root p || has_members m p then Err Forbidden else Ok (tt, without m p)

-- an entry is put elsewhere, with all below it
abbrev pub put_there : ResourceMap → Path → Path → Outcome (Unit {0})
put_there m from to = relocated_map m from to >>= λ m. Ok (tt, m)
