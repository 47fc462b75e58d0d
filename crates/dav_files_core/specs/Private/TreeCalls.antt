-- What the private calls of `memfs` find in its tree, and what they write there (own).
use Rattle.std.specs.Prelude.{◌≡◌, ℕ, List, [], ◌∷◌, ◌++◌, Some, None, Result, Ok, Err}
use Rattle.std.specs.FinMap.{get}
use Rattle.dav_path_core.specs.declared.errors.FsError.{FsError}
use Rattle.dav_path_core.specs.declared.errors.FsError.TheVariants.{NotFound}
use Rattle.dav_path_core.specs.Fronts.{Segment, Path, parent}
use Rattle.dav_path_core.specs.Keyed.{with_item_at}
use Rattle.dav_files_core.specs.declared.memfs.Target.{Target}
use Rattle.dav_files_core.specs.declared.memfs.Target.TheVariants.{Entry, Missing}
use Rattle.dav_files_core.specs.Resources.{Node, Resource, ResourceMap}
use Rattle.dav_files_core.specs.Finding.{find}
use Rattle.dav_files_core.specs.Outcomes.{◌>>=◌, find_folder}
use Rattle.dav_files_core.specs.Private.FileRepresents.{FileTree, FileEntry}

-- the number of the entry at a path
abbrev pub entry_number : ResourceMap → Path → Result ℕ FsError
entry_number m p = find m p >>= λ r. Ok r.number

-- an entry with a number
abbrev pub IsEntry : ResourceMap → Path → ℕ → Type 0
IsEntry m p id = (r : Resource) × (find m p ≡ Ok r) × (r.number ≡ id)

-- no entry, but its folder with a number; the name is the last segment
abbrev pub IsMissing : ResourceMap → Path → ℕ → Segment → Type 0
IsMissing m p folder name = (find m p ≡ Err NotFound) × (p ≡ parent p ++ (name ∷ [])) × ((r : Resource) × (find_folder m (parent p) ≡ Ok r) × (r.number ≡ folder))

-- neither an entry nor its folder is found, and both for one reason
abbrev pub IsRefusedAlike : ResourceMap → Path → FsError → Type 0
IsRefusedAlike m p e = (find m p ≡ Err e) × (find_folder m (parent p) ≡ Err e)

-- where a path is found to lead
abbrev pub LeadsToTarget : ResourceMap → Path → Result Target FsError → Type 0
LeadsToTarget m p (Ok (Entry id)) = IsEntry m p id
LeadsToTarget m p (Ok (Missing folder name)) = IsMissing m p folder name.now
LeadsToTarget m p (Err e) = IsRefusedAlike m p e

-- the member of a folder with a name, by its number
abbrev pub IsMember : FileTree → ℕ → Segment → ℕ → Type 0
IsMember t folder name id = (item : Node) × (get t.nodes id ≡ Some (record { parent_and_key = Some (folder, name); item = item }))

-- a member that is there, or there is none
abbrev pub FindsMember : FileTree → ℕ → Segment → Result ℕ FsError → Type 0
FindsMember t folder name (Ok id) = IsMember t folder name id
FindsMember t folder name (Err e) = (e ≡ NotFound) × ((id : ℕ) → ¬ (IsMember t folder name id))

abbrev pub IsThere : FileTree → ℕ → Type 0
IsThere t id = (n : FileEntry) × (get t.nodes id ≡ Some n)

-- the node with a number, or there is none
abbrev pub FindsNode : FileTree → ℕ → Result Node FsError → Type 0
FindsNode t id (Ok node) = (n : FileEntry) × (get t.nodes id ≡ Some n) × (n.item ≡ node)
FindsNode t id (Err e) = (e ≡ NotFound) × (get t.nodes id ≡ None)

-- a node has other bytes and another modified time, or there is none
abbrev pub WritesFile : FileTree → ℕ → List ℕ → ℕ → Result (Unit {0}) FsError → FileTree → Type 0
WritesFile old id bytes now (Ok done) new = (n : FileEntry) × (get old.nodes id ≡ Some n) × (new ≡ with_item_at old id (Some n) (record n.item { bytes = bytes; modified = now }))
WritesFile old id bytes now (Err e) new = (e ≡ NotFound) × (get old.nodes id ≡ None) × (new ≡ old)

-- a node becomes another, or there is none
abbrev pub SetsNode : FileTree → ℕ → (Node → Node) → Result (Unit {0}) FsError → FileTree → Type 0
SetsNode old id set (Ok done) new = (n : FileEntry) × (get old.nodes id ≡ Some n) × (new ≡ with_item_at old id (Some n) (set n.item))
SetsNode old id set (Err e) new = (e ≡ NotFound) × (get old.nodes id ≡ None) × (new ≡ old)
