-- The answers of commands on a resource map, and the changes that they make.
use Rattle.std.specs.Prelude.{ℕ, ◌+◌, List, [], Option, Some, None, Result, Ok, Err}
use Rattle.std.specs.FinMap.{insert, remove, empty}
use Rattle.dav_path_core.specs.declared.errors.FsError.{FsError}
use Rattle.dav_path_core.specs.declared.errors.FsError.TheVariants.{Forbidden}
use Rattle.dav_path_core.specs.Fronts.{Path}
use Rattle.dav_files_core.specs.declared.memfs.Kind.TheVariants.{Folder, File}
use Rattle.dav_files_core.specs.Resources.{Node, Resource, ResourceMap, at_path}
use Rattle.dav_files_core.specs.Finding.{find}

-- an answer with the map that is left, or a refusal, which leaves the map as it was
abbrev pub Outcome : Type 0 → Type 0
Outcome A = Result (A × ResourceMap) FsError

-- goes on with an answer, and ends at a refusal: refusals come in the written order
infixl 10 ◌>>=◌
abbrev pub ◌>>=◌ : {A B : Type 0} → Result A FsError → (A → Result B FsError) → Result B FsError
(Ok x) >>= f = f x
(Err e) >>= f = Err e

abbrev pub only_folder : Resource → Result Resource FsError
only_folder r = elim r.node.kind [ Folder ↦ Ok r | File ↦ Err Forbidden ]

abbrev pub only_file : Resource → Result Resource FsError
only_file r = elim r.node.kind [ Folder ↦ Err Forbidden | File ↦ Ok r ]

-- the folder at a path; a file there is forbidden
abbrev pub find_folder : ResourceMap → Path → Result Resource FsError
find_folder m p = find m p >>= only_folder

-- the map with an entry at a path that had none, with its number and a next one
abbrev pub added_as : ResourceMap → Path → Node → ℕ → ℕ → ResourceMap
added_as m p node number next = record { entries = insert m.entries p (record { number = number; node = node }); next = next }

-- the same of an entry that takes the next number
abbrev pub with_new_entry : ResourceMap → Path → Node → ResourceMap
with_new_entry m p node = added_as m p node m.next (m.next + 1)

-- the map with another node at a path whose entry is given; the number stays
abbrev pub with_other_node : ResourceMap → Path → Resource → Node → ResourceMap
with_other_node m p r node = record { entries = insert m.entries p (record { number = r.number; node = node }); next = m.next }

-- the map without the entry at a path
abbrev pub without : ResourceMap → Path → ResourceMap
without m p = record { entries = remove m.entries p; next = m.next }

abbrev pub touched_at : ResourceMap → Path → ℕ → Option Resource → ResourceMap
touched_at m p now None = m
touched_at m p now (Some r) = with_other_node m p r (record r.node { modified = now })

-- the map with the modified time of the entry at a path set
abbrev pub with_modified_time : ResourceMap → Path → ℕ → ResourceMap
with_modified_time m p now = touched_at m p now (at_path m p)

abbrev pub new_file : List ℕ → ℕ → Node
new_file bytes now = record { kind = File; bytes = bytes; props = empty; created = now; modified = now }

abbrev pub new_folder : ℕ → Node
new_folder now = record { kind = Folder; bytes = []; props = empty; created = now; modified = now }

-- the map of a new store: a root folder without members
abbrev pub start : ℕ → ResourceMap
start now = record { entries = insert empty [] (record { number = 1; node = new_folder now }); next = 2 }
