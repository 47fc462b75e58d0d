-- What stands at a number of the tree of files, as a walk gives it (own).
use Rattle.std.specs.Prelude.{◌≡◌, ℕ, List, Some, unwrap_or}
use Rattle.std.specs.FinMap.{len}
use Rattle.std.specs.List.{AllByRecursion}
use Rattle.dav_path_core.specs.Keyed.{item, parent_number, IsKnown}
use Rattle.dav_files_core.specs.Outcomes.{new_folder}
use Rattle.dav_files_core.specs.Resources.{Node}
use Rattle.dav_files_core.specs.Walks.{Stored}
use Rattle.dav_files_core.specs.Private.FileRepresents.{FileTree, node_path}

-- at a number, with that node
abbrev pub stored_with : FileTree → ℕ → Node → Stored
stored_with t id node = record { path = node_path t.nodes (len t.nodes) id; resource = record { number = id; node = node }; folder = parent_number t id }

-- an empty folder where nothing stands
abbrev pub stored_at : FileTree → ℕ → Stored
stored_at t id = stored_with t id (unwrap_or (item t id) (new_folder 0))

abbrev pub IsNodeOf : FileTree → ℕ → Node → Type 0
IsNodeOf t id node = item t id ≡ Some node

abbrev pub AreKnown : FileTree → List ℕ → Type 0
AreKnown t ids = AllByRecursion (IsKnown t) ids
