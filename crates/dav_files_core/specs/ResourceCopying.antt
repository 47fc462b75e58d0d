-- Copying one entry (RFC 4918 section 9.8). A folder is copied without its members, as with `Depth: 0`.
use Rattle.std.specs.Prelude.{ℕ, Option, Some, None, Ok}
use Rattle.dav_path_core.specs.Fronts.{Path, parent}
use Rattle.dav_files_core.specs.Resources.{Node, Resource, ResourceMap, at_path}
use Rattle.dav_files_core.specs.Finding.{find}
use Rattle.dav_files_core.specs.Outcomes.{Outcome, ◌>>=◌, only_file, find_folder, with_new_entry, with_other_node}

-- by what stands at the target: a file keeps its number, and a folder is forbidden
abbrev pub copy_to : ResourceMap → Path → Node → Option Resource → Outcome (Unit {0})
copy_to m to node (Some target) = only_file target >>= λ target. Ok (tt, with_other_node m to target node)
copy_to m to node None = find_folder m (parent to) >>= λ _. Ok (tt, with_new_entry m to node)

-- the target becomes as the source, its modified time too, but for its time of creation
abbrev pub copy : ResourceMap → Path → Path → ℕ → Outcome (Unit {0})
copy m from to now = find m from >>= λ r. copy_to m to (record r.node { created = now }) (at_path m to)
