-- A move as an equality of whole maps: where the entry at each path comes from, and nothing else (RFC 4918 section 9.9).
use Rattle.std.specs.Prelude.{◌++◌, Option, Some, None, option_map, filter_map, is_some, if◌then◌else◌}
use Rattle.std.specs.FinMap.{entries, from_entries}
use Rattle.dav_path_core.specs.Fronts.{Path, behind}
use Rattle.dav_files_core.specs.Resources.{Resource, ResourceMap}

-- the path that an entry has after a move, if it is still there: what is at or below the source goes along, what is at or
-- below the target goes away, and all else stays
abbrev pub path_after : Path → Path → Path → Option Path
path_after from to p = elim (behind from p) [
  | Some s ↦ Some (to ++ s)
  | None ↦ if is_some (behind to p) then None else Some p
]

abbrev pub moved_entry : Path → Path → Path × Resource → Option (Path × Resource)
moved_entry from to e = option_map (λ p. (p, e.1)) (path_after from to e.0)

-- the map in which all at or below the source is at or below the target, with its numbers
abbrev pub moved_map : ResourceMap → Path → Path → ResourceMap
moved_map m from to = record { entries = from_entries (filter_map (moved_entry from to) (entries m.entries)); next = m.next }
