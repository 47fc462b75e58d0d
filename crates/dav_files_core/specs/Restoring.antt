-- Entries that are made anew as they stood, with their numbers, times, contents and properties (own).
use Rattle.std.specs.Prelude.{◌≡◌, ℕ, ◌+◌, max, ◌==◌, ◌||◌, ◌&&◌, not, Bool, true, false, List, [], ◌∷◌, map, Option, Some, None, is_some, Ok, Err, if◌then◌else◌}
use Rattle.std.specs.List.{fold}
use Rattle.std.specs.FinMap.{empty}
use Rattle.dav_path_core.specs.declared.errors.FsError.TheVariants.{Exists, Forbidden}
use Rattle.dav_path_core.specs.Fronts.{Path, parent}
use Rattle.dav_path_core.specs.Keyed.{is_out_of_range}
use Rattle.dav_files_core.specs.declared.memfs.Kind.{Kind}
use Rattle.dav_files_core.specs.declared.memfs.Kind.TheVariants.{Folder, File}
use Rattle.dav_files_core.specs.declared.memfs.restoring.MemFsRestored.{MemFsRestored}
use Rattle.dav_files_core.specs.Resources.{is_folder, Property, Properties, Resource, ResourceMap, at_path}
use Rattle.dav_files_core.specs.Finding.{has_any}
use Rattle.dav_files_core.specs.Folders.{is_root}
use Rattle.dav_files_core.specs.OpenFiles.{with_number}
use Rattle.dav_files_core.specs.Properties.{patched_by, property_of}
use Rattle.dav_files_core.specs.Outcomes.{Outcome, ◌>>=◌, find_folder, added_as, with_other_node, start}

-- a property at its key, in place of one that is there
abbrev pub with_property : Properties → Property → Properties
with_property props p = patched_by props (true, p)

-- each at its key; of some with one key the last
abbrev pub properties_from : List Property → Properties
properties_from props = fold with_property empty props

-- an entry as a call is given it, as plain data
abbrev pub resource_of : MemFsRestored → Resource
resource_of e = record {
  number = e.number;
  node = record { kind = e.kind; bytes = e.content; props = properties_from (map property_of e.props.items); created = e.created.0; modified = e.modified.0 };
}

-- a number may be its own, and a folder has no bytes
abbrev pub can_stand : Resource → Bool
can_stand r = not (is_out_of_range r.number) && not (is_folder r.node.kind && has_any r.node.bytes)

-- it is the folder that stands at the root
abbrev pub is_root_folder : Path → Resource → Bool
is_root_folder p r = is_root p && ((r.number == 1) && is_folder r.node.kind)

-- the map with that entry at a path that had none; the next number is above its own
abbrev pub with_restored_entry : ResourceMap → Path → Resource → ResourceMap
with_restored_entry m p r = added_as m p r.node r.number (max m.next (r.number + 1))

-- by what stands at the path: the root alone, which is always there, is restored where it stands
abbrev pub restore_at : ResourceMap → Path → Resource → Option Resource → Outcome (Unit {0})
restore_at m p r (Some x) = if is_root_folder p r then Ok (tt, with_other_node m p x r.node) else Err Exists
restore_at m p r None = find_folder m (parent p) >>= λ _. if is_some (with_number m r.number) then Err Exists else Ok (tt, with_restored_entry m p r)

-- an entry that can stand is put at its path, under its number
abbrev pub restore : ResourceMap → Path → Resource → Outcome (Unit {0})
restore m p r = if can_stand r then restore_at m p r (at_path m p) else Err Forbidden

-- no number below that is given any more
abbrev pub with_later_next : ResourceMap → ℕ → ResourceMap
with_later_next m next = record { entries = m.entries; next = max m.next next }

-- one entry after another; the first refusal ends it
abbrev pub restore_all : ResourceMap → List (Path × Resource) → Outcome (Unit {0})
restore_all m [] = Ok (tt, m)
restore_all m (e ∷ es) = restore m e.0 e.1 >>= λ r. restore_all r.1 es

-- the entries of a map, restored in the order of a walk to a store that is new, with the next number make that map
abbrev pub IsRestoredFrom : ResourceMap → List (Path × Resource) → ℕ → Type 0
IsRestoredFrom m es now = (n : ResourceMap) × (restore_all (start now) es ≡ Ok (tt, n)) × (with_later_next n m.next ≡ m)
