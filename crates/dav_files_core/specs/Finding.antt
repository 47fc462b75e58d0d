-- Finding a path in a resource map, the members of a folder, and what stands at a path (RFC 4918 section 5.2).
use Rattle.std.specs.Prelude.{Bool, true, false, List, [], ◌∷◌, Option, None, Result, option_map, ok_or, filter_map}
use Rattle.std.specs.Option.{option_or, option_map_or}
use Rattle.std.specs.FinMap.{FinMap, entries, from_entries, keys}
use Rattle.dav_path_core.specs.declared.errors.FsError.{FsError}
use Rattle.dav_path_core.specs.declared.errors.FsError.TheVariants.{NotFound, Forbidden}
use Rattle.dav_path_core.specs.Fronts.{Segment, Path, segment_cmp, shorter_fronts, name_below}
use Rattle.dav_files_core.specs.declared.memfs.Kind.{Kind}
use Rattle.dav_files_core.specs.declared.memfs.Kind.TheVariants.{Folder, File}
use Rattle.dav_files_core.specs.Resources.{Resource, ResourceMap, at_path}

-- the first of some paths that has an entry
abbrev pub first_found : ResourceMap → List Path → Option Resource
first_found m [] = None
first_found m (p ∷ ps) = option_or (at_path m p) (first_found m ps)

-- what is said of a path that leads on from an entry where nothing is
abbrev pub refusal_below : Kind → FsError
refusal_below Folder = NotFound
refusal_below File = Forbidden

-- why a path is not found: its longest existing front is a file, or it is a folder
abbrev pub refusal_at : ResourceMap → Path → FsError
refusal_at m p = option_map_or (λ r. refusal_below r.node.kind) (first_found m (shorter_fronts p)) NotFound

-- the entry at a path, or why there is none
abbrev pub find : ResourceMap → Path → Result Resource FsError
find m p = ok_or (at_path m p) (refusal_at m p)

-- an entry of the map, as a member of the folder at `p`
abbrev pub member_of : Path → Path × Resource → Option (Segment × Resource)
member_of p e = option_map (λ name. (name, e.1)) (name_below p e.0)

-- the members of a folder, by their names
abbrev pub members : ResourceMap → Path → FinMap segment_cmp Resource
members m p = from_entries (filter_map (member_of p) (entries m.entries))

abbrev pub has_any : {A : Type 0} → List A → Bool
has_any [] = false
has_any (x ∷ xs) = true

abbrev pub has_members : ResourceMap → Path → Bool
has_members m p = has_any (entries (members m p))

-- the place at a path: the entry there, nothing included, and the names of its members
abbrev pub place : ResourceMap → Path → Option Resource × List Segment
place m p = (at_path m p, keys (members m p))
