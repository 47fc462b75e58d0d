-- The paths of a folder's members (RFC 4918 section 5.2).
use Rattle.std.specs.Prelude.{List, [], ◌∷◌, ◌++◌, map}
use Rattle.std.specs.FinMap.{entries}
use Rattle.dav_path_core.specs.Fronts.{Segment, Path}
use Rattle.dav_files_core.specs.Finding.{members}
use Rattle.dav_files_core.specs.Resources.{Resource, ResourceMap}

-- of names of members
abbrev pub paths_in : Path → List Segment → List Path
paths_in p names = map (λ name. p ++ (name ∷ [])) names

-- by the bytes of their names; none where no folder stands
abbrev pub paths_of_members : ResourceMap → Path → List Path
paths_of_members m p = paths_in p (map (λ (e : Segment × Resource). e.0) (entries (members m p)))
