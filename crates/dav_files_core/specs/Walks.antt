-- A walk of all that stands in a store (own).
use Rattle.std.specs.Prelude.{◌≡◌, ℕ, List, [], ◌∷◌, ◌++◌, map, Contains, Option, Some, None}
use Rattle.std.specs.List.Sorted.{IsPermutation}
use Rattle.std.specs.FinMap.{entries}
use Rattle.dav_path_core.specs.Fronts.{Segment, Path}
use Rattle.dav_files_core.specs.Resources.{Resource, ResourceMap}

-- an entry as it stands, and the number of the folder that it stands in
pub record Stored : Type 0 where
  pub path : Path
  pub resource : Resource
  pub folder : Option ℕ

abbrev pub stored_entry : Stored → Path × Resource
stored_entry s = (s.path, s.resource)

-- the root stands in no folder, and each other in one that is in front
abbrev pub StandsBehind : List Stored → Path → Option ℕ → Type 0
StandsBehind front p None = p ≡ []
StandsBehind front p (Some folder) = (f : Stored) × (name : Segment) × Contains front f × (f.resource.number ≡ folder) × (p ≡ f.path ++ name ∷ [])

-- the entries of the map, each once, and each behind the folder that it stands in
pub record IsMapWalk (m : ResourceMap) (ss : List Stored) : Type 0 where
  pub all : IsPermutation (entries m.entries) (map stored_entry ss)
  pub behind : (front rest : List Stored) (s : Stored) → ss ≡ front ++ s ∷ rest → StandsBehind front s.path s.folder
