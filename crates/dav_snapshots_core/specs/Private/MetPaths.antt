-- The paths of the folders that a walk has given so far.
use Rattle.std.specs.Prelude.{◌≡◌, ◌≢◌, ℕ, List, [], ◌∷◌, ◌++◌, Contains, Option, Some, None, option_map, unwrap_or}
use Rattle.std.specs.BTreeMap.{get}
use Rattle.std.specs.Ordering.{nat_cmp}
use Rattle.dav_path_core.specs.Fronts.{Path, Segment}
use Rattle.dav_path_core.specs.PathText.{folder_bytes}
use Rattle.dav_files_core.specs.declared.memfs.Kind.TheVariants.{Folder}
use Rattle.dav_files_core.specs.Resources.{ResourceMap, IsResourceMap}
use Rattle.dav_files_core.specs.Walks.{IsMapWalk, Stored}
use Rattle.dav_snapshots_core.specs.declared.paths.Met.{Met}

-- the bytes at the number of a folder
abbrev pub met_text : Met → ℕ → List ℕ
met_text met number = unwrap_or (option_map (λ v. v.items) (get nat_cmp met.texts number)) []

-- what stands in that folder has that path, by the bytes that were met
abbrev pub IsMet : Met → Path → Option ℕ → Type 0
IsMet met p None = p ≡ []
IsMet met p (Some folder) = (q : Path) × (name : Segment) × (met_text met folder ≡ folder_bytes q) × (p ≡ q ++ name ∷ [])

-- each folder of these was met
abbrev pub AllMet : Met → List Stored → Type 0
AllMet met front = (f : Stored) → Contains front f → f.resource.node.kind ≡ Folder → met_text met f.resource.number ≡ folder_bytes f.path

-- one more was met, if it is a folder
pub record MeetsOne (old new : Met) (s : Stored) : Type 0 where
  pub this : s.resource.node.kind ≡ Folder → met_text new s.resource.number ≡ folder_bytes s.path
  pub others : (number : ℕ) → number ≢ s.resource.number → met_text new number ≡ met_text old number

-- it is the walk of a resource map
pub record IsWalk (walk : List Stored) : Type 0 where
  pub map : ResourceMap
  pub shape : IsResourceMap map
  pub walked : IsMapWalk map walk
