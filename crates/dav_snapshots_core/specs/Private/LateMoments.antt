-- Late moments of a list, and what is restored of a walk that is set back.
use Rattle.std.specs.Prelude.{◌≡◌, ℕ, ◌≤◌, List, [], ◌∷◌, Contains, map, Ok}
use Rattle.std.specs.List.{AllByRecursion}
use Rattle.std.specs.List.Sorted.{IsStrictlySortedBy}
use Rattle.std.specs.Ordering.{nat_cmp}
use Rattle.dav_path_core.specs.Fronts.{Path}
use Rattle.dav_path_core.specs.PathText.{folder_bytes}
use Rattle.dav_path_core.specs.Segments.{segments}
use Rattle.dav_files_core.specs.Outcomes.{start}
use Rattle.dav_files_core.specs.Resources.{Resource, ResourceMap}
use Rattle.dav_files_core.specs.Restoring.{restore_all, with_later_next}
use Rattle.dav_files_core.specs.Walks.{Stored}
use Rattle.dav_snapshots_core.specs.SetBack.{resource_set_back}

-- when it was made, and when it last changed
abbrev pub moments_at : Stored → List ℕ
moments_at s = s.resource.node.created ∷ s.resource.node.modified ∷ []

-- these ascend, and none is before that one
pub record AscendFrom (from : ℕ) (late : List ℕ) : Type 0 where
  pub ascend : IsStrictlySortedBy nat_cmp late
  pub from_there : AllByRecursion (λ a. from ≤ a) late

-- each of these once, the first in front
pub record AreInOrder (moments late : List ℕ) : Type 0 where
  pub ascend : IsStrictlySortedBy nat_cmp late
  pub each : (m : ℕ) → Contains moments m → Contains late m
  pub only : (m : ℕ) → Contains late m → Contains moments m

-- those of these that are not before that one, each once, the first in front
pub record AreLateOf (from : ℕ) (moments late : List ℕ) : Type 0 where
  pub ascend : IsStrictlySortedBy nat_cmp late
  pub each : (m : ℕ) → Contains moments m → from ≤ m → Contains late m
  pub only : (m : ℕ) → Contains late m → Contains moments m × (from ≤ m)

-- where it is restored, and what
abbrev pub placed_back : ℕ → List ℕ → Stored → Path × Resource
placed_back from late s = (segments (folder_bytes s.path), resource_set_back from late s.resource)

-- the map is what the restoring of a walk, set back, makes of a new one, with that next number
pub record IsFilled (from : ℕ) (late : List ℕ) (walk : List Stored) (next : ℕ) (m : ResourceMap) : Type 0 where
  pub made : ResourceMap
  pub restored : restore_all (start from) (map (placed_back from late) walk) ≡ Ok (tt, made)
  pub numbered : m ≡ with_later_next made next
  pub fits : next ≤ 18446744073709551615
