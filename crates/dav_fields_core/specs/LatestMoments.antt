-- The latest of the moments along a path: those at which what stands there was made and changed last, and those at which the folders above were changed last (own).
use Rattle.std.specs.Prelude.{ℕ, max, List, [], ◌∷◌, map, Option, None, Some}
use Rattle.dav_path_core.specs.Fronts.{Path, shorter_fronts}
use Rattle.dav_files_core.specs.Meta.{Meta}
use Rattle.dav_files_core.specs.Resources.{Resource, ResourceMap, at_path}

-- the latest of some moments; the first of all where there are none
abbrev pub latest : List ℕ → ℕ
latest [] = 0
latest (moment ∷ moments) = max moment (latest moments)

-- when it was changed last; the first moment of all where there is nothing
abbrev pub last_change : Option Resource → ℕ
last_change None = 0
last_change (Some r) = r.node.modified

-- of the folders above a path
abbrev pub latest_above : ResourceMap → Path → ℕ
latest_above m p = latest (map (λ q. last_change (at_path m q)) (shorter_fronts p))

-- along a path, by what is known of what stands there
abbrev pub latest_along : ResourceMap → Path → Meta → ℕ
latest_along m p known = max (max known.created known.modified) (latest_above m p)
