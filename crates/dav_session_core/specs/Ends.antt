-- The two ends of a COPY or a MOVE: how they lie to each other, what stands there, and what goes from the target (RFC 4918 sections 9.8.4, 9.8.5, 9.9.3 and 9.9.4).
use Rattle.std.specs.Prelude.{◌≡◌, ◌⊎◌, Bool, not, ◌&&◌, ◌||◌, List, [], Some, Option, option_map}
use Rattle.dav_path_core.specs.Fronts.{Path, is_front}
use Rattle.dav_files_core.specs.declared.memfs.Kind.TheVariants.{Folder}
use Rattle.dav_files_core.specs.Resources.{Resource, ResourceMap, at_path}
use Rattle.dav_session_core.specs.Subtrees.{IsSubtreeWalk}
use Rattle.dav_files_core.specs.Meta.{Meta, meta_at}

-- a folder stands there
abbrev pub HasFolder : ResourceMap → Path → Type 0
HasFolder m p = (r : Resource) × (at_path m p ≡ Some r) × (r.node.kind ≡ Folder)

-- The target is the source's own place, or above it; or it is below it, and may not lie within the source.
abbrev pub is_related : Bool → Path → Path → Bool
is_related within from to = is_front to from || (not within && is_front from to)

-- All that goes from the target, before anything is written there: a folder with all that is in it, and nothing where no folder stands.
abbrev pub GoesFrom : ResourceMap → Path → List Path → Type 0
GoesFrom m to gone = (HasFolder m to × IsSubtreeWalk m to gone) ⊎ ((¬ HasFolder m to) × (gone ≡ []))

-- what is known of what stands at a path
abbrev pub known_at : ResourceMap → Path → Option Meta
known_at m p = option_map (λ r. meta_at r.node) (at_path m p)
