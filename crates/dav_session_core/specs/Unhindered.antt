-- What holds of changes that no lock stops half-way.
use Rattle.std.specs.Prelude.{◌≡◌, ◌≢◌, Bool, List, [], IsSome, map}
use Rattle.dav_path_core.specs.Fronts.{Path}
use Rattle.dav_path_core.specs.PathText.{PathText}
use Rattle.dav_path_core.specs.Segments.{segments}
use Rattle.dav_files_core.specs.Resources.{at_path}
use Rattle.dav_guarded_core.specs.Step.{State}
use Rattle.dav_session_core.specs.declared.session.copying.Transfer.{Transfer}
use Rattle.dav_session_core.specs.Callers.{Caller}
use Rattle.dav_session_core.specs.Clearing.{refusing_clearing}
use Rattle.dav_session_core.specs.Copying.{IsReady, source_and_target}
use Rattle.dav_session_core.specs.Ends.{GoesFrom}
use Rattle.dav_session_core.specs.Removing.{refusing_removal}
use Rattle.dav_session_core.specs.Subtrees.{IsSubtreeWalk}

-- paths by their segments
abbrev pub paths_of : List PathText → List Path
paths_of paths = map (λ p. segments p.bytes) paths

-- where each resource is copied from, and where to
abbrev pub ends_of : List Transfer → List (Path × Path)
ends_of transfers = map (λ t. (segments t.from.bytes, segments t.to.bytes)) transfers

-- it holds of each path but the root, of which the places are a walk that no lock refuses to remove
abbrev pub WhereRemovable : State → Caller → List Path → (Path → Type 0) → Type 0
WhereRemovable s who places Holds =
    (p : Path) → p ≢ [] → IsSome (at_path s.map p) → IsSubtreeWalk s.map p places
    → refusing_removal s who places ≡ [] → Holds p

-- it holds of each path but the root, from which the places go, and no lock refuses that
abbrev pub WhereClearable : State → Caller → List Path → (Path → Type 0) → Type 0
WhereClearable s who places Holds =
    (p : Path) → GoesFrom s.map p places → refusing_clearing s who p places ≡ [] → (p ≢ [])
    → Holds p

-- it holds of each source and target between which these are the copies, and all is ready for them
abbrev pub WhereReady : State → Caller → List (Path × Path) → (Bool → Path → Path → Type 0)
    → Type 0
WhereReady s who ends Holds =
    (deep : Bool) (from to : Path) (rests : List Path) → IsReady s who deep from to rests
    → ends ≡ map (source_and_target from to) rests → Holds deep from to
