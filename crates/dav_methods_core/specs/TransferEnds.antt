-- The ends of a COPY or a MOVE, why it is refused there, and which places a COPY takes over (RFC 4918 sections 9.8 and 9.9).
use Rattle.std.specs.Prelude.{◌≡◌, Bool, true, false, ℕ, List, [], None, Some, IsSome, ◌∷◌, Option, option_map, filter_map, if◌then◌else◌}
use Rattle.http_header.specs.FieldValue.{FieldValue}
use Rattle.http_header.specs.HeaderMap.{Entries}
use Rattle.dav_path_core.specs.Fronts.{Path, is_front, parent, rebased}
use Rattle.dav_path_core.specs.PathText.{PathText}
use Rattle.dav_path_core.specs.Segments.{segments}
use Rattle.dav_files_core.specs.Resources.{ResourceMap, at_path}
use Rattle.dav_fields_core.specs.Bases.{Site}
use Rattle.dav_faults_core.specs.declared.faults.Fault.{Fault}
use Rattle.dav_faults_core.specs.declared.faults.Fault.TheVariants as fault
use Rattle.dav_fields_core.specs.TransferDestinations.{IsDestination, LeadsNowhere, overwrites}
use Rattle.dav_session_core.specs.Subtrees.{HasOddName, IsSubtreeWalk}
use Rattle.dav_session_core.specs.Ends.{HasFolder, is_related, GoesFrom, known_at}
use Rattle.dav_files_core.specs.Meta.{Meta}

-- ---- both ends

-- Where a request leads from its path, and whether it may replace what stands there.
pub record LeadsOn (site : Site) (prefix : List ℕ) (headers : Entries FieldValue) (from : Path) (within : Bool) (to : PathText) (replaces : Bool) : Type 0 where
  pub overwrites_is : overwrites headers ≡ Some replaces
  pub leads : IsDestination site prefix headers to
  pub apart : is_related within from (segments to.bytes) ≡ false

-- Something stands at the source. What stands at the target may be replaced. A folder stands above the target.
pub record EndsFit (m : ResourceMap) (from to : Path) (replaces : Bool) : Type 0 where
  pub stands : IsSome (at_path m from)
  pub may : IsSome (at_path m to) → replaces ≡ true
  pub above : HasFolder m (parent to)

-- Why a COPY or a MOVE is refused at its ends, in this order: `Overwrite` can't be read; `Destination` leads nowhere, or to a place that the request can't have; nothing
-- stands at the source; something stands at the target that it may not replace; no folder stands above the target; a name below the target is one that no path has which is
-- read. Or there is no memory to look.
pub data FailsAtEnds (site : Site) (prefix : List ℕ) (headers : Entries FieldValue) (m : ResourceMap) (from : Path) (within : Bool) : Fault → Type 0 where
  memory : FailsAtEnds site prefix headers m from within fault.InsufficientStorage
  unread : overwrites headers ≡ None → FailsAtEnds site prefix headers m from within fault.BadRequest
  nowhere : (replaces : Bool) (e : Fault) → overwrites headers ≡ Some replaces → LeadsNowhere site prefix headers e → FailsAtEnds site prefix headers m from within e
  related : (replaces : Bool) (to : PathText) → overwrites headers ≡ Some replaces → IsDestination site prefix headers to → is_related within from (segments to.bytes) ≡ true
      → FailsAtEnds site prefix headers m from within fault.Forbidden
  missing : (to : PathText) (replaces : Bool) → LeadsOn site prefix headers from within to replaces → at_path m from ≡ None
      → FailsAtEnds site prefix headers m from within fault.NotFound
  kept : (to : PathText) → LeadsOn site prefix headers from within to false → IsSome (at_path m from) → IsSome (at_path m (segments to.bytes))
      → FailsAtEnds site prefix headers m from within fault.PreconditionFailed
  nowhere_to_stand : (to : PathText) (replaces : Bool) → LeadsOn site prefix headers from within to replaces → IsSome (at_path m from)
      → (IsSome (at_path m (segments to.bytes)) → replaces ≡ true) → ¬ HasFolder m (parent (segments to.bytes))
      → FailsAtEnds site prefix headers m from within fault.Conflict
  odd : (to : PathText) (replaces : Bool) → LeadsOn site prefix headers from within to replaces → EndsFit m from (segments to.bytes) replaces
      → HasOddName m (segments to.bytes) → FailsAtEnds site prefix headers m from within fault.BadRequest

-- ---- the ends, as they are looked at one after another

-- why a request leads nowhere, or to a place that it can't have
pub data FailsToLead (site : Site) (prefix : List ℕ) (headers : Entries FieldValue) (from : Path) (within : Bool) : Fault → Type 0 where
  unread : overwrites headers ≡ None → FailsToLead site prefix headers from within fault.BadRequest
  nowhere : (replaces : Bool) (e : Fault) → overwrites headers ≡ Some replaces → LeadsNowhere site prefix headers e → FailsToLead site prefix headers from within e
  related : (replaces : Bool) (to : PathText) → overwrites headers ≡ Some replaces → IsDestination site prefix headers to → is_related within from (segments to.bytes) ≡ true
      → FailsToLead site prefix headers from within fault.Forbidden

-- the ends fit, and this is known of the target
pub record Fits (m : ResourceMap) (from to : Path) (replaces : Bool) (known : Option Meta) : Type 0 where
  pub fit : EndsFit m from to replaces
  pub known_is : known ≡ known_at m to

-- why they don't
abbrev pub FailsToFit : ResourceMap → Path → Path → Bool → Fault → Type 0
FailsToFit m from to replaces fault.InsufficientStorage = Unit {0}
FailsToFit m from to replaces fault.NotFound = at_path m from ≡ None
FailsToFit m from to replaces fault.PreconditionFailed = IsSome (at_path m from) × IsSome (at_path m to) × (replaces ≡ false)
FailsToFit m from to replaces fault.Conflict = IsSome (at_path m from) × (IsSome (at_path m to) → replaces ≡ true) × ¬ HasFolder m (parent to)
FailsToFit m from to replaces e = ⊥

-- the ends of a request, what is known of its target, and what goes from there
pub record AreEnds (site : Site) (prefix : List ℕ) (headers : Entries FieldValue) (m : ResourceMap) (from : Path) (within : Bool) (to : PathText) (known : Option Meta)
    (gone : List Path) : Type 0 where
  pub replaces : Bool
  pub leads : LeadsOn site prefix headers from within to replaces
  pub fit : EndsFit m from (segments to.bytes) replaces
  pub known_is : known ≡ known_at m (segments to.bytes)
  pub goes : GoesFrom m (segments to.bytes) gone

-- ---- what a COPY takes over

-- all that stands at a path and below it, or the path alone
abbrev pub ArePlaces : ResourceMap → Bool → Path → List Path → Type 0
ArePlaces m true p places = IsSubtreeWalk m p places
ArePlaces m false p places = places ≡ p ∷ []

-- why they aren't found
abbrev pub LacksPlaces : ResourceMap → Bool → Path → Fault → Type 0
LacksPlaces m deep p fault.InsufficientStorage = Unit {0}
LacksPlaces m deep p fault.NotFound = at_path m p ≡ None
LacksPlaces m deep p fault.BadRequest = (deep ≡ true) × HasOddName m p
LacksPlaces m deep p e = ⊥

-- where a place is copied to: nowhere where it is at or below the target
abbrev pub copy_target : Path → Path → Path → Option Path
copy_target from to q = if is_front to q then None else rebased from to q

-- the places that are copied, each with where to
abbrev pub copies_of : Path → Path → List Path → List (Path × Path)
copies_of from to places = filter_map (λ q. option_map (λ t. (q, t)) (copy_target from to q)) places
