-- Whether places stand, and why those within a depth aren't known.
use Rattle.std.specs.Prelude.{◌≡◌, ◌⊎◌, List, None, Contains, IsSome}
use Rattle.dav_path_core.specs.Fronts.{Path}
use Rattle.dav_headers_core.specs.declared.davheaders.depths.Depth.{Depth}
use Rattle.dav_headers_core.specs.declared.davheaders.depths.Depth.TheVariants as depth
use Rattle.dav_files_core.specs.Resources.{ResourceMap, at_path}
use Rattle.dav_faults_core.specs.declared.faults.Fault.{Fault}
use Rattle.dav_faults_core.specs.declared.faults.Fault.TheVariants as fault
use Rattle.dav_session_core.specs.DepthPlaces.{HasOddWithin}

-- something stands at each place
abbrev pub AllStand : ResourceMap → List Path → Type 0
AllStand m places = (q : Path) → Contains places q → IsSome (at_path m q)

-- why the places within a depth aren't known
abbrev pub IsNowhere : Depth → ResourceMap → Path → Fault → Type 0
IsNowhere d m p e =
    (e ≡ fault.InsufficientStorage) ⊎ (((e ≡ fault.NotFound) × (at_path m p ≡ None))
    ⊎ ((e ≡ fault.BadRequest) × ((d ≡ depth.Default) ⊎ HasOddWithin d m p)))
