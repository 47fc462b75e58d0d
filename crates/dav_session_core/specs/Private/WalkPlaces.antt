-- Where a walk is, and what it knows of what stands there. Private contracts alone speak of it.
use Rattle.std.specs.Prelude.{◌≡◌, Bool, false, Contains, List, []}
use Rattle.dav_path_core.specs.Fronts.{Path}
use Rattle.dav_path_core.specs.Segments.{segments}
use Rattle.dav_files_core.specs.declared.memfs.listing.MemFsEntry.{MemFsEntry}
use Rattle.dav_files_core.specs.Resources.{ResourceMap, is_folder}
use Rattle.dav_session_core.specs.MemberPaths.{paths_of_members}
use Rattle.dav_session_core.specs.Subtrees.{HasOddMember}
use Rattle.dav_session_core.specs.declared.session.subtrees.Place.{Place}

abbrev pub place_path : Place → Path
place_path place = segments place.path.bytes

abbrev pub is_listed_folder : MemFsEntry → Bool
is_listed_folder entry = is_folder entry.meta.kind

-- nothing stands in it
abbrev pub HasNothingIn : ResourceMap → Path → Type 0
HasNothingIn m p = (paths_of_members m p ≡ []) × ¬ HasOddMember m p

-- where it is told to be no folder, nothing stands in it
abbrev pub IsToldPlace : ResourceMap → Place → Type 0
IsToldPlace m place = place.folder ≡ false → HasNothingIn m (place_path place)

abbrev pub AreToldPlaces : ResourceMap → List Place → Type 0
AreToldPlaces m places = (place : Place) → Contains places place → IsToldPlace m place
