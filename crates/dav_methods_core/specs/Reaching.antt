-- How far a request reaches from its path: its `Depth` is looked at where a folder stands there, and
-- anything else is reached whole (RFC 4918 sections 9.6.1, 9.8.3 and 9.9.2).
use Rattle.std.specs.Prelude.{◌≡◌, Bool, true, false, Option, None, Some, if◌then◌else◌}
use Rattle.http_header.specs.FieldValue.{FieldValue}
use Rattle.http_header.specs.HeaderMap.{Entries}
use Rattle.dav_path_core.specs.Fronts.{Path}
use Rattle.dav_files_core.specs.Meta.{Meta}
use Rattle.dav_files_core.specs.Resources.{ResourceMap, is_folder}
use Rattle.dav_fields_core.specs.Reaches.{ReachesAll, reach_in}
use Rattle.dav_session_core.specs.Ends.{known_at}

-- by what is known to stand there
abbrev pub is_known_folder : Option Meta → Bool
is_known_folder None = false
is_known_folder (Some known) = is_folder known.kind

abbrev pub folder_stands : ResourceMap → Path → Bool
folder_stands m p = is_known_folder (known_at m p)

-- a DELETE or a MOVE reaches all the way down
abbrev pub ReachesDown : ResourceMap → Path → Entries FieldValue → Type 0
ReachesDown m p headers = folder_stands m p ≡ true → ReachesAll headers

-- whether a COPY does; none where it has another depth, or one that can't be read
abbrev pub reach_from : ResourceMap → Path → Entries FieldValue → Option Bool
reach_from m p headers = if folder_stands m p then reach_in headers else Some true
