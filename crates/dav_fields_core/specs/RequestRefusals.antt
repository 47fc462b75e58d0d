-- Why a request is refused before anything is asked of the stores: by its target, by who sends it, or since no moment is left (RFC 9110 section 15.5).
use Rattle.std.specs.Prelude.{◌≡◌, ◌≢◌, ◌⊎◌, ℕ, ◌<◌, ◌-◌, ◌^◌, List, [], ◌∷◌, length, Option, Some, codes}
use Rattle.http_header.specs.FieldValue.{FieldValue}
use Rattle.http_header.specs.HeaderMap.{Entries, ContainsKey, get_all}
use Rattle.http_uri.specs.declared.uri.Uri.{Uri}
use Rattle.http_uri.specs.Uri.{uri_path}
use Rattle.dav_path_core.specs.declared.davpath.ParseError.TheVariants as parse
use Rattle.dav_path_core.specs.Fault as path
use Rattle.dav_path_core.specs.Prefix.{SetsPrefix}
use Rattle.dav_path_core.specs.PathReading.{Read}
use Rattle.dav_headers_core.specs.IfValues.{Located}
use Rattle.dav_faults_core.specs.declared.faults.Fault.{Fault}
use Rattle.dav_faults_core.specs.declared.faults.Fault.TheVariants as fault
use Rattle.dav_fields_core.specs.Bases.{Site}
use Rattle.dav_fields_core.specs.RootedTags.{IfSays}
use Rattle.dav_fields_core.specs.Senders.{NamesNobody}

-- The target is no path, leads out of the root, or isn't behind the prefix of the server (RFC 3986 section 5.2.4, RFC 9110 section 7.1).
abbrev pub RefusesTarget : List ℕ → Uri → Fault → Type 0
RefusesTarget prefix uri fault.BadRequest = path.Fault (uri_path uri) parse.InvalidPath
RefusesTarget prefix uri fault.Forbidden = path.Fault (uri_path uri) parse.ForbiddenPath
RefusesTarget prefix uri fault.NotFound =
    (whole : List ℕ) × Read (uri_path uri) whole × ((after set : List ℕ) → ¬ SetsPrefix whole prefix after set)
RefusesTarget prefix uri _ = ⊥

-- A header has to name the principal, and it has several values, or it isn't there or names nobody (RFC 9110 sections 5.3 and 15.5.2).
abbrev pub RefusesPrincipal : Option (List ℕ) → Entries FieldValue → Fault → Type 0
RefusesPrincipal (Some name) headers fault.BadRequest = 1 < length (get_all headers name)
RefusesPrincipal (Some name) headers fault.Unauthorized =
    (get_all headers name ≡ []) ⊎ ((value : FieldValue) × (get_all headers name ≡ value ∷ []) × NamesNobody value)
RefusesPrincipal _ headers _ = ⊥

-- there is an `If`, and it says nothing, as several values say nothing (RFC 4918 section 10.4)
abbrev pub HasBadIf : Site → Entries FieldValue → Type 0
HasBadIf site headers =
    (get_all headers (codes "if") ≢ []) × ((lists : List Located) → ¬ IfSays site headers lists)

-- the body is a part of a file, which a PUT can't take (RFC 9110 section 14.5)
abbrev pub HasPart : Entries FieldValue → Type 0
HasPart headers = ContainsKey headers (codes "content-range")

-- there is no moment behind it (own)
abbrev pub IsLastMoment : ℕ → Type 0
IsLastMoment moment = moment ≡ 2 ^ 64 - 1
