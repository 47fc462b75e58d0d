-- What a condition by date tells over a run of a server (RFC 9110 sections 13.1.3 and 13.1.4, own).
use Rattle.std.specs.Prelude.{◌≡◌, ◌⊎◌, ℕ, ◌/◌, List, [], codes, Some}
use Rattle.http.specs.declared.request.Request.{Request}
use Rattle.http_header.specs.FieldValue.{FieldValue}
use Rattle.http_header.specs.HeaderMap.{Entries, get_all}
use Rattle.dav_path_core.specs.PathText.{PathText}
use Rattle.dav_path_core.specs.Segments.{segments}
use Rattle.dav_files_core.specs.Resources.{Resource}
use Rattle.dav_fields_core.specs.Preconditions.{second_in}
use Rattle.dav_session_core.specs.Callers.{Caller}
use Rattle.dav_handler_core.specs.MethodAnswers.{Begins}
use Rattle.dav_handler_core.specs.PathMoments.{IsFileAt}
use Rattle.dav_handler_core.specs.Server.{Server}

-- the second of its last change: the date with which a file is told
abbrev pub told_second : Resource → ℕ
told_second file = file.node.modified / 1000000000

-- `If-Unmodified-Since` shows the second, and no `If-Match` puts it aside
abbrev pub AsksUnmodifiedSince : Entries FieldValue → ℕ → Type 0
AsksUnmodifiedSince headers second =
    (get_all headers (codes "if-match") ≡ []) × (second_in (get_all headers (codes "if-unmodified-since")) ≡ Some second)

-- `If-Modified-Since` shows the second, and no `If-None-Match` puts it aside
abbrev pub AsksModifiedSince : Entries FieldValue → ℕ → Type 0
AsksModifiedSince headers second =
    (get_all headers (codes "if-none-match") ≡ []) × (second_in (get_all headers (codes "if-modified-since")) ≡ Some second)

-- two files have the same bytes; or both were changed last in one second, and no date tells them apart
abbrev pub IsSameByDate : Resource → Resource → Type 0
IsSameByDate file other = (other.node.bytes ≡ file.node.bytes) ⊎ (told_second other ≡ told_second file)

-- What a request asks for the date of: at its path, the file that stood there in an earlier server, told with that date, and the one that it finds.
pub record FindsSame (asks : ℕ → Type 0) (earlier before : Server) (request : Request (List ℕ)) (after : Server) : Type 0 where
  pub path : PathText
  pub who : Caller
  pub begins : Begins before request after path who
  pub same : (file other : Resource) → IsFileAt earlier.state.map (segments path.bytes) file → IsFileAt before.state.map (segments path.bytes) other
      → asks (told_second file) → IsSameByDate file other
