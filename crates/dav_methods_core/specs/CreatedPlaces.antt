-- What a COPY or a MOVE that is done tells of the place at which something was made (RFC 9110 section 15.3.2).
use Rattle.std.specs.Prelude.{◌≡◌, ℕ, nat_eq, List, [], ◌∷◌, if◌then◌else◌}
use Rattle.http_header.specs.FieldValue.{FieldValue}
use Rattle.http_header.specs.HeaderMap.{Entries}
use Rattle.dav_path_core.specs.PathText.{PathText}
use Rattle.dav_fields_core.specs.AnswerFields.{location_field}
use Rattle.dav_fields_core.specs.Bases.{Site}
use Rattle.dav_fields_core.specs.Fields.{Field, Sent}
use Rattle.dav_fields_core.specs.TransferDestinations.{IsDestination}
use Rattle.dav_documents_core.specs.RefusalBodies.{url_path}

-- its URL, where the status is 201: it isn't the one that the request is sent to
abbrev pub place_fields : List ℕ → PathText → ℕ → List Field
place_fields prefix to status = if nat_eq status 201 then location_field (url_path prefix to) ∷ [] else []

-- where the request leads, and nothing else
pub record TellsPlace (site : Site) (prefix : List ℕ) (headers : Entries FieldValue) (status : ℕ)
    (sent : Sent) : Type 0 where
  pub to : PathText
  pub leads : IsDestination site prefix headers to
  pub tells : sent ≡ record { fields = place_fields prefix to status; body = [] }
