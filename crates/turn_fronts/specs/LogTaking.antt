-- What a log takes of each request, and of clients that were sent away (own).
use Rattle.std.specs.Prelude.{◌≡◌, ◌⊎◌, ℕ, List, [], ◌++◌, length, codes, Option, None, Some, if◌then◌else◌}
use Rattle.std.specs.Str.{bytes_eq}
use Rattle.http_header.specs.FieldValue.{FieldValue}
use Rattle.http_header.specs.HeaderMap.{Entries, get}
use Rattle.http_uri.specs.Uri.{uri_path, uri_query}
use Rattle.http.specs.declared.request.Request.{Request}
use Rattle.http.specs.Request.{head_of}
use Rattle.http_server.specs.declared.response.Response.{Response}
use Rattle.dav_login_core.specs.declared.addresses.Addresses.{Addresses}
use Rattle.dav_login_core.specs.ClientAddresses.{address_of_request, kept_address}
use Rattle.turn_fronts.specs.declared.lines.Format.{Format}
use Rattle.turn_fronts.specs.LogLines.{LogEntry, Told, log_line, shown_word}
use Rattle.turn_fronts.specs.LogLines as lines
use Rattle.turn_fronts.specs.NamedUsers.{value_bytes}

-- a log, the form of its lines, and by what the address of a request is known
pub record LogState (L : Type 0) : Type 0 where
  pub log : L
  pub format : Format
  pub addresses : Addresses

-- ---- the line of a request

-- a query stands behind a `?`
abbrev pub behind_mark : Option (List ℕ) → List ℕ
behind_mark None = []
behind_mark (Some query) = codes "?" ++ query

-- the path and the query of what a request asks for
abbrev pub target_of : Request (List ℕ) → List ℕ
target_of request = uri_path (head_of request).uri ++ behind_mark (uri_query (head_of request).uri)

-- how many bytes go out as the body of an answer: none of one to HEAD (RFC 9110 section 9.3.2)
abbrev pub sent_length : Request (List ℕ) → Response → ℕ
sent_length request response = if bytes_eq (head_of request).method (codes "HEAD") then 0 else length response.body.items

-- the first value of a field, as it stands in a line
abbrev pub shown_field : List ℕ → Entries FieldValue → List ℕ
shown_field name headers = shown_word (value_bytes (get headers name))

-- Each field of the line is that of the request, of its answer, or of the user as whom it was answered; of the moment, and of how long that took, nothing is said.
pub record IsLineOf (format : Format) (addresses : Addresses) (request : Request (List ℕ)) (response : Response) (name line : List ℕ) : Type 0 where
  pub entry : LogEntry
  pub is_line : line ≡ log_line format entry
  pub address : entry.address ≡ shown_word (address_of_request addresses request)
  pub user : entry.user ≡ shown_word name
  pub told : entry.told ≡ lines.Request (head_of request).method (target_of request)
  pub status : entry.status ≡ response.status
  pub bytes : entry.bytes ≡ sent_length request response
  pub referer : entry.referer ≡ shown_field (codes "referer") (head_of request).headers
  pub agent : entry.agent ≡ shown_field (codes "user-agent") (head_of request).headers

-- A line that is of no request: of a client at this address, of nobody, with this status, and no bytes.
pub record IsLineApart (format : Format) (place : List ℕ) (what : Told) (code : ℕ) (line : List ℕ) : Type 0 where
  pub entry : LogEntry
  pub is_line : line ≡ log_line format entry
  pub address : entry.address ≡ shown_word place
  pub user : entry.user ≡ codes "-"
  pub told : entry.told ≡ what
  pub status : entry.status ≡ code
  pub bytes : entry.bytes ≡ 0
  pub referer : entry.referer ≡ codes "-"
  pub agent : entry.agent ≡ codes "-"

-- ---- what the log takes

-- the log, and what its lines go by
pub record StaysBeside {L : Type 0} (old new : LogState L) : Type 0 where
  pub format : new.format ≡ old.format
  pub addresses : new.addresses ≡ old.addresses

-- a turn begins, of a client at this address
pub record BeginsAt {L : Type 0} (old : LogState L) (address : List ℕ) (new : LogState L) : Type 0 where
  pub log : new.log ≡ old.log
  pub format : new.format ≡ old.format
  pub field : new.addresses.field ≡ old.addresses.field
  pub connection : new.addresses.connection.items ≡ kept_address address

module _ {L : Type 0} (takes : L → List ℕ → L → Type 0) (loses : L → L → Type 0) where
  -- one line was taken, and it is so; or there was no memory for it, and that was told
  abbrev pub TakesLine : (List ℕ → Type 0) → L → L → Type 0
  TakesLine is_line old new = ((line : List ℕ) × is_line line × takes old line new) ⊎ loses old new

  -- a request was answered as this user's
  abbrev pub LogsAnswer : LogState L → Request (List ℕ) → Response → List ℕ → LogState L → Type 0
  LogsAnswer old request response user new = TakesLine (IsLineOf old.format old.addresses request response user) old.log new.log × StaysBeside old new

  -- what came in the turn was refused by the connection
  abbrev pub LogsRefusal : LogState L → ℕ → LogState L → Type 0
  LogsRefusal old status new = TakesLine (IsLineApart old.format old.addresses.connection.items lines.Nothing status) old.log new.log × StaysBeside old new

  -- memory ran out for a connection
  abbrev pub LogsLoss : LogState L → LogState L → Type 0
  LogsLoss old new = loses old.log new.log × StaysBeside old new

  -- a client was too slow, which is told as 408 (RFC 9110 section 15.5.9)
  abbrev pub LogsLate : LogState L → List ℕ → LogState L → Type 0
  LogsLate old address new = TakesLine (IsLineApart old.format address lines.Nothing 408) old.log new.log × StaysBeside old new

  -- connections had no place, which is told as 503 (RFC 9110 section 15.6.4)
  abbrev pub LogsTurnedAway : LogState L → List ℕ → ℕ → LogState L → Type 0
  LogsTurnedAway old address count new = TakesLine (IsLineApart old.format address (lines.Connections count) 503) old.log new.log × StaysBeside old new

-- where there is a log, it takes word; where there is none, there is none
abbrev pub OnLog : {N : Type 0} → (N → N → Type 0) → Option N → Option N → Type 0
OnLog does None new = new ≡ None
OnLog does (Some notes) new = (next : _) × (new ≡ Some next) × does notes next
