-- As whose the calls of a service are answered (own).
use Rattle.std.specs.Prelude.{◌≡◌, ℕ, List, [], Option, None, Some}
use Rattle.http_header.specs.FieldValue.{FieldValue}
use Rattle.http_header.specs.HeaderMap.{Entries, get}
use Rattle.http.specs.declared.request.Request.{Request}
use Rattle.http.specs.Request.{head_of}
use Rattle.http_server.specs.declared.response.Response.{Response}
use Rattle.http_frames.specs.ConnectionEvents.{Event}
use Rattle.http_frames.specs.TurnRuns.{EventsLead}
use Rattle.turn_fronts.specs.declared.named.Named.{Named}

abbrev pub value_bytes : Option FieldValue → List ℕ
value_bytes None = []
value_bytes (Some value) = value.bytes

-- the first value of the header that names the user; no bytes where there is none, or no header is chosen
abbrev pub named_user : Option (List ℕ) → Entries FieldValue → List ℕ
named_user None headers = []
named_user (Some name) headers = value_bytes (get headers name)

-- the name of the user as whom the last call of the turn was answered, and the header that tells it
abbrev pub user_let_in : {S : Type 0} → Named S → List ℕ
user_let_in n = n.user.items

abbrev pub naming_header : {S : Type 0} → Named S → Option (List ℕ)
naming_header n = n.header

-- the service answers, and who is named stands there
pub record AnswersNamed {S : Type 0} (answers : S → Request (List ℕ) → Response → S → Type 0) (old : Named S) (request : Request (List ℕ)) (response : Response) (new : Named S) : Type 0 where
  pub answered : answers old.service request response new.service
  pub user : user_let_in new ≡ named_user (naming_header old) (head_of request).headers
  pub header : naming_header new ≡ naming_header old

-- a turn begins, and nobody was let in
pub record BeginsUnnamed {S : Type 0} (begins : S → ℕ → S → Type 0) (old : Named S) (number : ℕ) (new : Named S) : Type 0 where
  pub begun : begins old.service number new.service
  pub user : user_let_in new ≡ []
  pub header : naming_header new ≡ naming_header old

-- the service takes word, and who was let in stays
pub record HandsOnAs {S W : Type 0} (takes : S → W → S → Type 0) (old : Named S) (word : W) (new : Named S) : Type 0 where
  pub taken : takes old.service word new.service
  pub user : user_let_in new ≡ user_let_in old
  pub header : naming_header new ≡ naming_header old

-- These events lead a service that tells users from one state to the other, in front of a service that takes word and answers so.
abbrev pub NamedRun : {S : Type 0} → (S → ℕ → S → Type 0) → (S → Request (List ℕ) → Response → S → Type 0) → (S → ℕ → S → Type 0) → (S → List ℕ → S → Type 0) → Named S → List Event → Named S → Type 0
NamedRun begins answers clocked listed = EventsLead (BeginsUnnamed begins) (AnswersNamed answers) (HandsOnAs clocked) (HandsOnAs listed)
