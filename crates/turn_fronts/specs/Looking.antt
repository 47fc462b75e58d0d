-- What a read-only service answers, in front of another (own).
use Rattle.std.specs.Prelude.{◌≡◌, ◌⊎◌, ℕ, Bool, true, false, List, [], ◌∷◌, codes, filter}
use Rattle.http.specs.declared.request.Request.{Request}
use Rattle.http.specs.Request.{head_of}
use Rattle.http.specs.Method.{is_among, safe_methods}
use Rattle.http_server.specs.declared.response.Response.{Response}
use Rattle.http_server.specs.Exchange.{Call}
use Rattle.http_server.specs.Response.{IsResponse}
use Rattle.http_frames.specs.Closing.{close_field}
use Rattle.http_frames.specs.ConnectionEvents.{Event, Answered}
use Rattle.http_frames.specs.TurnRuns.{EventsLead}
use Rattle.turn_fronts.specs.declared.read_only.ReadOnly.{ReadOnly}

-- It asks for no change, by its method: one that is safe (RFC 9110 section 9.2.1), or PROPFIND (RFC 4918 section 9.1).
abbrev pub only_looks : Request (List ℕ) → Bool
only_looks request = is_among (codes "PROPFIND" ∷ safe_methods) (head_of request).method

-- A request that asks for no change is answered by the service. Any other is answered 403, with no body and no field, but where it is long one that closes its connection (RFC 9110 section 15.5.4), and the service stays as it is.
abbrev pub LetsLook : {S : Type 0} → (S → Request (List ℕ) → Response → S → Type 0) → S → Request (List ℕ) → Response → S → Type 0
LetsLook answers old request response new =
    ((only_looks request ≡ true) × answers old request response new)
    ⊎ ((only_looks request ≡ false) × IsResponse 403 (close_field request) [] response × (new ≡ old))

-- the calls that ask for no change, in order
abbrev pub looking : List Call → List Call
looking calls = filter (λ c. only_looks c.0) calls

-- the same event, of whose calls those alone are left that ask for no change
abbrev pub with_looks : Event → Event
with_looks (Answered number calls) = Answered number (looking calls)
with_looks e = e

-- These events lead a read-only service from one state to the other, in front of a service that takes word and answers so.
abbrev pub ReadOnlyRun : {S : Type 0} → (S → ℕ → S → Type 0) → (S → Request (List ℕ) → Response → S → Type 0) → (S → ℕ → S → Type 0) → (S → List ℕ → S → Type 0)
    → ReadOnly S → List Event → ReadOnly S → Type 0
ReadOnlyRun begins answers clocked listed =
    EventsLead (λ before number after. begins before.service number after.service) (λ before request response after. LetsLook answers before.service request response after.service)
    (λ before moment after. clocked before.service moment after.service) (λ before file after. listed before.service file after.service)
