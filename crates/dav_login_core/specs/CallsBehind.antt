-- What the service behind a login is asked (own).
use Rattle.std.specs.Prelude.{◌≡◌, ◌⊎◌, ℕ, List, [], ◌∷◌}
use Rattle.http.specs.declared.request.Request.{Request}
use Rattle.http_server.specs.declared.response.Response.{Response}
use Rattle.http_server.specs.Exchange.{Call, Chain}
use Rattle.http_frames.specs.Gate.{IsTold}
use Rattle.dav_login_core.specs.LoggedIn.{Door, IsPassedOn, IsTurnedAway, LoginState}

-- Each of the first calls is refused or passed on. The second are those that were passed on, in order, with the same answers.
abbrev pub AreBehind : Door → List Call → List Call → Type 0
AreBehind door [] inner = inner ≡ []
AreBehind door (c ∷ calls) inner =
    (IsTurnedAway door c.0 c.1 × AreBehind door calls inner)
    ⊎ ((request : Request (List ℕ)) × (rest : List Call) × (inner ≡ (request, c.1) ∷ rest) × IsPassedOn door c.0 request × AreBehind door calls rest)

-- the calls of a login lead where those behind it lead the service
pub record LeadsBehind {S H : Type 0} (answers : S → Request (List ℕ) → Response → S → Type 0) (old : LoginState S H) (calls : List Call) (new : LoginState S H) : Type 0 where
  pub inner : List Call
  pub behind : AreBehind old.door calls inner
  pub chain : Chain answers old.service inner new.service
  pub door : new.door ≡ old.door
  pub host : new.host ≡ old.host

-- the login was told of a turn and answered these calls, and the service was told of it and answered those behind them
pub record TurnsBehind {S H : Type 0} (begins : S → ℕ → S → Type 0) (answers : S → Request (List ℕ) → Response → S → Type 0) (old : LoginState S H) (number : ℕ) (calls : List Call) (new : LoginState S H) : Type 0 where
  pub inner : List Call
  pub behind : AreBehind old.door calls inner
  pub told : IsTold begins answers old.service number inner new.service
  pub door : new.door ≡ old.door
  pub host : new.host ≡ old.host
