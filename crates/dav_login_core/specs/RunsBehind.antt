-- What the service behind a login is asked over a whole run, while the users change (own).
use Rattle.std.specs.Prelude.{◌≡◌, ℕ, List, [], ◌∷◌}
use Rattle.http.specs.declared.request.Request.{Request}
use Rattle.http_server.specs.declared.response.Response.{Response}
use Rattle.http_server.specs.Exchange.{Call}
use Rattle.http_frames.specs.ConnectionEvents.{Event, Answered, Users}
use Rattle.http_frames.specs.TurnRuns.{EventsLead}
use Rattle.dav_users_core.specs.declared.error.UsersError.{UsersError}
use Rattle.dav_login_core.specs.declared.login.Login.{Login}
use Rattle.dav_login_core.specs.CallsBehind.{AreBehind}
use Rattle.dav_login_core.specs.LoggedIn.{Door, HandsOn, ListsUsers, LoggedIn, LoginState, PutsUsers}
use Rattle.dav_login_core.specs.LoginViews.{login}

-- These events lead a login from one state to the other, in front of a service that takes word and answers so, and of a host that is told so.
abbrev pub LoginRun : {S H : Type 0} → (S → ℕ → S → Type 0) → (S → Request (List ℕ) → Response → S → Type 0) → (S → ℕ → S → Type 0) → (S → List ℕ → S → Type 0)
    → (H → UsersError → H → Type 0) → Login S H → List Event → Login S H → Type 0
LoginRun begins answers clocked listed told =
    EventsLead (λ before number after. HandsOn begins (login before) number (login after)) (λ before request response after. LoggedIn answers (login before) request response (login after))
    (λ before moment after. HandsOn clocked (login before) moment (login after)) (λ before file after. ListsUsers listed told (login before) file (login after))

-- The users of the file are in force behind it, and the host is told nothing; or those in force stay, and the host is told why. The login goes by nothing else than before.
pub record PutsInForce {H : Type 0} (told : H → UsersError → H → Type 0) (file : List ℕ) (old : Door) (before : H) (new : Door) (after : H) : Type 0 where
  pub users : PutsUsers told file old.users before new.users after
  pub challenge : new.challenge ≡ old.challenge
  pub header : new.header ≡ old.header
  pub address_field : new.address_field ≡ old.address_field
  pub key : new.key ≡ old.key

-- The second are the first events, but that each turn has those of its calls alone that were passed on. Each call is weighed by the users in force at it: those of the last file before it that was
-- put in force. The first door and the first host are those at the start, the last ones those at the end. The host is told nothing but why users stay.
abbrev pub AreRunBehind : {H : Type 0} → (H → UsersError → H → Type 0) → Door → H → List Event → List Event → Door → H → Type 0
AreRunBehind told door host [] inner last after = (inner ≡ []) × (last ≡ door) × (after ≡ host)
AreRunBehind told door host (Answered number calls ∷ events) inner last after =
    (passed : List Call) × (rest : List Event) × (inner ≡ Answered number passed ∷ rest) × AreBehind door calls passed × AreRunBehind told door host events rest last after
AreRunBehind {H} told door host (Users file ∷ events) inner last after =
    (next : Door) × (told_host : H) × (rest : List Event) × (inner ≡ Users file ∷ rest) × PutsInForce told file door host next told_host
    × AreRunBehind told next told_host events rest last after
AreRunBehind told door host (e ∷ events) inner last after = (rest : List Event) × (inner ≡ e ∷ rest) × AreRunBehind told door host events rest last after

-- these events lead a login from one state to the other, and the events behind it the service
pub record RunsBehind {S H : Type 0} (begins : S → ℕ → S → Type 0) (answers : S → Request (List ℕ) → Response → S → Type 0) (clocked : S → ℕ → S → Type 0) (listed : S → List ℕ → S → Type 0)
    (told : H → UsersError → H → Type 0) (old : LoginState S H) (events : List Event) (new : LoginState S H) : Type 0 where
  pub inner : List Event
  pub behind : AreRunBehind told old.door old.host events inner new.door new.host
  pub leads : EventsLead begins answers clocked listed old.service inner new.service
