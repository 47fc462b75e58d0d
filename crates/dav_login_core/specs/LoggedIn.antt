-- What a login answers, in front of a service (RFC 7617 section 2, RFC 9110 section 11.6, RFC 6585 section 4; OPTIONS: own).
use Rattle.std.specs.Prelude.{◌≡◌, ◌⊎◌, ℕ, false, List, [], ◌∷◌, codes, string_bytes, Option, None, Some, Ok}
use Rattle.http_header.specs.FieldValue.{IsFieldValue}
use Rattle.http.specs.declared.request.Request.{Request}
use Rattle.http.specs.Request.{head_of}
use Rattle.http_frames.specs.Closing.{close_field}
use Rattle.http_server.specs.declared.response.Response.{Response}
use Rattle.http_server.specs.Response.{IsResponse}
use Rattle.dav_users_core.specs.Basic.{NameAndPassword}
use Rattle.dav_users_core.specs.declared.error.UsersError.{UsersError}
use Rattle.dav_users_core.specs.Users.{IsUsersFault, UserLine, hash_named, users_of}
use Rattle.dav_login_core.specs.declared.known.Known.{Known}
use Rattle.dav_login_core.specs.Digests.{IsAccepted, IsTurnedDown, Remembers, Retains, digest, is_known}
use Rattle.dav_login_core.specs.Passing.{AsNobody, AsUser}
use Rattle.dav_login_core.specs.Sending.{AsksOptions, name_and_password_sent}

-- what a login goes by: the users, the value of the field that asks for a password, the name of the header for the principal, that of the field that tells a client's address, where one is chosen, and
-- the key
pub record Door : Type 0 where
  pub users : List UserLine
  pub challenge : List ℕ
  pub header : List ℕ
  pub address_field : Option (List ℕ)
  pub key : List ℕ

-- a login, what it knows of names and passwords that were accepted, the service behind it, and the host
pub record LoginState (S H : Type 0) : Type 0 where
  pub door : Door
  pub known : List Known
  pub service : S
  pub host : H

-- ---- what a file makes of the users

-- they are those of the file, and the host is told nothing
pub record TakesUsers {H : Type 0} (file : List ℕ) (before : H) (new : List UserLine) (after : H) : Type 0 where
  pub count : ℕ
  pub users : users_of file ≡ Ok (new, count)
  pub host : after ≡ before

-- They stay, and the host is told why: by the line of the file that is wrong, or by that there is no memory.
pub record KeepsUsers {H : Type 0} (told : H → UsersError → H → Type 0) (file : List ℕ) (old : List UserLine) (before : H) (new : List UserLine) (after : H) : Type 0 where
  pub error : UsersError
  pub is_told : told before error after
  pub is_true : IsUsersFault error (users_of file)
  pub users : new ≡ old

-- they are those of the file, or the host is told why they stay
abbrev pub PutsUsers : {H : Type 0} → (H → UsersError → H → Type 0) → List ℕ → List UserLine → H → List UserLine → H → Type 0
PutsUsers told file old before new after = TakesUsers file before new after ⊎ KeepsUsers told file old before new after

-- ---- whom a request is of

-- It is no OPTIONS without `Authorization`, and what it sends is refused, or is a name that no field can have.
pub record HasToLogIn (door : Door) (request : Request (List ℕ)) : Type 0 where
  pub no_options : ¬ (AsksOptions (head_of request))
  pub unknown : (given : NameAndPassword) → name_and_password_sent (head_of request).headers ≡ Some given
      → IsTurnedDown door.users door.key given.name given.password ⊎ ¬ (IsFieldValue given.name)

-- it is an OPTIONS without `Authorization`, and the inner request is the same as nobody's
pub record IsNobodys (door : Door) (request inner : Request (List ℕ)) : Type 0 where
  pub asks : AsksOptions (head_of request)
  pub unnamed : AsNobody door.header request inner

-- it sends a name and a password that are accepted, and the inner request is the same as that user's
pub record IsUsers (door : Door) (request inner : Request (List ℕ)) : Type 0 where
  pub given : NameAndPassword
  pub is_sent : name_and_password_sent (head_of request).headers ≡ Some given
  pub is_accepted : IsAccepted door.users door.key given.name given.password
  pub named : AsUser door.header given.name request inner

abbrev pub IsPassedOn : Door → Request (List ℕ) → Request (List ℕ) → Type 0
IsPassedOn door request inner = IsNobodys door request inner ⊎ IsUsers door request inner

-- ---- what is answered

-- it is answered 401, with the challenge, and where it is long with the field that closes its connection
pub record IsUnknown (door : Door) (request : Request (List ℕ)) (response : Response) : Type 0 where
  pub reason : HasToLogIn door request
  pub answer : IsResponse 401 ((codes "www-authenticate", door.challenge) ∷ close_field request) [] response

-- It sends a name and a password, and is answered 429: they are looked at again in a second (RFC 6585 section 4). Where it is long its connection is closed.
pub record IsPutOff (request : Request (List ℕ)) (response : Response) : Type 0 where
  pub given : NameAndPassword
  pub is_sent : name_and_password_sent (head_of request).headers ≡ Some given
  pub answer : IsResponse 429 ((codes "retry-after", codes "1") ∷ close_field request) [] response

abbrev pub IsTurnedAway : Door → Request (List ℕ) → Response → Type 0
IsTurnedAway door request response = IsUnknown door request response ⊎ IsPutOff request response

-- what it sends is not known as accepted
abbrev pub IsNotKnown : Door → List Known → Request (List ℕ) → Type 0
IsNotKnown door known request =
    (given : NameAndPassword) → name_and_password_sent (head_of request).headers ≡ Some given
    → is_known known (digest door.key given.name given.password) ≡ false

-- what is known stays, where nothing is sent, and else what was sent is remembered
abbrev pub KeepsInMind : Door → Request (List ℕ) → List Known → List Known → Type 0
KeepsInMind door request old new =
    ((name_and_password_sent (head_of request).headers ≡ None) × (new ≡ old))
    ⊎ ((given : NameAndPassword) × (name_and_password_sent (head_of request).headers ≡ Some given)
    × Remembers (digest door.key given.name given.password) old new)

module _ {S H : Type 0} (old : LoginState S H) (request : Request (List ℕ)) (response : Response) (new : LoginState S H) where
  -- It is refused, and the service stays as it is, and what is known. It is held back only where what it sends is not known.
  pub record TurnsAway : Type 0 where
    pub refused : IsUnknown old.door request response ⊎ (IsPutOff request response × IsNotKnown old.door old.known request)
    pub stays : new ≡ old

  -- the service answers the inner request
  pub record PassesOn (answers : S → Request (List ℕ) → Response → S → Type 0) : Type 0 where
    pub inner : Request (List ℕ)
    pub passed : IsPassedOn old.door request inner
    pub answered : answers old.service inner response new.service
    pub known : KeepsInMind old.door request old.known new.known

module _ {S H : Type 0} where
  -- the request is refused or served, the login goes by the same as before, and the host is told nothing
  pub record LoggedIn (answers : S → Request (List ℕ) → Response → S → Type 0) (old : LoginState S H) (request : Request (List ℕ)) (response : Response) (new : LoginState S H) : Type 0 where
    pub answer : TurnsAway old request response new ⊎ PassesOn old request response new answers
    pub door : new.door ≡ old.door
    pub host : new.host ≡ old.host

  -- the service takes word of a number, and the login stays the same
  pub record HandsOn (takes : S → ℕ → S → Type 0) (old : LoginState S H) (number : ℕ) (new : LoginState S H) : Type 0 where
    pub service : takes old.service number new.service
    pub door : new.door ≡ old.door
    pub known : new.known ≡ old.known
    pub host : new.host ≡ old.host

  -- The users are those of the file, or stay where the host is told why. What is known stays of users with the same line as before.
  pub record Lists (told : H → UsersError → H → Type 0) (old : LoginState S H) (file : List ℕ) (new : LoginState S H) : Type 0 where
    pub users : PutsUsers told file old.door.users old.host new.door.users new.host
    pub known : Retains (λ k. hash_named old.door.users (string_bytes k.name) ≡ hash_named new.door.users (string_bytes k.name)) old.known new.known
    pub challenge : new.door.challenge ≡ old.door.challenge
    pub header : new.door.header ≡ old.door.header
    pub address_field : new.door.address_field ≡ old.door.address_field
    pub key : new.door.key ≡ old.door.key

  -- the users are listed, and the service takes word of the file
  pub record ListsUsers (listed : S → List ℕ → S → Type 0) (told : H → UsersError → H → Type 0) (old : LoginState S H) (file : List ℕ) (new : LoginState S H) : Type 0 where
    pub lists : Lists told old file new
    pub service : listed old.service file new.service
