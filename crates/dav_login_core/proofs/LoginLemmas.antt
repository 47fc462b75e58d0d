-- What a login answers, by cases.
use Rattle.std.proofs.Common.{◌≡◌, ◌⊎◌, ℕ, Bool, false, List, [], ◌∷◌, codes, Option, Some, None, MatchBool, Result, Ok, sym, ap, subst, ◌∙◌, inl, inr}
use Rattle.std.specs.declared.alloc.AllocError.{AllocError}
use Rattle.std.proofs.lemmas.Option.{none-some, same_Some}
use Rattle.http_header.specs.FieldValue.{FieldValue, IsFieldValue}
use Rattle.http.specs.declared.request.Parts.{Parts}
use Rattle.http.specs.declared.request.Request.{Request}
use Rattle.http.specs.Request.{head_of}
use Rattle.http_frames.specs.Closing.{close_field}
use Rattle.http_server.specs.declared.response.Response.{Response}
use Rattle.http_server.specs.Response.{IsResponse}
use Rattle.dav_users_core.specs.Basic.{NameAndPassword}
use Rattle.dav_users_core.specs.Users.{UserLine}
use Rattle.dav_login_core.specs.declared.admitting.Admitted.{Admitted}
use Rattle.dav_login_core.specs.declared.known.Known.{Known}
use Rattle.dav_login_core.specs.declared.known.Lesson.{Lesson}
use Rattle.dav_login_core.specs.declared.known.Lesson.TheVariants.{Nothing, Used, New}
use Rattle.dav_login_core.specs.Admissions.{IsFoundToBe, IsLessonOf, LearnsBy, MayLearn}
use Rattle.dav_login_core.specs.Digests.{IsAccepted, IsTurnedDown, Learns, Remembers, digest, is_known, moved_to_end}
use Rattle.dav_login_core.specs.LoggedIn.{Door, HasToLogIn, IsNotKnown, IsUsers, LoggedIn, LoginState, KeepsInMind, TurnsAway}
use Rattle.dav_login_core.specs.Passing.{AsUser}
use Rattle.dav_login_core.specs.Sending.{AsksOptions, given_in_field, only, name_and_password_sent}

-- an OPTIONS without `Authorization` sends no name
unsigned_options : (head : Parts) → AsksOptions head → name_and_password_sent head.headers ≡ None
unsigned_options head asks = ap (λ (values : List FieldValue). given_in_field (only values)) asks.unsigned

-- whoever sends a name and a password has to log in, where they are refused or the name fits no field
pub given_in_vain : (door : Door) (request : Request (List ℕ)) (given : NameAndPassword) → name_and_password_sent (head_of request).headers ≡ Some given
    → IsTurnedDown door.users door.key given.name given.password ⊎ ¬ (IsFieldValue given.name) → HasToLogIn door request
given_in_vain door request given is_sent vain = record {
  no_options = λ asks. none-some given (sym (unsigned_options (head_of request) asks) ∙ is_sent);
  unknown = λ other is_other.
      let same : given ≡ other = same_Some given other (sym is_sent ∙ is_other) in
      subst (λ (g : NameAndPassword). IsTurnedDown door.users door.key g.name g.password ⊎ ¬ (IsFieldValue g.name)) same vain;
}

-- what one request sends is not known, where it is not for what is sent
pub not_known : (door : Door) (known : List Known) (request : Request (List ℕ)) (given : NameAndPassword)
    → name_and_password_sent (head_of request).headers ≡ Some given → is_known known (digest door.key given.name given.password) ≡ false
    → IsNotKnown door known request
not_known door known request given is_sent unknown = λ other is_other.
    let same : given ≡ other = same_Some given other (sym is_sent ∙ is_other) in
    subst (λ (g : NameAndPassword). is_known known (digest door.key g.name g.password) ≡ false) same unknown

module _ {S H : Type 0} (old new : LoginState S H) (request : Request (List ℕ)) (response : Response) where
  pub turned_away : HasToLogIn old.door request → IsResponse 401 ((codes "www-authenticate", old.door.challenge) ∷ close_field request) [] response → new ≡ old
      → TurnsAway old request response new
  turned_away reason answer stays = record { refused = inl (record { reason = reason; answer = answer }); stays = stays }

  pub held_back : (given : NameAndPassword) → name_and_password_sent (head_of request).headers ≡ Some given
      → is_known old.known (digest old.door.key given.name given.password) ≡ false
      → IsResponse 429 ((codes "retry-after", codes "1") ∷ close_field request) [] response → new ≡ old → TurnsAway old request response new
  held_back given is_sent unknown answer stays = record {
    refused = inr (record { given = given; is_sent = is_sent; answer = answer }, not_known old.door old.known request given is_sent unknown);
    stays = stays;
  }

-- what is learned of a request may be
pub may_learn : (door : Door) (known : List Known) (request : Request (List ℕ)) (lesson : Lesson) → IsLessonOf door known request lesson → MayLearn door lesson
may_learn door known request Nothing is = tt
may_learn door known request (Used kept) is = tt
may_learn door known request (New k) is = is.0

-- it is a user's request
pub users_request : (door : Door) (request inner : Request (List ℕ)) (given : NameAndPassword) → name_and_password_sent (head_of request).headers ≡ Some given
    → IsAccepted door.users door.key given.name given.password → AsUser door.header given.name request inner → IsUsers door request inner
users_request door request inner given is_sent is_accepted named = record { given = given; is_sent = is_sent; is_accepted = is_accepted; named = named }

-- what is let in is what was found
pub let_in : (P : Admitted → Type 0) (x y : Admitted) → (let r : Result (Option Admitted) AllocError = Ok (Some x) in r) ≡ Ok (Some y) → P x → P y
let_in P x y e h = let same : x ≡ y = cc in subst P same h

-- the states are the same, where users, keys and what is known are
pub same_state : {S H : Type 0} (users users' : List UserLine) (challenge header : List ℕ) (address_field : Option (List ℕ)) (key key' : List ℕ) (known known' : List Known) (service : S) (host : H)
    → users' ≡ users → key' ≡ key → known' ≡ known
    → record { door = record { users = users'; challenge = challenge; header = header; address_field = address_field; key = key' }; known = known'; service = service; host = host }
    ≡ (let s : LoginState S H = record { door = record { users = users; challenge = challenge; header = header; address_field = address_field; key = key }; known = known; service = service; host = host } in s)
same_state {S} {H} users users' challenge header address_field key key' known known' service host is_same are_same knows =
    ap (λ (u : List UserLine). (let s : LoginState S H = record { door = record { users = u; challenge = challenge; header = header; address_field = address_field; key = key' }; known = known'; service = service; host = host } in s)) is_same
    ∙ ap (λ (k : List ℕ). (let s : LoginState S H = record { door = record { users = users; challenge = challenge; header = header; address_field = address_field; key = k }; known = known'; service = service; host = host } in s)) are_same
    ∙ ap (λ (k : List Known). (let s : LoginState S H = record { door = record { users = users; challenge = challenge; header = header; address_field = address_field; key = key }; known = k; service = service; host = host } in s)) knows

module _ {S H : Type 0} (answers : S → Request (List ℕ) → Response → S → Type 0) (old mid new : LoginState S H) (request : Request (List ℕ)) (response : Response) where
  -- what was sent is remembered by the lesson
  remembers : (known : List Known) → known ≡ old.known → (lesson : Lesson) → IsLessonOf old.door old.known request lesson → LearnsBy lesson known new.known
      → KeepsInMind old.door request old.known new.known
  remembers known same Nothing sent learned = inl (sent, learned ∙ same)
  remembers known same (Used kept) is learned =
      let by_kept : Remembers kept old.known new.known = subst (λ (b : Bool). MatchBool b (new.known ≡ moved_to_end kept old.known) (Learns kept old.known new.known)) (sym is.3)
      (learned ∙ ap (moved_to_end kept) same) in
      inr (is.0, is.1, subst (λ (d : List ℕ). Remembers d old.known new.known) is.2 by_kept)
  remembers known same (New k) is learned =
      let by_kept : Remembers k.digest old.known new.known =
      subst (λ (b : Bool). MatchBool b (new.known ≡ moved_to_end k.digest old.known) (Learns k.digest old.known new.known)) (sym is.1.3)
      (subst (λ (ks : List Known). Learns k.digest ks new.known) same learned) in
      inr (is.1.0, is.1.1, subst (λ (d : List ℕ). Remembers d old.known new.known) is.1.2 by_kept)

  -- the service answered what was let in, and this was learned
  pub served : (admitted : Admitted) (service : S) → IsFoundToBe old.door old.known request admitted → mid ≡ old → answers mid.service admitted.inner response service
      → new.service ≡ service → new.door ≡ mid.door → new.host ≡ mid.host
      → LearnsBy admitted.lesson mid.known new.known → LoggedIn answers old request response new
  served admitted service is same answered serves door host knows = record {
    answer = inr (record {
      inner = admitted.inner;
      passed = is.passed;
      answered = subst (λ (s : S). answers old.service admitted.inner response s) (sym serves)
          (subst (λ (l : LoginState S H). answers l.service admitted.inner response service) same answered);
      known = remembers mid.known (ap (λ (l : LoginState S H). l.known) same) admitted.lesson is.lesson knows;
    });
    door = door ∙ ap (λ (l : LoginState S H). l.door) same;
    host = host ∙ ap (λ (l : LoginState S H). l.host) same;
  }
