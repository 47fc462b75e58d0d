-- What a log is told of a turn, and of the frames that tell of clients that were sent away (own).
use Rattle.std.specs.Prelude.{◌≡◌, ◌≢◌, ◌⊎◌, ℕ, Bool, true, List, [], ◌∷◌, ◌++◌, Option, Some, None, IsTrue, if◌then◌else◌}
use Rattle.http.specs.declared.error.Error.{Error}
use Rattle.http.specs.declared.error.Error.TheVariants.{HeaderName, MaxSizeReached, Uri}
use Rattle.http_uri.specs.Error.{is_too_long}
use Rattle.http1.specs.ReadError.{status_of}
use Rattle.http.specs.declared.request.Request.{Request}
use Rattle.http_server.specs.declared.response.Response.{Response}
use Rattle.http_server.specs.declared.state.Refusal.{Refusal}
use Rattle.http_server.specs.declared.state.Refusal.TheVariants.{Truncated, Unreadable, BodyTooLarge, InvalidPart, InvalidHost, UnknownCoding, InvalidResponse}
use Rattle.http_server.specs.declared.state.Reason.TheVariants.{Refused}
use Rattle.http_server.specs.declared.state.State.{State}
use Rattle.http_server.specs.declared.state.State.TheVariants.{Open, Closing, Aborted}
use Rattle.http_server.specs.Exchange.{Call}
use Rattle.http_frames.specs.declared.clients.Clients.{Clients}
use Rattle.http_frames.specs.declared.frames.Head.{Head}
use Rattle.http_frames.specs.declared.frames.Head.TheVariants.{Late, Turned}
use Rattle.http_frames.specs.declared.held.Held.{Held}
use Rattle.http_frames.specs.Clients.{held_at, history_of}

-- ---- the status of what a connection refuses by itself, as the kit's `http_server` answers it

abbrev pub part_code : Error → ℕ
part_code HeaderName = 431
part_code MaxSizeReached = 431
part_code (Uri e) = if is_too_long e then 414 else 400
part_code _ = 400

abbrev pub refusal_code : Refusal → ℕ
refusal_code Truncated = 400
refusal_code (Unreadable e) = status_of e
refusal_code BodyTooLarge = 413
refusal_code (InvalidPart e) = part_code e
refusal_code InvalidHost = 400
refusal_code UnknownCoding = 501
refusal_code (InvalidResponse e) = 500

-- ---- a turn

-- each call of the turn, of which there is one at most, was told once, as this user's
abbrev pub LogsCalls : {L : Type 0} → (L → Request (List ℕ) → Response → List ℕ → L → Type 0) → List ℕ → List Call → L → L → Type 0
LogsCalls answered user [] old new = new ≡ old
LogsCalls answered user (c ∷ []) old new = answered old c.0 c.1 user new
LogsCalls answered user (c ∷ d ∷ calls) old new = ⊥

-- where the turn ended a connection that was open, a refusal was told with its status, and that memory ran out
abbrev pub LogsEnd : {L : Type 0} → (L → ℕ → L → Type 0) → (L → L → Type 0) → State → State → L → L → Type 0
LogsEnd refused lost Open (Closing (Refused why)) old new = refused old (refusal_code why) new
LogsEnd refused lost Open Aborted old new = lost old new
LogsEnd refused lost before after old new = new ≡ old

module _ {L : Type 0} (begins : L → List ℕ → L → Type 0) (answered : L → Request (List ℕ) → Response → List ℕ → L → Type 0) (refused : L → ℕ → L → Type 0) (lost : L → L → Type 0) (user : List ℕ) where
  -- that the turn begins was told, then its calls, and then where it ended the connection
  pub record LogsEach (k k' : Held) (old new : L) : Type 0 where
    pub told : L
    pub begun : begins old k.address.items told
    pub calls : List Call
    pub made : (history_of k').calls ≡ (history_of k).calls ++ calls
    pub said : L
    pub called : LogsCalls answered user calls told said
    pub end : LogsEnd refused lost (history_of k).state (history_of k').state said new

  -- where an answer of the connection waits, nothing is told
  pub record LogsTurn (k k' : Held) (old new : L) : Type 0 where
    pub waits : (history_of k).pending ≢ [] → new ≡ old
    pub each : (history_of k).pending ≡ [] → LogsEach k k' old new

  -- of a turn of a connection that goes on no more nothing is told
  abbrev pub LogsTurnOf : Option Held → Option Held → L → L → Type 0
  LogsTurnOf None o old new = new ≡ old
  LogsTurnOf (Some k) o old new = (k' : Held) × (o ≡ Some k') × LogsTurn k k' old new

-- ---- who is known

-- A user was let in on it where one had been, or where a call of this turn was answered as a user's.
pub record LearnsUser (user : List ℕ) (k k' : Held) : Type 0 where
  pub stays : IsTrue k.known → IsTrue k'.known
  pub only : IsTrue k'.known → IsTrue k.known ⊎ (user ≢ [])
  pub learns : (history_of k').calls ≢ (history_of k).calls → user ≢ [] → IsTrue k'.known
  pub told : k'.told ≡ k.told

abbrev pub LearnsUserOf : List ℕ → Option Held → Option Held → Type 0
LearnsUserOf user (Some k) (Some k') = LearnsUser user k k'
LearnsUserOf user _ _ = Unit {0}

-- ---- frames

-- the address of the client of a connection that goes on; no bytes where none was told, or it goes on no more
abbrev pub address_in_held : Option Held → List ℕ
address_in_held None = []
address_in_held (Some k) = k.address.items

abbrev pub address_at : Clients → ℕ → List ℕ
address_at c number = address_in_held (held_at c number)

-- a client was too slow, or connections had no place, where a right frame says so
abbrev pub LogsFrame : {L : Type 0} → (L → List ℕ → L → Type 0) → (L → List ℕ → ℕ → L → Type 0) → Clients → Bool → Option Head → List ℕ → L → L → Type 0
LogsFrame late turned c true (Some (Late number)) bytes old new = late old (address_at c number) new
LogsFrame late turned c true (Some (Turned count)) bytes old new = turned old bytes count new
LogsFrame late turned c right h bytes old new = new ≡ old
