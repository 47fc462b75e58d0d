-- What a contract sees of a session: the state of its stores and its generator, who asks, and where notes of what changed begin.
use Rattle.std.specs.Prelude.{◌≡◌, ◌+◌, ℕ, Bool, List}
use Rattle.rand_core.specs.Stream.{Stream}
use Rattle.dav_guarded_core.specs.Requests.{Command}
use Rattle.dav_guarded_core.specs.Step.{State}
use Rattle.dav_guarded_core.specs.Stores.{Stores, state_of}
use Rattle.dav_notes_core.specs.Ahead.{ahead}
use Rattle.dav_notes_core.specs.Costs.{cost_for}
use Rattle.dav_notes_core.specs.Seen.{HasNoteRoom, Seen}
use Rattle.dav_session_core.specs.declared.session.Session.{Session}
use Rattle.dav_session_core.specs.Callers.{Asks, Caller, RunBy, SameLive, live, Runs}

-- of what the generator still gives, with the bytes of the next token, which are drawn ahead
abbrev pub state : {R : Type 0} → (R → Stream) → Session R → State
state stream s = state_of s.stores.stores (ahead (s.stores.next, stream s.rng))

abbrev pub caller : {R : Type 0} → Session R → Caller
caller s = s.stores.who

-- the stores alone
abbrev pub stores_behind : {R : Type 0} → Session R → Stores
stores_behind s = s.stores.stores

-- whether notes are kept, the stores and the moment where they begin, and how many bytes they may have in a record
pub record Noting : Type 0 where
  pub keeps : Bool
  pub base : List (Stores × ℕ)
  pub given : ℕ

abbrev pub noting_in : Seen → Noting
noting_in seen = record { keeps = seen.keeps; base = seen.base; given = seen.given }

abbrev pub noting : {R : Type 0} → Session R → Noting
noting s = noting_in s.stores

-- how many bytes the notes may still have in a record
abbrev pub bytes_left : {R : Type 0} → Session R → ℕ
bytes_left s = s.stores.left

-- so many changes of the caller's, whose notes cost so many bytes together, lack no room for them
abbrev pub HasRoomForNotes : {R : Type 0} → ℕ → ℕ → Session R → Type 0
HasRoomForNotes count bytes s = HasNoteRoom count bytes s.stores

-- this change of the caller's lacks no room for its note
abbrev pub HasRoomFor : {R : Type 0} → Command → Session R → Type 0
HasRoomFor command s = HasRoomForNotes 1 (cost_for (caller s) command) s

-- no room for notes has gone
abbrev pub KeepsRoom : {R : Type 0} → Session R → Session R → Type 0
KeepsRoom old new = (count bytes : ℕ) → HasRoomForNotes count bytes old → HasRoomForNotes count bytes new

-- the room of the note of this change has gone, at most
abbrev pub TakesRoom : {R : Type 0} → Command → Session R → Session R → Type 0
TakesRoom command old new =
    (count bytes : ℕ) → HasRoomForNotes (count + 1) (bytes + cost_for (caller old) command) old → HasRoomForNotes count bytes new

-- of these, what has not expired at the moment of who asks
abbrev pub live_of : {R : Type 0} → (R → Stream) → Session R → State
live_of stream s = live (caller s).now (state stream s)

-- of what stands afterwards, what has not expired at the moment of who asked before
abbrev pub live_after : {R : Type 0} → (R → Stream) → Session R → Session R → State
live_after stream old new = live (caller old).now (state stream new)

-- nothing has changed but that locks have expired
abbrev pub Stays : {R : Type 0} → (R → Stream) → Session R → Session R → Type 0
Stays stream old new = SameLive (caller old).now (state stream old) (state stream new)

-- nothing has changed but the room for notes
pub record IsAsBefore {R : Type 0} (stream : R → Stream) (old new : Session R) : Type 0 where
  pub state : state stream new ≡ state stream old
  pub who : caller new ≡ caller old
  pub noting : noting new ≡ noting old

-- what questions of one caller leave of a session
pub record Looks {R : Type 0} (stream : R → Stream) (old new : Session R) : Type 0 where
  pub run : RunBy (caller old) (state stream old) (state stream new)
  pub live : Stays stream old new
  pub who : caller new ≡ caller old
  pub noting : noting new ≡ noting old

-- what requests of one caller leave of a session, of which none grants, ends or refreshes a lock
pub record Acts {R : Type 0} (stream : R → Stream) (old new : Session R) : Type 0 where
  pub run : RunBy (caller old) (state stream old) (state stream new)
  pub who : caller new ≡ caller old
  pub noting : noting new ≡ noting old

-- what requests of one caller leave of a session, whatever they are
pub record Requests {R : Type 0} (stream : R → Stream) (old new : Session R) : Type 0 where
  pub run : Asks (caller old) (state stream old) (state stream new)
  pub who : caller new ≡ caller old
  pub noting : noting new ≡ noting old

-- what requests leave of a session, of which some may name one more token
pub record Ran {R : Type 0} (stream : R → Stream) (old new : Session R) : Type 0 where
  pub run : Runs (state stream old) (state stream new)
  pub who : caller new ≡ caller old
  pub noting : noting new ≡ noting old
