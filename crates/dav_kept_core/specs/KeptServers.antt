-- A server whose stores are kept: what its last call changed is at hand, and records stand for it (own).
use Rattle.std.specs.Prelude.{◌≡◌, ◌≤◌, ◌+◌, ◌==◌, if◌then◌else◌, ℕ, Bool, true, not, List, [], ◌∷◌, ◌++◌, map, Option, Result}
use Rattle.std.specs.List.{flat_map}
use Rattle.rand_core.specs.Stream.{Stream}
use Rattle.http.specs.declared.request.Request.{Request}
use Rattle.http_server.specs.declared.response.Response.{Response}
use Rattle.http_frames.specs.declared.clients.Clients.{Clients}
use Rattle.http_frames.specs.declared.serving.End.{End}
use Rattle.journal_core.specs.declared.header.Header.{Header}
use Rattle.journal_core.specs.declared.journal.Journal.{Journal}
use Rattle.kept_frames.specs.KeptRuns.{RunsKept}
use Rattle.kept_frames.specs.LateRuns.{RunsLate}
use Rattle.dav_guarded_core.specs.Stores.{Stores}
use Rattle.dav_notes_core.specs.Costs.{notes_cost}
use Rattle.dav_notes_core.specs.Noting.{AreChanges, Noted, note_of}
use Rattle.dav_notes_core.specs.PlayedNotes.{NotesLead}
use Rattle.dav_notes_core.specs.Seen.{KeptNotes}
use Rattle.dav_store_core.specs.StandingFor.{AreRecords, StandFor}
use Rattle.dav_handler_core.specs.Server.{Server}
use Rattle.dav_handler_core.specs.Serving.{BeginsTurn, Clocked, Replies, Timing, timing}
use Rattle.dav_kept_core.specs.declared.recorded.Recorded.{Recorded}

-- a server and its clock; the notes of what the last call changed; what changes with each turn; and the header of the journal that keeps them
pub record KeptServer (C : Type 0) : Type 0 where
  pub timing : Timing C
  pub notes : List Noted
  pub turn : Bool
  pub header : Header

abbrev pub kept_server : {R C : Type 0} → (R → Stream) → Recorded R C → KeptServer C
kept_server stream r = record { timing = timing stream r.timed; notes = map note_of r.last.notes.items; turn = r.turn; header = r.header }

-- the stores of a server
abbrev pub stores_in : Server → Stores
stores_in s = record { map = s.state.map; locks = s.state.locks }

-- notes are kept, and none was made since the last ones were taken
abbrev pub IsFresh : Server → Type 0
IsFresh s = (s.noting.keeps ≡ true) × (s.noting.base ≡ (stores_in s, s.last) ∷ [])

-- the notes are begun anew, and may have so many bytes
abbrev pub with_room : ℕ → Server → Server
with_room bytes s = record s { noting = record { keeps = s.noting.keeps; base = (stores_in s, s.last) ∷ []; given = bytes } }

-- How many bytes the records of notes have in a round, where the notes may have so many: 24 more, and none where there is room for none.
abbrev pub room_of : ℕ → ℕ
room_of given = if given == 0 then 0 else given + 24

-- of what the next call changes
abbrev pub record_room : {C : Type 0} → KeptServer C → ℕ
record_room s = room_of s.timing.server.noting.given

-- ---- what each step of a run does

-- the turn begins, with some room for its notes, and the last call's notes are dropped
pub record BeginsKept {C : Type 0} (tells : C → Option ℕ → C → Type 0) (old : KeptServer C) (number : ℕ) (new : KeptServer C) : Type 0 where
  pub given : ℕ
  pub begins : BeginsTurn tells (record { server = with_room given old.timing.server; clock = old.timing.clock }) number new.timing
  pub notes : new.notes ≡ []
  pub turn : new.turn ≡ not old.turn
  pub header : new.header ≡ old.header

-- the notes are those of what was changed, they cost no more than was given, and the next ones begin here
pub record TakesNotes (old : Server) (notes : List Noted) (new : Server) : Type 0 where
  pub kept : KeptNotes old.noting.keeps old.noting.base notes old.last (stores_in old)
  pub changes : AreChanges notes
  pub cost : notes_cost notes ≤ old.noting.given
  pub server : new ≡ with_room old.noting.given old

-- the call is answered, and then its notes are taken
pub record RepliesKept {C : Type 0} (old : KeptServer C) (request : Request (List ℕ)) (response : Response) (new : KeptServer C) : Type 0 where
  pub answered : Timing C
  pub replies : Replies old.timing request response answered
  pub takes : TakesNotes answered.server new.notes new.timing.server
  pub clock : new.timing.clock ≡ answered.clock
  pub turn : new.turn ≡ old.turn
  pub header : new.header ≡ old.header

-- a frame tells the moment
pub record ClockedKept {C : Type 0} (old : KeptServer C) (moment : ℕ) (new : KeptServer C) : Type 0 where
  pub clocked : Clocked old.timing moment new.timing
  pub notes : new.notes ≡ old.notes
  pub turn : new.turn ≡ old.turn
  pub header : new.header ≡ old.header

-- a frame tells who the users are, which is nothing to the server
abbrev pub ListedKept : {C : Type 0} → KeptServer C → List ℕ → KeptServer C → Type 0
ListedKept old file new = new ≡ old

-- ---- what stands for it

-- The first of the records stand for stores, as they were when the server began to keep notes; the others are those of its notes since then, one of each call that changed something, and these
-- lead from there to its stores as they are.
pub record StandsForServer {C : Type 0} (records : List (List ℕ)) (s : KeptServer C) : Type 0 where
  pub old : List (List ℕ)
  pub start : Stores
  pub from : ℕ
  pub stand : StandFor s.header old start from
  pub calls : List (List Noted)
  pub made : List (List ℕ)
  pub are : AreRecords calls made
  pub all : records ≡ old ++ made
  pub leads : NotesLead from start (flat_map (λ notes. notes) calls) s.timing.server.last (stores_in s.timing.server)
  pub fresh : IsFresh s.timing.server

-- The frames were served, however that ended, and at each moment what was handed out is kept.
abbrev pub AreServedKept : {C D O E : Type 0} → (C → Option ℕ → C → Type 0) → (D → List ℕ) → (D → List ℕ → Type 0) → (D → Bool) → (O → Option (List ℕ)) → Result End E → Clients → Clients
    → KeptServer C → KeptServer C → Journal D O → Journal D O → Option (List ℕ) → Option (List ℕ) → O → O → Type 0
AreServedKept tells seen may_leave is_clean contents result c c' s s' j j' input input' o o' =
    RunsKept (BeginsKept tells) RepliesKept ClockedKept ListedKept StandsForServer seen may_leave is_clean contents result c c' s s' j j' input input' o o'

-- The frames were served, however that ended, and at each moment what happened up to the last tick is kept.
abbrev pub AreServedLate : {C D O E : Type 0} → (C → Option ℕ → C → Type 0) → (D → List ℕ) → (D → List ℕ → Type 0) → (D → Bool) → (O → Option (List ℕ)) → Result End E → Clients → Clients
    → KeptServer C → KeptServer C → Journal D O → Journal D O → Option (List ℕ) → Option (List ℕ) → O → O → Type 0
AreServedLate tells seen may_leave is_clean contents result c c' s s' j j' input input' o o' =
    RunsLate (BeginsKept tells) RepliesKept ClockedKept ListedKept StandsForServer seen may_leave is_clean contents result c c' s s' j j' input input' o o'
