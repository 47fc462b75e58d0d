-- What the steps do of which a call is made.
use Rattle.std.specs.Prelude.{◌≡◌, ◌≢◌, ◌⊎◌, ℕ, ◌<◌, ◌≤◌, ◌+◌, ◌-◌, Bool, true, false, List, [], ◌∷◌, ◌++◌, length, take, Option, Some, None, Contains, IsTrue, IsFalse, if◌then◌else◌, ◌==◌}
use Rattle.std.specs.Io.KnownBytes.{Appends}
use Rattle.http.specs.declared.request.Request.{Request}
use Rattle.http_server.specs.declared.connection.Connection.{Connection}
use Rattle.http_server.specs.declared.response.Response.{Response}
use Rattle.http_server.specs.declared.state.State.TheVariants.{Open}
use Rattle.http_server.specs.Connection.{config_of as connection_config, history}
use Rattle.http_server.specs.Exchange.{Call}
use Rattle.http_server.specs.History.{Rests, IsQuiet, new_history, after_read, after_sent}
use Rattle.http_frames.specs.declared.clients.Clients.{Clients}
use Rattle.http_frames.specs.declared.held.Held.{Held}
use Rattle.http_frames.specs.declared.clients.Windows.{Windows}
use Rattle.http_frames.specs.Clients.{HearsMore, IsAllDue, IsNews, asked_of, count_begun, config_of, window_of, queue_of, held_at, history_of}
use Rattle.http_frames.specs.Frames.{grant_text, known_text, piece_text, wait_text}
use Rattle.http_frames.specs.Gate.{TakesTurn}

-- ---- one connection

-- it joined the queue, where it did not stand there
abbrev pub JoinsFresh : ℕ → Held → List ℕ → List ℕ → Type 0
JoinsFresh number k queue queue' = (queue' ≡ queue) ⊎ ((queue' ≡ queue ++ number ∷ []) × IsFalse k.queued)

-- the same connection, which may have joined the queue
pub record Waits (number : ℕ) (k k' : Held) (queue queue' : List ℕ) : Type 0 where
  pub history : history_of k' ≡ history_of k
  pub config : connection_config k'.connection ≡ connection_config k.connection
  pub ahead : k'.ahead ≡ k.ahead
  pub heard : k'.heard ≡ k.heard
  pub behind : k'.behind ≡ k.behind
  pub due : k'.due ≡ k.due
  pub ended : k'.ended ≡ k.ended
  pub joins : JoinsFresh number k queue queue'
  pub queued : (IsTrue k.queued → Contains queue number) → IsTrue k'.queued → Contains queue' number
  pub unqueued : (IsFalse k.queued → Contains queue number → ⊥) → IsFalse k'.queued → Contains queue' number → ⊥

-- it has its place in the queue
abbrev pub StandsInQueue : ℕ → Held → List ℕ → List ℕ → Type 0
StandsInQueue number k queue queue' = (IsTrue k.queued → Contains queue number) → Contains queue' number

-- bytes were received
pub record Reads (bytes : List ℕ) (k k' : Connection) : Type 0 where
  pub history : history k' ≡ after_read (history k) bytes
  pub config : connection_config k' ≡ connection_config k

-- the first of the bytes were received, where any were
abbrev pub ReadsFront : List ℕ → Connection → Connection → Type 0
ReadsFront front k k' = ((front ≡ []) × (history k' ≡ history k) × (connection_config k' ≡ connection_config k)) ⊎ ((front ≢ []) × Reads front k k')

-- bytes that come once the input has ended, or once the connection is closed, are dropped
abbrev pub IsDeaf : Held → Type 0
IsDeaf k = IsTrue k.ended ⊎ ((history_of k).state ≢ Open)

-- the connection got the bytes
pub record Hears (into number : ℕ) (bytes : List ℕ) (k k' : Held) (queue queue' : List ℕ) : Type 0 where
  pub open_is : (history_of k).state ≡ Open
  pub unended : IsFalse k.ended
  pub reads : Reads bytes k.connection k'.connection
  pub ahead : k'.ahead ≡ k.ahead
  pub heard : k'.heard ≡ k.heard + length bytes
  pub behind : k'.behind ≡ k.behind + length bytes
  pub fits : k'.behind ≤ into
  pub due : k'.due ≡ k.due
  pub ended : k'.ended ≡ (length bytes == 0)
  pub joins : JoinsFresh number k queue queue'
  pub is_in : StandsInQueue number k queue queue'
  pub queued : IsTrue k'.queued

-- what a turn leaves to be told and granted
pub record Settles (k k' : Held) : Type 0 where
  pub connection : k'.connection ≡ k.connection
  pub ahead : k'.ahead ≡ k.ahead
  pub heard : k'.heard ≡ k.heard
  pub behind : k'.behind ≡ k.behind
  pub due : (k'.due ≡ k.due) ⊎ ((k'.due ≡ k.behind) × ((history_of k).state ≡ Open) × ((history_of k).pending ≡ []))
  pub dues : IsAllDue k'
  pub news : IsNews k'
  pub ended : k'.ended ≡ k.ended
  pub queued : k'.queued ≡ k.queued
  pub known : k'.known ≡ k.known
  pub told : k'.told ≡ k.told

-- one step of a connection, unless an answer of it waits
pub record Steps {S : Type 0} (begins : S → ℕ → S → Type 0) (answers : S → Request (List ℕ) → Response → S → Type 0) (number : ℕ) (k k' : Held) (s s' : S) : Type 0 where
  pub calls : List Call
  pub turn : TakesTurn begins answers s number calls s'
  pub made : (history_of k').calls ≡ (history_of k).calls ++ calls
  pub quiet : IsQuiet (history_of k) (history_of k')
  pub settled : (history_of k).state ≢ Open → history_of k' ≡ history_of k
  pub waits : (history_of k).pending ≢ [] → (history_of k' ≡ history_of k) × (calls ≡ []) × (s' ≡ s)
  pub rests : (connection_config k.connection).max_pending ≡ 0 → Rests (connection_config k'.connection) (history_of k')
  pub config : connection_config k'.connection ≡ connection_config k.connection
  pub ahead : k'.ahead ≡ k.ahead
  pub heard : k'.heard ≡ k.heard
  pub behind : k'.behind ≡ k.behind
  -- once nothing waits, all that was received may be granted anew
  pub due : (k'.due ≡ k.due) ⊎ ((k'.due ≡ k.behind) × ((history_of k').state ≡ Open) × ((history_of k').pending ≡ []))
  pub dues : IsAllDue k'
  pub news : IsNews k'
  pub ended : k'.ended ≡ k.ended
  pub unqueued : IsFalse k'.queued

-- a user was let in, where a call was answered as one's
abbrev pub LearnsByCall : Bool → List ℕ → Held → Held → Type 0
LearnsByCall called user k k' = ((k' ≡ record k { known = true }) × IsTrue called × (user ≢ [])) ⊎ ((k' ≡ k) × (IsTrue called → user ≡ []))

-- so many of the bytes that wait were written as a piece
pub record WritesOutput (number room : ℕ) (k : Connection) (count : ℕ) (held holds : Option (List ℕ)) : Type 0 where
  pub fits : count ≤ room
  pub within : count ≤ length (history k).pending
  pub some : 0 < room → 0 < length (history k).pending → 0 < count
  pub wrote : Appends held holds (piece_text number (take count (history k).pending))

-- a piece went out
pub record Sends (number : ℕ) (windows : Windows) (k k' : Held) (queue queue' : List ℕ) (held holds : Option (List ℕ)) : Type 0 where
  pub count : ℕ
  pub some : 0 < count
  pub within : count ≤ length (history_of k).pending
  pub history : history_of k' ≡ after_sent (history_of k) count
  pub config : connection_config k'.connection ≡ connection_config k.connection
  pub ahead : k'.ahead ≡ k.ahead + count
  pub heard : k'.heard ≡ k.heard
  pub room : IsFalse windows.closed → k'.ahead ≤ windows.out
  pub behind : k'.behind ≡ k.behind
  pub due : k'.due ≡ k.due
  pub ended : k'.ended ≡ k.ended
  pub joins : JoinsFresh number k queue queue'
  pub is_in : StandsInQueue number k queue queue'
  pub queued : IsTrue k'.queued
  pub wrote : Appends held holds (piece_text number (take count (history_of k).pending))

-- its client may send more
pub record GrantsMore (number : ℕ) (k k' : Held) (held holds : Option (List ℕ)) : Type 0 where
  pub now : k' ≡ record k { behind = k.behind - k.due; due = 0 }
  pub wrote : Appends held holds (grant_text number k.due)

-- it was told that it waits for its client
pub record TellsWait (number : ℕ) (k k' : Held) (held holds : Option (List ℕ)) : Type 0 where
  pub now : k' ≡ record k { news = false }
  pub wrote : Appends held holds (wait_text number k.part k.heard)

-- it was told that a user was let in
pub record TellsKnown (number : ℕ) (k k' : Held) (held holds : Option (List ℕ)) : Type 0 where
  pub known : IsTrue k.known × IsFalse k.told
  pub now : k' ≡ record k { told = true }
  pub wrote : Appends held holds (known_text number)

-- a piece went out to it, or a grant, or that it waits, or that a user was let in
abbrev pub Speaks : ℕ → Windows → Held → Held → List ℕ → List ℕ → Option (List ℕ) → Option (List ℕ) → Type 0
Speaks number windows k k' queue queue' held holds =
    Sends number windows k k' queue queue' held holds
    ⊎ ((IsFalse windows.closed × (queue' ≡ queue) × GrantsMore number k k' held holds)
    ⊎ ((((history_of k).state ≡ Open) × (queue' ≡ queue) × TellsWait number k k' held holds)
    ⊎ ((queue' ≡ queue) × TellsKnown number k k' held holds)))

-- ---- among the others

-- the connection under the number is this one, each other one what it was
abbrev pub PutsAt : ℕ → Option Held → Clients → Clients → Type 0
PutsAt number o before after = (q : ℕ) → held_at after q ≡ (if number == q then o else held_at before q)

-- only the connection under the number, and the queue, changed
pub record MovesOne (number : ℕ) (o : Option Held) (before after : Clients) : Type 0 where
  pub puts : PutsAt number o before after
  pub begun : count_begun after ≡ count_begun before
  pub config : config_of after ≡ config_of before
  pub window : window_of after ≡ window_of before
  pub asked : asked_of after ≡ asked_of before

-- nothing that is seen changed
pub record LooksAlike (before after : Clients) : Type 0 where
  pub held : (q : ℕ) → held_at after q ≡ held_at before q
  pub begun : count_begun after ≡ count_begun before
  pub config : config_of after ≡ config_of before
  pub window : window_of after ≡ window_of before
  pub asked : asked_of after ≡ asked_of before
  pub queue : queue_of after ≡ queue_of before

-- a new connection stands under the number, the last one that began
pub record BeginsFresh (number : ℕ) (before after : Clients) : Type 0 where
  pub begins : count_begun after ≡ number
  pub new : Held
  pub settings : connection_config new.connection ≡ config_of before
  pub history : history_of new ≡ new_history
  pub ahead : new.ahead ≡ 0
  pub heard : new.heard ≡ 0
  pub behind : new.behind ≡ 0
  pub due : new.due ≡ 0
  pub unended : IsFalse new.ended
  pub unqueued : IsFalse new.queued
  pub puts : PutsAt number (Some new) before after
  pub queue : queue_of after ≡ queue_of before
  pub config : config_of after ≡ config_of before
  pub window : window_of after ≡ window_of before
  pub asked : asked_of after ≡ asked_of before

-- the connection under the number, whose client might still send, goes on no more, and may have joined the queue before
abbrev pub QuitsAt : ℕ → Clients → Clients → Type 0
QuitsAt number before after =
    (k : Held) × (held_at before number ≡ Some k) × MovesOne number None before after × JoinsFresh number k (queue_of before) (queue_of after) × HearsMore k

-- ---- what each call does to the connection under a number

-- bytes came
abbrev pub HearsAt : Option Held → ℕ → List ℕ → Clients → Clients → Type 0
HearsAt None number bytes before after = after ≡ before
HearsAt (Some k) number bytes before after =
    (k' : Held) × MovesOne number (Some k') before after
    × ((IsDeaf k × (k' ≡ k) × (queue_of after ≡ queue_of before)) ⊎ Hears (window_of before).into number bytes k k' (queue_of before) (queue_of after))

-- its client took bytes, no more than were handed out
abbrev pub TakesAt : Option Held → ℕ → ℕ → Clients → Clients → Type 0
TakesAt None number count before after = after ≡ before
TakesAt (Some k) number count before after =
    (k' : Held) × MovesOne number (Some k') before after × (count ≤ k.ahead) × (k' ≡ record k { ahead = k.ahead - count }) × (queue_of after ≡ queue_of before)
