-- Many connections of one server, each answered as if it were alone (own).
use Rattle.std.specs.Prelude.{◌≡◌, ◌≢◌, ◌⊎◌, ℕ, ◌+◌, ◌<◌, ◌≤◌, ◌^◌, Bool, true, List, [], ◌∷◌, ◌++◌, length, take, Option, Some, None, All, Contains, IsTrue, IsFalse, IfSome, ◌==◌}
use Rattle.std.specs.Io.KnownBytes.{Appends}
use Rattle.std.specs.Map.{lookup}
use Rattle.http.specs.declared.request.Request.{Request}
use Rattle.http1.specs.declared.conn.Limits.{Limits}
use Rattle.http1.specs.Message as Wire
use Rattle.http1.specs.Message.{ReadsRequests}
use Rattle.http_server.specs.declared.response.Response.{Response}
use Rattle.http_server.specs.declared.state.Config.{Config}
use Rattle.http_server.specs.declared.state.State.TheVariants.{Open}
use Rattle.http_server.specs.Connection.{config_of as connection_config, history}
use Rattle.http_server.specs.Exchange.{Call}
use Rattle.http_server.specs.History.{History, IsServed, Rests, WantsRead, IsDone}
use Rattle.http_frames.specs.declared.clients.Clients.{Clients}
use Rattle.http_frames.specs.declared.held.Held.{Held}
use Rattle.http_frames.specs.declared.clients.Windows.{Windows}
use Rattle.http_frames.specs.ConnectionEvents.{Event, Account, Came, Rejected, Answered, Known, Going, Over, account, awaits, number_of, event_text, IsOfBegun, IsIdle, IsNumber, IsOut}
use Rattle.http_frames.specs.Frames.{piece_text}
use Rattle.http_frames.specs.Gate.{TakesTurn}

-- ---- how one connection stands, at any moment

-- each whole request among so many of the bytes that were received is answered
abbrev pub AreAnswered : Limits → ℕ → History → Type 0
AreAnswered limits count h =
    (ms : List Wire.Request) (rest : List ℕ) → ReadsRequests limits (take count h.received) ms rest → length ms ≤ length h.calls

-- As if it were alone: one history of the kit's answers the requests that its bytes spell, one after another. What was handed out is a front of these answers, and the rest waits.
pub record Alone (config : Config) (windows : Windows) (a : Account) : Type 0 where
  pub history : History
  pub served : ∥ IsServed config history ∥₁
  -- exactly its calls were made, and exactly its answers were handed out
  pub calls : history.calls ≡ a.made
  pub sent : history.sent ≡ a.went
  -- its client takes no more than was handed out, and, up to the end of the input, that is no more than the window beyond what it has taken
  pub taken : a.took ≤ length a.went
  pub within : IsFalse windows.closed → length a.went ≤ a.took + windows.out
  -- all that came was received, unless it was closed before
  pub rest : List ℕ
  pub received : a.came ≡ history.received ++ rest
  pub whole : history.state ≡ Open → (rest ≡ []) × (history.ended ≡ a.ended)
  pub ended : IsTrue history.ended → IsTrue a.ended
  -- no more than the window beyond what was granted; and that was granted once each whole request among it was answered
  pub intake : length history.received ≤ a.granted + windows.into
  pub granted : a.granted ≤ length history.received
  pub answered : AreAnswered config.limits a.granted history
  -- it was told right each time how many of its bytes had come
  pub counted : IsTrue a.counted
  -- its end is told once all answers were handed out
  pub over : a.place ≡ Over → (history.state ≢ Open) × (history.pending ≡ [])
  -- once its client is gone, or its end was told, nothing more is done for it
  pub late : All IsIdle a.late

-- ---- what a contract sees of the clients

abbrev pub count_begun : Clients → ℕ
count_begun c = c.begun

-- the configuration of each connection, and the windows
abbrev pub config_of : Clients → Config
config_of c = c.config

abbrev pub window_of : Clients → Windows
window_of c = c.windows

abbrev pub closed_window : Windows → Windows
closed_window w = record w { closed = true }

-- whether `more` was written, and its answer is to come
abbrev pub asked_of : Clients → Bool
asked_of c = c.asked

-- the numbers of the connections that wait for a turn, the next one first
abbrev pub queue_of : Clients → List ℕ
queue_of c = c.queue.items

abbrev pub held_at : Clients → ℕ → Option Held
held_at c number = lookup (λ k. number == k) c.connections.entries

-- the history of a connection that goes on
abbrev pub history_of : Held → History
history_of k = history k.connection

-- the connection that goes on is the one whose history is told, and it waits for a turn, or has nothing to do
pub record Holds (config : Config) (windows : Windows) (queue : List ℕ) (number : ℕ) (k : Held) (h : History) (a : Account) : Type 0 where
  pub config_is : connection_config k.connection ≡ config
  pub history_is : history k.connection ≡ h
  pub going : a.place ≡ Going
  pub ended : k.ended ≡ h.ended
  pub ahead : length a.went ≡ a.took + k.ahead
  pub room : IsFalse windows.closed → k.ahead ≤ windows.out
  pub heard : length h.received ≡ k.heard
  -- how much was received since the last grant, and how much of it may be granted
  pub behind : length h.received ≡ a.granted + k.behind
  pub fits : k.behind ≤ windows.into
  pub due : k.due ≤ k.behind
  pub answered : AreAnswered config.limits (a.granted + k.due) h
  pub queued : IsTrue k.queued → Contains queue number
  pub unqueued : IsFalse k.queued → Contains queue number → ⊥
  pub waits : Contains queue number ⊎ Rests config h

abbrev pub IsAt : Config → Windows → List ℕ → ℕ → Option Held → History → Account → Type 0
IsAt config windows queue number (Some k) h a = Holds config windows queue number k h a
IsAt config windows queue number None h a = a.place ≢ Going

-- one connection stands so, where this is held of it
abbrev pub Stands : Config → Windows → List ℕ → ℕ → Option Held → Account → Type 0
Stands config windows queue number o a = (s : Alone config windows a) × IsAt config windows queue number o s.history a

-- no number stands there twice
abbrev pub NoTwice : List ℕ → Type 0
NoTwice [] = Unit {0}
NoTwice (n ∷ queue) = (Contains queue n → ⊥) × NoTwice queue

-- the clients, after these events
pub record Has (c : Clients) (events : List Event) : Type 0 where
  -- an answer that waits keeps its connection from the next one
  pub pauses : (config_of c).max_pending ≡ 0
  -- `more` was asked as often as is told, and nobody stands under a number that has not begun
  pub asked : asked_of c ≡ awaits events
  pub beyond : (number : ℕ) → count_begun c < number → held_at c number ≡ None
  -- the events, and the places in the queue, are those of connections that have begun
  pub numbers : All (IsOfBegun (count_begun c)) events
  pub places : All (IsNumber (count_begun c)) (queue_of c)
  -- so the queue is no longer than connections have begun, and each has one place in it
  pub once : NoTwice (queue_of c)
  pub stands : (number : ℕ) → 0 < number → number ≤ count_begun c → Stands (config_of c) (window_of c) (queue_of c) number (held_at c number) (account number events)

-- ---- what a call does

-- as many have begun, and the configuration and the windows are the same
pub record SameSettings (before after : Clients) : Type 0 where
  pub begun : count_begun after ≡ count_begun before
  pub config : config_of after ≡ config_of before
  pub window : window_of after ≡ window_of before

-- nothing happened
abbrev pub StaysSo : Clients → Clients → Type 0
StaysSo before after = (events : List Event) → Has before events → Has after events

-- this happened
abbrev pub Adds : Clients → Clients → Event → Type 0
Adds before after e = (events : List Event) → Has before events → Has after (events ++ e ∷ [])

-- the connection has its place in the queue, the last one, or had one
abbrev pub Joins : ℕ → List ℕ → List ℕ → Type 0
Joins number queue queue' = (queue' ≡ queue) ⊎ (queue' ≡ queue ++ number ∷ [])

-- its client may still send: it is open, and its input has not ended
abbrev pub HearsMore : Held → Type 0
HearsMore k = ((history_of k).state ≡ Open) × IsFalse k.ended

-- what comes under the number is heard: it is the next, or that of a connection that goes on, whose client may still send
abbrev pub IsHeard : ℕ → Clients → Type 0
IsHeard number c = (number ≡ count_begun c + 1) ⊎ ((k : Held) × (held_at c number ≡ Some k) × HearsMore k)

-- The bytes that came were taken; or they were not, though what comes is heard, and the connection is ended, and that was told. So what comes late ends nothing.
abbrev pub Takes : ℕ → List ℕ → Clients → Clients → Option (List ℕ) → Option (List ℕ) → Type 0
Takes number bytes before after held holds =
    (Adds before after (Came number bytes) × (holds ≡ held))
    ⊎ (IsHeard number before × Adds before after (Rejected number bytes) × Appends held holds (piece_text number []))

-- it answered each whole request that came, or an answer waits, or it is closed; and so it has bytes to hand out, is done, or waits for input
abbrev pub IsAtRest : Config → History → Type 0
IsAtRest config h = Rests config h × (WantsRead config h ⊎ ((0 < length h.pending) ⊎ IsDone h))

-- where it waits for input, all that was received since the last grant is due
abbrev pub IsAllDue : Held → Type 0
IsAllDue k = (history_of k).state ≡ Open → (history_of k).pending ≡ [] → k.due ≡ k.behind

-- where it waits for its client, that is to be told
abbrev pub IsNews : Held → Type 0
IsNews k = (history_of k).state ≡ Open → (history_of k).pending ≡ [] → IsTrue k.news

-- A turn of the connection under a number: at most one call is made, none where an answer of it waits; then it has bytes to hand out, is done, or waits for input, which is to be told.
pub record GivesTurn {S : Type 0} (begins : S → ℕ → S → Type 0) (answers : S → Request (List ℕ) → Response → S → Type 0) (number : ℕ) (before after : Clients) (old new : S) : Type 0 where
  pub calls : List Call
  pub turn : TakesTurn begins answers old number calls new
  pub adds : Adds before after (Answered number calls)
  pub waits : IfSome (held_at before number) (λ k. (history_of k).pending ≢ [] → (calls ≡ []) × (new ≡ old))
  pub rests : (events : List Event) → Has before events → IfSome (held_at after number) (λ k. IsAtRest (config_of after) (history_of k) × IsAllDue k × IsNews k)

-- that a user was let in is told once, and only where one was
abbrev pub TellsOfUser : Event → Option Held → Type 0
TellsOfUser (Known number) o = IfSome o (λ k. IsTrue k.known × IsFalse k.told)
TellsOfUser _ o = Unit {0}

-- What went out to it: a piece of the answers that wait, a grant, that a user was let in, that it waits for its client, or its end.
pub record TellsNext (number : ℕ) (before after : Clients) (held holds : Option (List ℕ)) : Type 0 where
  pub event : Event
  pub number_is : number_of event ≡ number
  pub out : IsOut (window_of before).closed event
  pub wrote : Appends held holds (event_text event)
  pub adds : Adds before after event
  pub known : TellsOfUser event (held_at before number)

-- the window of its answers is full; once the input has ended, that is as far as numbers go
abbrev pub IsFull : Windows → Held → Type 0
IsFull windows k = (IsFalse windows.closed × (windows.out ≤ k.ahead)) ⊎ (2 ^ 64 ≤ k.ahead + 1)

-- nothing is to be said: an answer waits and its window is full; or none waits, its client may still send half a window or nothing is granted any more, and what it waits for was told, and that a user was let in
abbrev pub IsHeldBack : Windows → Held → Type 0
IsHeldBack windows k =
    ((0 < length (history_of k).pending) × IsFull windows k)
    ⊎ (((history_of k).state ≡ Open) × ((history_of k).pending ≡ []) × (IsFalse windows.closed → k.due + k.due ≤ windows.into + 1) × IsFalse k.news × (IsTrue k.known → IsTrue k.told))

abbrev pub IsStill : ℕ → Clients → Type 0
IsStill number c = IfSome (held_at c number) (IsHeldBack (window_of c))
