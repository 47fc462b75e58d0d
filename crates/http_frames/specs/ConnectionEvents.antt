-- What happens to many connections, one thing after another, and what that makes of one of them (own).
use Rattle.std.specs.Prelude.{◌≡◌, ℕ, ◌+◌, ◌<◌, ◌≤◌, Bool, true, false, ◌&&◌, List, [], ◌∷◌, ◌++◌, length, fold, codes, IsFalse, if◌then◌else◌, ◌==◌}
use Rattle.http_server.specs.Exchange.{Call}
use Rattle.http_frames.specs.Frames.{grant_text, known_text, piece_text, wait_text}

-- ---- what happened, one thing after another

pub data Event : Type 0 where
  -- bytes of a connection came; none say that its client sends no more
  Came : ℕ → List ℕ → Event
  -- bytes of it came that were not taken; it was ended, and that was told
  Rejected : ℕ → List ℕ → Event
  -- its client has taken so many bytes more
  Took : ℕ → ℕ → Event
  -- it is gone: what waits of it is dropped
  Gone : ℕ → Event
  -- it had its turn, and these calls of the service were made for it
  Answered : ℕ → List Call → Event
  -- bytes were handed out to it; none say that it is over
  Told : ℕ → List ℕ → Event
  -- its client may send so many bytes more
  Granted : ℕ → ℕ → Event
  -- it was told that it waits for its client, of which so many bytes had come, and whether a part of a request has
  Awaited : ℕ → Bool → ℕ → Event
  -- it was told that a user was let in on it
  Known : ℕ → Event
  -- it was ended, and that was told
  Ended : ℕ → Event
  -- a frame told the moment
  Clock : ℕ → Event
  -- a frame told how many bytes are free on the disk
  Free : ℕ → Event
  -- a frame told the address of the client of the connection that begins next, whose number it is
  From : ℕ → List ℕ → Event
  -- a frame told who the users are, as the text of a file
  Users : List ℕ → Event
  -- a frame told that its client was closed since it was too slow
  Late : ℕ → Event
  -- a frame told that so many connections from this address had no place
  Turned : List ℕ → ℕ → Event
  -- `more` was asked, and the answer came that there is nothing
  Asked : Event
  Nothing : Event
  -- a frame asked whether the file may still be written, and it was told that it was
  Touched : Event
  -- the input ended
  Closed : Event

-- the connection that it happened to, and 0 where that is none that has begun
abbrev pub number_of : Event → ℕ
number_of (Came number bytes) = number
number_of (Rejected number bytes) = number
number_of (Took number count) = number
number_of (Gone number) = number
number_of (Answered number calls) = number
number_of (Told number bytes) = number
number_of (Granted number count) = number
number_of (Awaited number part count) = number
number_of (Known number) = number
number_of (Ended number) = number
number_of (Clock moment) = 0
number_of (Free count) = 0
number_of (From number address) = 0
number_of (Users text) = 0
number_of (Late number) = 0
number_of (Turned address count) = 0
number_of Asked = 0
number_of Nothing = 0
number_of Touched = 0
number_of Closed = 0

-- a number of one of the connections that have begun
abbrev pub IsNumber : ℕ → ℕ → Type 0
IsNumber count number = (0 < number) × (number ≤ count)

-- it happened to no connection in particular
abbrev pub is_general : Event → Bool
is_general (Clock moment) = true
is_general (Free count) = true
is_general (From number address) = true
is_general (Users text) = true
is_general (Late number) = true
is_general (Turned address count) = true
is_general Asked = true
is_general Nothing = true
is_general Touched = true
is_general Closed = true
is_general _ = false

-- it happened to one of the connections that have begun, or to none in particular
abbrev pub IsOfBegun : ℕ → Event → Type 0
IsOfBegun count e = IsFalse (is_general e) → IsNumber count (number_of e)

-- it goes out to a connection; grants only before the end of the input
abbrev pub IsOut : Bool → Event → Type 0
IsOut closed (Told number bytes) = Unit {0}
IsOut closed (Granted number count) = IsFalse closed
IsOut closed (Awaited number part count) = Unit {0}
IsOut closed (Known number) = Unit {0}
IsOut closed (Ended number) = Unit {0}
IsOut closed _ = ⊥

-- no frame told the moment
abbrev pub IsNoTick : Event → Type 0
IsNoTick (Clock moment) = ⊥
IsNoTick _ = Unit {0}

-- the frame that tells it, where one does
abbrev pub event_text : Event → List ℕ
event_text (Rejected number bytes) = piece_text number []
event_text (Told number bytes) = piece_text number bytes
event_text (Granted number count) = grant_text number count
event_text (Awaited number part count) = wait_text number part count
event_text (Known number) = known_text number
event_text (Ended number) = piece_text number []
event_text Asked = codes "more\n"
event_text Touched = codes "touched\n"
event_text _ = []

-- whether `more` was asked, and its answer is to come
abbrev pub asks_after : Bool → Event → Bool
asks_after asked Asked = true
asks_after asked Nothing = false
asks_after asked _ = asked

abbrev pub awaits : List Event → Bool
awaits events = fold asks_after false events

-- whether the input ended
abbrev pub closing : Bool → Event → Bool
closing closed Closed = true
closing closed _ = closed

-- ---- what happened to one connection

-- it goes on; its client is gone; it was ended, or it is over, and that was told
pub data Place : Type 0 where
  Going : Place
  Left : Place
  Stopped : Place
  Over : Place

pub record Account : Type 0 where
  -- what its client has sent up to its end, and whether that end came
  pub came : List ℕ
  pub ended : Bool
  pub made : List Call
  -- what was handed out, and how much of it the client has taken
  pub went : List ℕ
  pub took : ℕ
  -- how many bytes its client may send beyond the window
  pub granted : ℕ
  -- whether it was told right each time how many of its bytes had come
  pub counted : Bool
  pub place : Place
  -- what happened once it went on no more
  pub late : List Event

abbrev pub new_account : Account
new_account = record { came = []; ended = false; made = []; went = []; took = 0; granted = 0; counted = true; place = Going; late = [] }

-- bytes came; behind the end they are no more of it
abbrev pub add_came : Bool → Account → List ℕ → Account
add_came true a bytes = a
add_came false a bytes = record a { came = a.came ++ bytes; ended = length bytes == 0 }

-- bytes went out; none are the end
abbrev pub add_told : Bool → Account → List ℕ → Account
add_told true a bytes = record a { place = Over }
add_told false a bytes = record a { went = a.went ++ bytes }

abbrev pub add_going : Account → Event → Account
add_going a (Came number bytes) = add_came a.ended a bytes
add_going a (Rejected number bytes) = record a { place = Stopped }
add_going a (Took number count) = record a { took = a.took + count }
add_going a (Gone number) = record a { place = Left }
add_going a (Answered number calls) = record a { made = a.made ++ calls }
add_going a (Told number bytes) = add_told (length bytes == 0) a bytes
add_going a (Granted number count) = record a { granted = a.granted + count }
add_going a (Awaited number part count) = record a { counted = a.counted && (count == length a.came) }
add_going a (Known number) = a
add_going a (Ended number) = record a { place = Stopped }
add_going a _ = a

abbrev pub add_at : Place → Account → Event → Account
add_at Going a e = add_going a e
add_at _ a e = record a { late = a.late ++ e ∷ [] }

-- one thing more, where it happened to this connection
abbrev pub add_event : ℕ → Account → Event → Account
add_event number a e = if number_of e == number then add_at a.place a e else a

abbrev pub account : ℕ → List Event → Account
account number events = fold (add_event number) new_account events

-- nothing is done for the connection: no call is made, and nothing goes out
abbrev pub IsIdle : Event → Type 0
IsIdle (Came number bytes) = Unit {0}
IsIdle (Took number count) = Unit {0}
IsIdle (Gone number) = Unit {0}
IsIdle (Answered number calls) = calls ≡ []
IsIdle _ = ⊥
