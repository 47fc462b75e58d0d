-- One request on stores, with the bytes that the token of a granted lock is drawn from in place of a generator.
use Rattle.std.specs.Prelude.{◌≡◌, ℕ, List, Bool, true, false, Option, Some}
use Rattle.rand_core.specs.Stream.{Stream, fill_bytes}
use Rattle.dav_locks_core.specs.Stale.{without_stale}
use Rattle.dav_locks_core.specs.Tokens.{token_from}
use Rattle.dav_guarded_core.specs.Requests.{Command, Request, Answer}
use Rattle.dav_guarded_core.specs.Step.{Step}
use Rattle.dav_guarded_core.specs.Stores.{Stores, state_of}

-- the next sixteen bytes of the generator are those; only of a lock that is to be granted it matters
abbrev pub Draws : Command → Option (List ℕ) → Stream → Type 0
Draws (Command.Lock path owner timeout shared deep) drawn stream = drawn ≡ Some (fill_bytes 16 stream).0
Draws _ drawn stream = Unit {0}

-- the request is answered so, where a generator gives these bytes
pub record AnsweredBy (drawn : Option (List ℕ)) (s : Stores) (r : Request) (a : Answer) (s' : Stores) : Type 0 where
  pub before : Stream
  pub after : Stream
  pub draws : Draws r.command drawn before
  pub step : Step (state_of s before) r a (state_of s' after)

-- the stores without the locks that have expired at the moment
abbrev pub live_stores : ℕ → Stores → Stores
live_stores now s = record { map = s.map; locks = without_stale now s.locks }

-- equal, but for locks that have expired at the moment
abbrev pub SameLiveStores : ℕ → Stores → Stores → Type 0
SameLiveStores now s s' = live_stores now s' ≡ live_stores now s

-- what a generator gives behind a request, by whether a lock was granted
abbrev pub left_by : Bool → Stream → Stream
left_by true stream = (token_from stream).1
left_by false stream = stream
