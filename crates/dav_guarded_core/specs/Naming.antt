-- The locks that a request names, refreshes or outlasts (RFC 4918 sections 6.4 and 6.6).
use Rattle.std.specs.Prelude.{ℕ, List, [], ◌∷◌, Bool, false, ◌||◌, bytes_eq}
use Rattle.dav_locks_core.specs.Lock.{Lock}
use Rattle.dav_locks_core.specs.Locks.{is_held_by}
use Rattle.dav_locks_core.specs.Stale.{is_stale}
use Rattle.dav_guarded_core.specs.Requests.{Command, Request}
use Rattle.dav_guarded_core.specs.Checks.{caller_of}

-- the request names the lock's token under its principal
abbrev pub names_as : Request → Lock → Bool
names_as r l = is_held_by l (caller_of r)

-- the command ends a lock with that token
abbrev pub unlocks : Command → List ℕ → Bool
unlocks (Command.Unlock path token) ended = bytes_eq ended token
unlocks _ ended = false

abbrev pub names : Request → Lock → Bool
names r l = names_as r l || unlocks r.command l.token

-- the command gives a lock with that token another timeout
abbrev pub refreshes : Command → List ℕ → Bool
refreshes (Command.Refresh path token timeout) other = bytes_eq other token
refreshes _ other = false

-- the request may end the lock or change it: it comes at its end or later, names it, or refreshes its token
abbrev pub touches : Request → Lock → Bool
touches r l = is_stale r.now l || (names r l || refreshes r.command l.token)

-- some request of the list does
abbrev pub touched_in : List Request → Lock → Bool
touched_in [] l = false
touched_in (r ∷ rs) l = touches r l || touched_in rs l
