-- The tests of the locks on the way down to a path; each is told whether the lock stands at the path itself.
use Rattle.std.specs.Prelude.{ℕ, List, Bool, not, ◌&&◌, ◌||◌, bytes_eq}
use Rattle.dav_locks_core.specs.Lock.{Lock}
use Rattle.dav_locks_core.specs.Locks.{LockCaller, compatible, is_held_by}

-- it refuses a wanted lock
abbrev pub refuses_wanted : Bool → Bool → Lock → Bool
refuses_wanted shared at_path l = not (compatible l.shared shared) && (at_path || l.deep)

-- it covers the path and is held
abbrev pub is_covering_held : LockCaller → Bool → Lock → Bool
is_covering_held who at_path l = (at_path || l.deep) && is_held_by l who

-- it covers the path and isn't held
abbrev pub is_covering_unheld : LockCaller → Bool → Lock → Bool
is_covering_unheld who at_path l = (at_path || l.deep) && not (is_held_by l who)

-- it has the token
abbrev pub has_that_token : List ℕ → Bool → Lock → Bool
has_that_token token at_path l = bytes_eq l.token token
