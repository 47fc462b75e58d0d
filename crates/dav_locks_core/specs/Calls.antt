-- What calls on locks are given, and what they answer.
use Rattle.std.specs.Prelude.{◌≡◌, ◌≢◌, ℕ, List, [], Bool, Option, None, IsSome, option_map, Contains, map, String, string_bytes}
use Rattle.std.specs.Borrow.{Bor}
use Rattle.std.specs.declared.alloc.Global.{Global}
use Rattle.dav_locks_core.specs.Lock.{Lock}
use Rattle.dav_locks_core.specs.Locks.{LockCaller}
use Rattle.dav_locks_core.specs.declared.ls.RefreshError.{RefreshError}
use Rattle.dav_locks_core.specs.declared.ls.RefreshError.TheVariants.{NoLock, OutOfMemory as NoRoom}
use Rattle.dav_locks_core.specs.declared.ls.LockError.{LockError}
use Rattle.dav_locks_core.specs.declared.ls.LockError.TheVariants.{Conflict, OutOfMemory}

-- the text that is lent, if any
abbrev pub lent_text : Option (Bor (List ℕ)) → Option (List ℕ)
lent_text text = option_map (λ t. t.now) text

-- who asks
abbrev pub lock_caller : Option (Bor (List ℕ)) → Bool → List (String Global) → LockCaller
lock_caller principal ignore tokens = record { principal = lent_text principal; ignore = ignore; tokens = map string_bytes tokens }

-- a conflict that is shown is one of these
abbrev pub Shows : List Lock → LockError → Type 0
Shows conflicts (Conflict l) = Contains conflicts l
Shows conflicts OutOfMemory = Unit {0}

-- the same of a call that takes memory only to show a conflict
abbrev pub ShowsOnly : List Lock → LockError → Type 0
ShowsOnly conflicts (Conflict l) = Contains conflicts l
ShowsOnly conflicts OutOfMemory = conflicts ≢ []

-- a refresh is refused where no lock is found, and else only for memory
abbrev pub RefusesRefresh : Option ℕ → RefreshError → Type 0
RefusesRefresh place NoLock = place ≡ None
RefusesRefresh place NoRoom = IsSome place
