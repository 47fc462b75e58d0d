-- What a check that passes says of the locks (RFC 4918 section 7).
use Rattle.std.specs.Prelude.{◌≡◌, List, true, false, Contains}
use Rattle.dav_path_core.specs.Fronts.{Path}
use Rattle.dav_locks_core.specs.Lock.{Lock}
use Rattle.dav_locks_core.specs.Locks.{LockCaller, covers, is_at_or_below, is_held_by}

-- every exclusive lock that covers the path is held
abbrev pub HoldsExclusive : List Lock → Path → LockCaller → Type 0
HoldsExclusive locks p who = (l : Lock) → Contains locks l → l.shared ≡ false → covers l p ≡ true → is_held_by l who ≡ true

-- every lock at the path or below it is held
abbrev pub HoldsBelow : List Lock → Path → LockCaller → Type 0
HoldsBelow locks p who = (l : Lock) → Contains locks l → is_at_or_below l p ≡ true → is_held_by l who ≡ true
