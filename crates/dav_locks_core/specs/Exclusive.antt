-- Two locks that cover one path are both shared (RFC 4918 section 6.2).
use Rattle.std.specs.Prelude.{◌≡◌, List, [], ◌∷◌, true}
use Rattle.std.specs.List.{AllByRecursion}
use Rattle.dav_path_core.specs.Fronts.{Path}
use Rattle.dav_locks_core.specs.Lock.{Lock}
use Rattle.dav_locks_core.specs.Locks.{covers, compatible}

-- wherever both cover a path both are shared
abbrev pub Compat : Lock → Lock → Type 0
Compat l k = (p : Path) → covers l p ≡ true → covers k p ≡ true → compatible l.shared k.shared ≡ true

-- each two of the list
abbrev pub Exclusive : List Lock → Type 0
Exclusive [] = Unit {0}
Exclusive (l ∷ locks) = AllByRecursion (Compat l) locks × Exclusive locks
