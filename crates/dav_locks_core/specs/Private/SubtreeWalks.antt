-- Tests of the locks at a node of the tree of locks and below it.
use Rattle.std.specs.Prelude.{◌≡◌, ℕ, List, Bool, Some, None}
use Rattle.dav_path_core.specs.Fronts.{Segment, Path}
use Rattle.dav_path_core.specs.Keyed.{Under, parent_number}
use Rattle.dav_path_core.specs.TreeValue.{TreeValue}
use Rattle.dav_locks_core.specs.Lock.{Lock}
use Rattle.dav_locks_core.specs.Private.LockTree.{NumberedLock, LockTree, node_below, first_at, ShowsAt}
use Rattle.dav_locks_core.specs.declared.ls.LockError.{LockError}

-- a tree of locks with the links between its nodes
abbrev pub LinkedLocks : Type 0
LinkedLocks = TreeValue Segment (List NumberedLock)

-- no lock passes at a node or below it
abbrev pub NoneUnder : (Lock → Bool) → LockTree → ℕ → Type 0
NoneUnder test t top = (n : ℕ) → Under (parent_number t) top n → first_at test t n ≡ None

-- the first lock at a node that passes stands at that place, at or below top
abbrev pub StandsUnder : (Lock → Bool) → LockTree → ℕ → ℕ × ℕ → Type 0
StandsUnder test t top f = Under (parent_number t) top f.0 × (first_at test t f.0 ≡ Some f.1)

-- no lock passes at the path or below it
abbrev pub NoneBelow : (Lock → Bool) → LockTree → Path → Type 0
NoneBelow test t p = (top : ℕ) → node_below t 1 p ≡ Some top → NoneUnder test t top

-- what is shown is a lock at the path or below it that passes
abbrev pub ShowsBelow : (Lock → Bool) → LockTree → Path → LockError → Type 0
ShowsBelow test t p e =
    (top : ℕ) × (f : ℕ × ℕ) × (node_below t 1 p ≡ Some top) × StandsUnder test t top f × ShowsAt t (Some f) e
