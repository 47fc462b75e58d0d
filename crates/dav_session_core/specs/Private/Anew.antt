-- Which lock refuses to make something where all else is gone. Private contracts alone speak of it.
use Rattle.std.specs.Prelude.{ℕ, Bool, false, not, ◌&&◌, ◌||◌, List, Option}
use Rattle.std.specs.List.{list_any}
use Rattle.dav_path_core.specs.Fronts.{Path}
use Rattle.dav_locks_core.specs.Lock.{Lock}
use Rattle.dav_locks_core.specs.Locks.{LockCaller, is_held_by, is_at_or_below}

-- as locks know a caller with this principal and these tokens
abbrev pub with_tokens : Option (List ℕ) → List (List ℕ) → LockCaller
with_tokens principal tokens = record { principal = principal; ignore = false; tokens = tokens }

-- a lock that covers the folder above the path covers the path, too, and doesn't stand there
abbrev pub leads_to : Path → Lock → Bool
leads_to p l = l.deep && not (is_at_or_below l p)

-- the caller holds one of the locks, and it leads to the path
abbrev pub any_leads : Path → LockCaller → List Lock → Bool
any_leads p who locks = list_any (λ l. leads_to p l && is_held_by l who) locks

-- the lock leads there and refuses the caller, who may hold another that does
abbrev pub refuses_anew : Path → LockCaller → Bool → Lock → Bool
refuses_anew p who any l = (leads_to p l && not (is_held_by l who)) && (not l.shared || not any)
