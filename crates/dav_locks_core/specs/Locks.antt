-- The lock list, in the order of granting, and what its locks forbid (RFC 4918 sections 6 and 7). Each set of conflicts is
-- a filter of the whole list.
use Rattle.std.specs.Prelude.{ℕ, zero, suc, List, [], ◌∷◌, ◌++◌, Bool, true, false, ◌&&◌, ◌||◌, ◌==◌, not, if◌then◌else◌, nat_le, Option, Some, None, length, filter, bytes_eq, ◌+◌, ◌*◌, min, option_map}
use Rattle.std.specs.List.{list_any}
use Rattle.dav_path_core.specs.Segments.{segments}
use Rattle.dav_path_core.specs.Fronts.{Path, is_front, is_same_path}
use Rattle.dav_locks_core.specs.Lock.{Lock}

-- the segments of the path that a lock stands at
abbrev pub lock_path : Lock → Path
lock_path l = segments l.path.bytes

-- what stands or changes at q, and where it is deep below q too, reaches p
abbrev pub reaches : Path → Bool → Path → Bool
reaches q deep p = is_same_path q p || (deep && is_front q p)

-- the lock stands at the path, or is deep and stands above it
abbrev pub covers : Lock → Path → Bool
covers l p = reaches (lock_path l) l.deep p

abbrev pub is_at_or_below : Lock → Path → Bool
is_at_or_below l p = is_front p (lock_path l)

-- two locks may cover one path: both are shared
abbrev pub compatible : Bool → Bool → Bool
compatible shared other = shared && other

abbrev pub same_text : Option (List ℕ) → Option (List ℕ) → Bool
same_text None None = true
same_text None (Some b) = false
same_text (Some a) None = false
same_text (Some a) (Some b) = bytes_eq a b

-- who asks, whether principals are ignored, and the tokens that are submitted
pub record LockCaller : Type 0 where
  pub principal : Option (List ℕ)
  pub ignore : Bool
  pub tokens : List (List ℕ)

-- the lock's token is submitted, under its principal unless principals are ignored
abbrev pub is_held_by : Lock → LockCaller → Bool
is_held_by l who = list_any (λ token. bytes_eq token l.token) who.tokens && (who.ignore || same_text l.principal who.principal)

-- whether a lock refuses a wanted one
abbrev pub refuses_lock : Path → Bool → Bool → Lock → Bool
refuses_lock p shared deep l = not (compatible l.shared shared) && (covers l p || (deep && is_at_or_below l p))

-- the locks that refuse a wanted one
abbrev pub lock_conflicts : List Lock → Path → Bool → Bool → List Lock
lock_conflicts locks p shared deep = filter (refuses_lock p shared deep) locks

-- whether a lock that covers the path is held
abbrev pub any_held : List Lock → Path → LockCaller → Bool
any_held locks p who = list_any (λ l. covers l p && is_held_by l who) locks

-- whether a lock of the list refuses a change: one that isn't held, and covers the path as an exclusive one or with no
-- covering lock held, or for a deep check is at or below it
abbrev pub refuses_change : List Lock → Path → Bool → LockCaller → Lock → Bool
refuses_change locks p deep who l =
    not (is_held_by l who) && ((covers l p && (not l.shared || not (any_held locks p who))) || (deep && is_at_or_below l p))

-- the locks that refuse a change
abbrev pub check_conflicts : List Lock → Path → Bool → LockCaller → List Lock
check_conflicts locks p deep who = filter (refuses_change locks p deep who) locks

abbrev pub found_here : Path → List ℕ → Lock → Bool
found_here p token l = bytes_eq l.token token && is_front (lock_path l) p

-- how many segments the lock's path has
abbrev pub height : Lock → ℕ
height l = length (lock_path l)

-- of two places in the list, each with its number of segments, the one with fewer; the first of equals
abbrev pub better : Option (ℕ × ℕ) → Option (ℕ × ℕ) → Option (ℕ × ℕ)
better None b = b
better (Some a) None = Some a
better (Some a) (Some b) = if nat_le a.1 b.1 then Some a else Some b

-- the best place in the rest of a list, places counted from k
abbrev pub found_from : ℕ → List Lock → Path → List ℕ → Option (ℕ × ℕ)
found_from k [] p token = None
found_from k (l ∷ locks) p token =
    better (if found_here p token l then Some (k, height l) else None) (found_from (k + 1) locks p token)

-- the found lock, by its place in the list: of those with that token at the path or above, the one with the fewest
-- segments; of these the first
unfoldable pub found_token : List Lock → Path → List ℕ → Option ℕ
found_token locks p token = option_map (λ f. f.0) (found_from 0 locks p token)

-- the moment, in nanoseconds, at which a timeout of so many seconds ends: at most the greatest moment
abbrev pub end_of : ℕ → Option ℕ → Option ℕ
end_of now timeout = option_map (λ seconds. min (now + seconds * 1000000000) 18446744073709551615) timeout

-- the lock that a refresh at a moment makes of one
abbrev pub refreshed_lock : ℕ → Option ℕ → Lock → Lock
refreshed_lock now timeout l = record l { timeout_at = end_of now timeout; timeout = timeout }

-- the locks that cover a path and stand at paths of so many segments, in the order of granting
abbrev pub covering_at : List Lock → Path → ℕ → List Lock
covering_at locks p n = filter (λ l. covers l p && (height l == n)) locks

-- those at paths of n segments, then those at paths of one more, and so on for so many numbers
abbrev pub covering_from : List Lock → Path → ℕ → ℕ → List Lock
covering_from locks p n zero = []
covering_from locks p n (suc more) = covering_at locks p n ++ covering_from locks p (n + 1) more

-- the covering locks, from the root down: by the number of segments of their paths, then in the order of granting
abbrev pub discovered_locks : List Lock → Path → List Lock
discovered_locks locks p = covering_from locks p 0 (suc (length p))

-- the locks that neither stand at the path nor below it
abbrev pub without_below : Path → List Lock → List Lock
without_below p locks = filter (λ l. not (is_at_or_below l p)) locks
