-- The distinct fronts of the paths of a list of locks (own).
use Rattle.std.specs.Prelude.{ℕ, List, [], ◌∷◌, map}
use Rattle.std.specs.List.{flat_map}
use Rattle.std.specs.Set.{distinct_count}
use Rattle.dav_path_core.specs.Fronts.{Path, is_same_path}
use Rattle.dav_locks_core.specs.Lock.{Lock}
use Rattle.dav_locks_core.specs.Locks.{lock_path}

-- a path and the paths above it, but for the root
abbrev pub fronts_below_root : Path → List Path
fronts_below_root [] = []
fronts_below_root (s ∷ p) = (s ∷ []) ∷ map (λ f. s ∷ f) (fronts_below_root p)

-- the root, and each lock's path with the paths above it
abbrev pub lock_fronts : List Lock → List Path
lock_fronts locks = [] ∷ flat_map (λ l. fronts_below_root (lock_path l)) locks

-- how many of these differ
abbrev pub front_count : List Lock → ℕ
front_count locks = distinct_count is_same_path (lock_fronts locks)
