-- Stores whose clock is set back: moments that are too late come to stand right behind all others, in their order (own).
use Rattle.std.specs.Prelude.{◌≡◌, ◌⊎◌, ℕ, ◌+◌, ◌≤◌, min, List, Contains, length, filter, map, nat_lt, if◌then◌else◌, Option, Some, None, option_map}
use Rattle.std.specs.List.Sorted.{IsStrictlySortedBy}
use Rattle.std.specs.Ordering.{nat_cmp}
use Rattle.dav_path_core.specs.Fronts.{Path}
use Rattle.dav_files_core.specs.Resources.{Resource, at_path}
use Rattle.dav_locks_core.specs.Lock.{Lock}
use Rattle.dav_locks_core.specs.Locks.{end_of}
use Rattle.dav_guarded_core.specs.Stores.{Stores}

-- ---- the late moments

-- it is the last moment that is noted, or one at which a folder or a file was made, or last changed
abbrev pub StandsThere : Stores → ℕ → ℕ → Type 0
StandsThere s last m = (m ≡ last) ⊎ ((p : Path) × (r : Resource) × (at_path s.map p ≡ Some r) × ((m ≡ r.node.created) ⊎ (m ≡ r.node.modified)))

-- the moments that stand there from that one on, each once, the first in front
pub record AreLate (from : ℕ) (s : Stores) (last : ℕ) (late : List ℕ) : Type 0 where
  pub ascend : IsStrictlySortedBy nat_cmp late
  pub each : (m : ℕ) → StandsThere s last m → from ≤ m → Contains late m
  pub only : (m : ℕ) → Contains late m → StandsThere s last m × (from ≤ m)

-- how many of these are before that one
abbrev pub how_many_before : ℕ → List ℕ → ℕ
how_many_before m moments = length (filter (λ a. nat_lt a m) moments)

-- ---- what they become

-- a moment before that one stays; another becomes that one, and a nanosecond more for each late one before it
abbrev pub moment_set_back : ℕ → List ℕ → ℕ → ℕ
moment_set_back from late m = if nat_lt m from then m else from + how_many_before m late

-- a folder or a file, with its two moments set back
abbrev pub resource_set_back : ℕ → List ℕ → Resource → Resource
resource_set_back from late r = record {
  number = r.number;
  node = record {
    kind = r.node.kind;
    bytes = r.node.bytes;
    props = r.node.props;
    created = moment_set_back from late r.node.created;
    modified = moment_set_back from late r.node.modified;
  };
}

-- the sooner of two ends, of a lock that has one
abbrev pub sooner : Option ℕ → Option ℕ → Option ℕ
sooner None latest = None
sooner (Some end) None = Some end
sooner (Some end) (Some latest) = Some (min end latest)

-- a lock that has an end ends its timeout behind that moment at the latest
abbrev pub lock_set_back : ℕ → Lock → Lock
lock_set_back from l = record l { timeout_at = sooner l.timeout_at (end_of from l.timeout) }

-- ---- the stores

-- these are the stores and the last moment, and each late moment is set back
pub record IsSetBack (from : ℕ) (s : Stores) (last : ℕ) (back : Stores) (now : ℕ) : Type 0 where
  pub late : List ℕ
  pub are_late : AreLate from s last late
  pub entries : (p : Path) → at_path back.map p ≡ option_map (resource_set_back from late) (at_path s.map p)
  pub next : back.map.next ≡ s.map.next
  pub locks : back.locks ≡ map (lock_set_back from) s.locks
  pub moment : now ≡ moment_set_back from late last
