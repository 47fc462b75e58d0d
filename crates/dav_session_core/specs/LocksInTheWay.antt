-- Which lock refuses a request: the one whose path is told (RFC 4918 sections 7 and 16).
use Rattle.std.specs.Prelude.{◌≡◌, Bool, not, ◌&&◌, List, Contains, if◌then◌else◌}
use Rattle.dav_path_core.specs.Fronts.{Path, is_front}
use Rattle.dav_path_core.specs.PathText.{PathText}
use Rattle.dav_path_core.specs.Segments.{segments}
use Rattle.dav_locks_core.specs.Lock.{Lock}
use Rattle.dav_faults_core.specs.declared.faults.Fault.{Fault}
use Rattle.dav_faults_core.specs.declared.faults.Fault.TheVariants as fault

-- one of the locks stands at the path
abbrev pub IsPathOfOne : List Lock → PathText → Type 0
IsPathOfOne locks path = (l : Lock) × Contains locks l × (l.path ≡ path)

-- one of the locks refuses it, and its path is told; or there is no memory
abbrev pub IsRefusedBy : List Lock → Fault → Type 0
IsRefusedBy locks fault.InsufficientStorage = Unit {0}
IsRefusedBy locks (fault.Locked path) = IsPathOfOne locks path
IsRefusedBy locks e = ⊥

-- the path of a lock stands below the other
abbrev pub is_lock_below : Path → PathText → Bool
is_lock_below p path = is_front p (segments path.bytes) && not (is_front (segments path.bytes) p)

-- a lock below the path is told as a member's (RFC 4918 sections 9.6.1, 9.8.3 and 9.9.2)
abbrev pub by_place : Path → Fault → Fault
by_place p (fault.Locked path) = if is_lock_below p path then fault.MemberLocked path else fault.Locked path
by_place p e = e
