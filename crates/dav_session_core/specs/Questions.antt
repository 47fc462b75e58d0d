-- What questions of a session tell, and why they tell nothing.
use Rattle.std.specs.Prelude.{◌≡◌, ◌⊎◌, Bool, List, Option, None, IsSome}
use Rattle.rand_core.specs.Stream.{Stream}
use Rattle.dav_path_core.specs.Fronts.{Path}
use Rattle.dav_path_core.specs.PathText.{PathText}
use Rattle.dav_path_core.specs.Segments.{segments}
use Rattle.dav_files_core.specs.declared.memfs.Kind.{Kind}
use Rattle.dav_files_core.specs.Resources.{Resource, ResourceMap, at_path}
use Rattle.dav_locks_core.specs.Lock.{Lock}
use Rattle.dav_locks_core.specs.Locks.{check_conflicts, discovered_locks, lock_conflicts}
use Rattle.dav_faults_core.specs.declared.faults.Fault.{Fault}
use Rattle.dav_faults_core.specs.declared.faults.Fault.TheVariants as fault
use Rattle.dav_fields_core.specs.Marking.{IsNone}
use Rattle.dav_session_core.specs.declared.session.Session.{Session}
use Rattle.dav_session_core.specs.Callers.{as_caller}
use Rattle.dav_session_core.specs.Clearing.{refusing_anew, refusing_clearing}
use Rattle.dav_session_core.specs.Removing.{refusing_removal}
use Rattle.dav_session_core.specs.Sessions.{caller, live_of, state}
use Rattle.dav_session_core.specs.Subtrees.{HasOddName}

-- ---- of files

-- what stands at the path
abbrev pub found_at : {R : Type 0} → (R → Stream) → Session R → PathText → Option Resource
found_at stream s path = at_path (state stream s).map (segments path.bytes)

-- nothing of the kind stands at the path, or there is no memory
abbrev pub LacksKind : Kind → ResourceMap → Path → Fault → Type 0
LacksKind kind m p e = (e ≡ fault.InsufficientStorage) ⊎ ((e ≡ fault.NotFound) × IsNone m p kind)

-- nothing was found, or there is no memory
abbrev pub LacksAny : Option Resource → Fault → Type 0
LacksAny found e =
    (e ≡ fault.InsufficientStorage) ⊎ ((e ≡ fault.NotFound) × (found ≡ None))

-- nothing was found, or there is no memory to tell what was found
abbrev pub FailsToInspect : Option Resource → Fault → Type 0
FailsToInspect found e =
    ((e ≡ fault.InsufficientStorage) × IsSome found) ⊎ ((e ≡ fault.NotFound) × (found ≡ None))

-- a name at or below the path is one that no path has which is read, or there is no memory
abbrev pub FailsToGather : ResourceMap → Path → Fault → Type 0
FailsToGather m p e =
    (e ≡ fault.InsufficientStorage) ⊎ ((e ≡ fault.BadRequest) × HasOddName m p)

-- the same, or nothing stands at the path
abbrev pub FailsToWalk : ResourceMap → Path → Fault → Type 0
FailsToWalk m p e =
    (e ≡ fault.InsufficientStorage) ⊎ ((e ≡ fault.NotFound) × (at_path m p ≡ None))
    ⊎ ((e ≡ fault.BadRequest) × HasOddName m p)

-- ---- of locks

-- the locks that cover the path and have not expired
abbrev pub covering : {R : Type 0} → (R → Stream) → Session R → PathText → List Lock
covering stream s path = discovered_locks (live_of stream s).locks (segments path.bytes)

-- those that refuse the caller a change at the path, and where it is deep below it
abbrev pub against_change : {R : Type 0} → (R → Stream) → Session R → PathText → Bool → List Lock
against_change stream s path deep =
    check_conflicts (live_of stream s).locks (segments path.bytes) deep (as_caller (caller s))

-- those that refuse it to take away what stands at the places
abbrev pub against_removal : {R : Type 0} → (R → Stream) → Session R → List Path → List Lock
against_removal stream s places = refusing_removal (live_of stream s) (caller s) places

-- those that refuse it to make something at the path, once those at it and below are gone
abbrev pub against_anew : {R : Type 0} → (R → Stream) → Session R → PathText → List Lock
against_anew stream s path = refusing_anew (live_of stream s) (caller s) (segments path.bytes)

-- those that refuse it to clear the path, from which the places go
abbrev pub against_clearing : {R : Type 0} → (R → Stream) → Session R → PathText → List Path
    → List Lock
against_clearing stream s path places =
    refusing_clearing (live_of stream s) (caller s) (segments path.bytes) places

-- those that let no other lock of the path be granted
abbrev pub against_lock : {R : Type 0} → (R → Stream) → Session R → PathText → Bool → Bool
    → List Lock
against_lock stream s path shared deep =
    lock_conflicts (live_of stream s).locks (segments path.bytes) shared deep
