-- What a DELETE leaves, and why it is refused (RFC 4918 section 9.6).
use Rattle.std.specs.Prelude.{◌≡◌, ◌≢◌, ◌⊎◌, true, false, ℕ, List, [], None, Ok, IsSome}
use Rattle.http_header.specs.FieldValue.{FieldValue}
use Rattle.http_header.specs.HeaderMap.{Entries}
use Rattle.dav_path_core.specs.declared.util.DavMethod.TheVariants as method
use Rattle.dav_path_core.specs.Fronts.{Path}
use Rattle.dav_path_core.specs.PathText.{PathText}
use Rattle.dav_files_core.specs.Resources.{at_path}
use Rattle.dav_guarded_core.specs.Step.{State}
use Rattle.dav_faults_core.specs.declared.faults.Fault.{Fault}
use Rattle.dav_faults_core.specs.declared.faults.Fault.TheVariants as fault
use Rattle.dav_session_core.specs.Callers.{Caller}
use Rattle.dav_session_core.specs.LocksInTheWay.{IsPathOfOne, is_lock_below}
use Rattle.dav_session_core.specs.Subtrees.{HasOddName, IsSubtreeWalk}
use Rattle.dav_session_core.specs.Removing.{refusing_removal, IsRemoved}
use Rattle.dav_methods_core.specs.ChangeConditions.{IsStopped, change_course}
use Rattle.dav_methods_core.specs.Reaching.{ReachesDown}

-- all that stands there, of which a lock that stands at the path refuses one
pub record IsLockedIn (s : State) (who : Caller) (p : Path) (path : PathText) : Type 0 where
  pub places : List Path
  pub walk : IsSubtreeWalk s.map p places
  pub refused : IsPathOfOne (refusing_removal s who places) path

-- All but the conditions: it reaches all the way down; something stands at the path, which isn't
-- the root; these are the places of all of it; and no lock refuses to take one of them away.
pub record CanRemove (headers : Entries FieldValue) (s : State) (who : Caller) (p : Path)
    (places : List Path) : Type 0 where
  pub reaches : ReachesDown s.map p headers
  pub no_root : p ≢ []
  pub stood : IsSome (at_path s.map p)
  pub walk : IsSubtreeWalk s.map p places
  pub free : refusing_removal s who places ≡ []

-- 204. It could be removed, the conditions of HTTP let it, and it is gone.
pub record Removes (headers : Entries FieldValue) (s : State) (who : Caller) (p : Path) (status : ℕ)
    (s' : State) : Type 0 where
  pub status_is : status ≡ 204
  pub places : List Path
  pub can : CanRemove headers s who p places
  pub course : change_course method.Delete s.map p headers ≡ Ok tt
  pub removed : IsRemoved who.now p s s'

-- Why it can't be removed, and where that comes: first a depth that doesn't reach all the way down,
-- then the root, then that nothing stands there, or a name there that no path has which is read, and
-- then the locks in its way. A lock below the path is told as a member's.
abbrev pub CantRemove : Entries FieldValue → State → Caller → Path → Fault → Type 0
CantRemove headers s who p fault.InsufficientStorage = Unit {0}
CantRemove headers s who p fault.BadRequest =
    (¬ ReachesDown s.map p headers)
    ⊎ (ReachesDown s.map p headers × (p ≢ []) × HasOddName s.map p)
CantRemove headers s who p fault.Forbidden = ReachesDown s.map p headers × (p ≡ [])
CantRemove headers s who p fault.NotFound =
    ReachesDown s.map p headers × (p ≢ []) × (at_path s.map p ≡ None)
CantRemove headers s who p (fault.Locked path) =
    ReachesDown s.map p headers × (p ≢ []) × IsLockedIn s who p path
    × (is_lock_below p path ≡ false)
CantRemove headers s who p (fault.MemberLocked path) =
    ReachesDown s.map p headers × (p ≢ []) × IsLockedIn s who p path
    × (is_lock_below p path ≡ true)
CantRemove headers s who p e = ⊥

-- Each refusal of a DELETE: why it can't be removed, and then the conditions of HTTP.
abbrev pub FailsToRemove : Entries FieldValue → State → Caller → Path → Fault → Type 0
FailsToRemove headers s who p e =
    IsStopped (CantRemove headers s who p) ((places : List Path) × CanRemove headers s who p places)
    (change_course method.Delete s.map p headers) e
