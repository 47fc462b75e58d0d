-- What a LOCK with a body asks for, what it grants, and why not (RFC 4918 sections 7.3, 7.5 and
-- 9.10).
use Rattle.std.specs.Prelude.{◌≡◌, ◌⊎◌, ℕ, Bool, true, false, List, [], ◌∷◌, ◌++◌, Option, None}
use Rattle.std.specs.Prelude.{Some, Ok, Err, IsSome, if◌then◌else◌}
use Rattle.http_header.specs.FieldValue.{FieldValue}
use Rattle.http_header.specs.HeaderMap.{Entries}
use Rattle.dav_path_core.specs.declared.util.DavMethod.TheVariants as method
use Rattle.dav_path_core.specs.Fronts.{Path, parent}
use Rattle.dav_path_core.specs.PathText.{PathText}
use Rattle.dav_path_core.specs.Segments.{segments}
use Rattle.dav_headers_core.specs.declared.davheaders.timeouts.DavTimeout.{DavTimeout}
use Rattle.dav_files_core.specs.ResourcePutting.{put}
use Rattle.dav_files_core.specs.Resources.{ResourceMap, at_path}
use Rattle.dav_locks_core.specs.Lock.{Lock}
use Rattle.dav_locks_core.specs.Locks.{discovered_locks, lock_conflicts}
use Rattle.dav_guarded_core.specs.Checks.{has, refusing}
use Rattle.dav_guarded_core.specs.Step.{State}
use Rattle.dav_faults_core.specs.declared.faults.Fault.{Fault}
use Rattle.dav_faults_core.specs.declared.faults.Fault.TheVariants as fault
use Rattle.dav_session_core.specs.Callers.{Caller, as_caller, live}
use Rattle.dav_fields_core.specs.Reaches.{reach_in}
use Rattle.dav_session_core.specs.Ends.{HasFolder}
use Rattle.dav_fields_core.specs.Fields.{Sent}
use Rattle.dav_session_core.specs.Granting.{granted_lock, stands_above, with_lock, with_token_drawn}
use Rattle.dav_documents_core.specs.LockDocuments.{discovery_pieces}
use Rattle.dav_documents_core.specs.LockInfos.{LockInfo, lock_info_in}
use Rattle.dav_fields_core.specs.LockTimeouts.{given_of, timeouts_in}
use Rattle.dav_session_core.specs.LocksInTheWay.{IsPathOfOne, is_lock_below}
use Rattle.dav_documents_core.specs.Pieces.{written_pieces}
use Rattle.dav_documents_core.specs.RefusalBodies.{xml_type}
use Rattle.dav_fields_core.specs.AnswerFields.{token_field, type_field}
use Rattle.dav_methods_core.specs.ChangeConditions.{change_course}
use Rattle.dav_methods_core.specs.Placing.{target_by}
use Rattle.dav_methods_core.specs.ToldPaths.{told_path}
use Rattle.dav_fields_core.specs.RequestRefusals.{IsLastMoment}

-- ---- what is asked for

-- the owner's element, how long the lock is to stand, whether others may hold it too, and whether
-- it covers what is below
pub record Wanted : Type 0 where
  pub owner : Option (List ℕ)
  pub timeout : Option ℕ
  pub shared : Bool
  pub deep : Bool

-- Its depth is 0, or all the way down; its `Timeout` is read; and its body asks for a lock. The
-- greatest timeout that is given may be limited.
pub record Wants (most : Option ℕ) (headers : Entries FieldValue) (body : List ℕ)
    (wanted : Wanted) : Type 0 where
  pub reaches : reach_in headers ≡ Some wanted.deep
  pub timeouts : List DavTimeout
  pub read : timeouts_in headers ≡ Some timeouts
  pub given : wanted.timeout ≡ given_of most timeouts
  pub info : LockInfo
  pub asks : lock_info_in body ≡ Some info
  pub owner_is : wanted.owner ≡ info.owner
  pub shared_is : wanted.shared ≡ info.shared

-- one of these can't be read, or is another
abbrev pub CantBeRead : Entries FieldValue → List ℕ → Type 0
CantBeRead headers body =
    (reach_in headers ≡ None) ⊎ (timeouts_in headers ≡ None) ⊎ (lock_info_in body ≡ None)

-- it is asked for before the last moment, at which a lock would end at once
abbrev pub WantsInTime : Option ℕ → Entries FieldValue → List ℕ → ℕ → Wanted → Type 0
WantsInTime most headers body now wanted =
    Wants most headers body wanted × ¬ IsLastMoment now

-- ---- what stands there

-- The locks that keep the caller from making a file at a path: those that a PUT of it asks, at the
-- path and at the folder above (RFC 4918 section 7.3).
abbrev pub refusing_to_make : State → Caller → Path → List Lock
refusing_to_make s who p = refusing s.locks (as_caller who) (target_by false p)

-- something stands there; or nothing does, and the caller may make a file there
abbrev pub HasRoom : State → Caller → Path → Type 0
HasRoom s who p =
    IsSome (at_path s.map p) ⊎ ((at_path s.map p ≡ None) × (refusing_to_make s who p ≡ [])
    × HasFolder s.map (parent p))

-- What stands there stays. Where nothing does, an empty file is made, as a PUT of the caller makes
-- it (RFC 4918 section 7.3).
abbrev pub IsMadeThere : State → Caller → Path → ResourceMap → Type 0
IsMadeThere s who p m' =
    (IsSome (at_path s.map p) × (m' ≡ s.map))
    ⊎ ((at_path s.map p ≡ None) × (refusing_to_make s who p ≡ [])
    × (put s.map p [] who.now ≡ Ok (tt, m')))

-- ---- what is done

-- There is one lock more: of this path, of the caller, and with what is wanted. The generator's
-- next token names it, and no lock stands in its way.
pub record Grants (s : State) (who : Caller) (path : PathText) (wanted : Wanted) (lock : Lock)
    (s' : State) : Type 0 where
  pub lock_is : lock ≡ granted_lock s who (told_path s.map path) wanted.owner wanted.timeout
      wanted.shared wanted.deep
  pub free : lock_conflicts s.locks (segments path.bytes) wanted.shared wanted.deep ≡ []
  pub made : IsMadeThere s who (segments path.bytes) s'.map
  pub left : live who.now s' ≡ record (with_lock s lock) { map = s'.map }

-- 200 where something stood there, else 201
abbrev pub lock_status : ResourceMap → Path → ℕ
lock_status m p = if has m p then 200 else 201

-- the token of a lock, and a document
abbrev pub lock_sent : List ℕ → List ℕ → Sent
lock_sent token document =
    record { fields = token_field token ∷ type_field xml_type ∷ []; body = document }

-- A lock is granted as it is wanted. `Lock-Token` tells its token, and the body tells all locks
-- that cover the path then.
pub record IsGranted (most : Option ℕ) (prefix : List ℕ) (headers : Entries FieldValue)
    (body : List ℕ) (s : State) (who : Caller) (path : PathText) (status : ℕ) (sent : Sent)
    (s' : State) : Type 0 where
  pub wanted : Wanted
  pub wants : Wants most headers body wanted
  pub in_time : ¬ IsLastMoment who.now
  pub course : change_course method.Lock s.map (segments path.bytes) headers ≡ Ok tt
  pub lock : Lock
  pub grants : Grants s who path wanted lock s'
  pub status_is : status ≡ lock_status s.map (segments path.bytes)
  pub tells : sent ≡ lock_sent lock.token (written_pieces (discovery_pieces prefix who.principal
      who.now (discovered_locks (s.locks ++ lock ∷ []) (segments path.bytes))))

-- ---- refusals

-- a lock stands in the way of what is wanted, at this path
abbrev pub IsInConflict : State → Path → Wanted → PathText → Type 0
IsInConflict s p wanted at = IsPathOfOne (lock_conflicts s.locks p wanted.shared wanted.deep) at

-- Each refusal of a LOCK with a body, and where it comes: first what it asks for; then the last
-- moment; then, where nothing stands there, a lock that keeps the caller from making a file, whose
-- path is told, and a folder that isn't there; then the conditions of HTTP (RFC 9110 section
-- 13.2.1); and then another lock, at the path or above, or of a member.
pub data FailsToLock (most : Option ℕ) (headers : Entries FieldValue) (body : List ℕ) (s : State)
    (who : Caller) (path : PathText) : Fault → Type 0 where
  memory : FailsToLock most headers body s who path fault.InsufficientStorage
  unread : CantBeRead headers body → FailsToLock most headers body s who path fault.BadRequest
  moment : (wanted : Wanted) → Wants most headers body wanted → IsLastMoment who.now
      → FailsToLock most headers body s who path fault.ServiceUnavailable
  above : (wanted : Wanted) (at : PathText) → WantsInTime most headers body who.now wanted
      → at_path s.map (segments path.bytes) ≡ None
      → IsPathOfOne (refusing_to_make s who (segments path.bytes)) at
      → FailsToLock most headers body s who path (fault.Locked at)
  nowhere : (wanted : Wanted) → WantsInTime most headers body who.now wanted
      → at_path s.map (segments path.bytes) ≡ None
      → refusing_to_make s who (segments path.bytes) ≡ []
      → ¬ HasFolder s.map (parent (segments path.bytes))
      → FailsToLock most headers body s who path fault.Conflict
  course : (e : Fault) (wanted : Wanted) → WantsInTime most headers body who.now wanted
      → HasRoom s who (segments path.bytes)
      → change_course method.Lock s.map (segments path.bytes) headers ≡ Err e
      → FailsToLock most headers body s who path e
  conflict : (wanted : Wanted) (at : PathText) → WantsInTime most headers body who.now wanted
      → HasRoom s who (segments path.bytes)
      → change_course method.Lock s.map (segments path.bytes) headers ≡ Ok tt
      → IsInConflict s (segments path.bytes) wanted at → is_lock_below (segments path.bytes) at ≡ false
      → FailsToLock most headers body s who path (fault.ConflictingLock at)
  member : (wanted : Wanted) (at : PathText) → WantsInTime most headers body who.now wanted
      → HasRoom s who (segments path.bytes)
      → change_course method.Lock s.map (segments path.bytes) headers ≡ Ok tt
      → IsInConflict s (segments path.bytes) wanted at → is_lock_below (segments path.bytes) at ≡ true
      → FailsToLock most headers body s who path (fault.ConflictingMember at (told_path s.map path))

-- What is left where memory is lacking once the lock is granted: the lock is taken back, and the
-- generator has given a token. But it stands, and nobody knows its token, where a lock there or
-- above has the same token, as that one would end in its place.
abbrev pub LeavesUntold : (Lock → Type 0) → State → Caller → Path → State → Type 0
LeavesUntold Is s who p s' =
    (live who.now s' ≡ with_token_drawn s) ⊎ ((lock : Lock) × (live who.now s' ≡ with_lock s lock)
    × (stands_above s p lock.token ≡ true) × Is lock)

-- it is one that the body asks for
abbrev pub IsAskedBy : List ℕ → State → Caller → PathText → Lock → Type 0
IsAskedBy body s who path lock =
    (info : LockInfo) × (lock_info_in body ≡ Some info)
    × ((timeout : Option ℕ) × (deep : Bool)
    × (lock ≡ granted_lock s who (told_path s.map path) info.owner timeout info.shared deep))
