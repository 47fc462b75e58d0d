-- What a LOCK finds at its path, which locks stand in its way, and what it leaves step by step.
use Rattle.std.specs.Prelude.{◌≡◌, ◌⊎◌, ℕ, Bool, true, false, List, [], ◌∷◌, ◌++◌, None, Err, Ok}
use Rattle.std.specs.Prelude.{IsSome, option_map, string_bytes, if◌then◌else◌}
use Rattle.dav_path_core.specs.Fronts.{Path, parent}
use Rattle.dav_path_core.specs.PathText.{PathText}
use Rattle.dav_path_core.specs.Segments.{segments}
use Rattle.dav_files_core.specs.declared.memfs.Kind.TheVariants.{Folder}
use Rattle.dav_files_core.specs.Resources.{at_path}
use Rattle.dav_locks_core.specs.Lock.{Lock}
use Rattle.dav_locks_core.specs.Locks.{discovered_locks, lock_path}
use Rattle.dav_locks_core.specs.Stale.{is_stale}
use Rattle.dav_guarded_core.specs.Requests.{Command, Refusal, Reply}
use Rattle.dav_guarded_core.specs.Step.{Serves, State}
use Rattle.dav_faults_core.specs.declared.faults.Fault.{Fault}
use Rattle.dav_faults_core.specs.declared.faults.Fault.TheVariants as fault
use Rattle.dav_methods_core.specs.declared.methods.lock.Wanted.{Wanted}
use Rattle.dav_session_core.specs.Callers.{Caller, RunBy, SameLive, asking, live}
use Rattle.dav_session_core.specs.Ends.{HasFolder}
use Rattle.dav_fields_core.specs.Fields.{Sent}
use Rattle.dav_session_core.specs.Granting.{AreAbove, HaveTokens, also_naming, granted_lock}
use Rattle.dav_session_core.specs.Granting.{with_lock}
use Rattle.dav_documents_core.specs.LockDocuments.{discovery_pieces}
use Rattle.dav_methods_core.specs.LockMethod as locking
use Rattle.dav_session_core.specs.LocksInTheWay.{IsPathOfOne, is_lock_below}
use Rattle.dav_documents_core.specs.Pieces.{written_pieces}
use Rattle.dav_fields_core.specs.Marking.{IsNone}
use Rattle.dav_session_core.specs.StoreRefusals.{put_fault}
use Rattle.dav_methods_core.specs.ToldPaths.{told_path}

-- what the code wants, as plain data
abbrev pub wanted_of : Wanted → locking.Wanted
wanted_of w =
    record {
      owner = option_map string_bytes w.owner;
      timeout = w.timeout;
      shared = w.shared;
      deep = w.deep;
    }

-- ---- what stands there

-- something stands there; or nothing does, and a file can be made
abbrev pub FoundRoom : State → Caller → Path → Bool → Type 0
FoundRoom s who p false = IsSome (at_path s.map p)
FoundRoom s who p true =
    (at_path s.map p ≡ None) × (locking.refusing_to_make s who p ≡ []) × HasFolder s.map (parent p)

-- nothing does, and none can be made
abbrev pub LacksRoom : State → Caller → Path → Fault → Type 0
LacksRoom s who p fault.InsufficientStorage = Unit {0}
LacksRoom s who p (fault.Locked at) =
    (at_path s.map p ≡ None) × IsPathOfOne (locking.refusing_to_make s who p) at
LacksRoom s who p fault.Conflict =
    (at_path s.map p ≡ None) × (locking.refusing_to_make s who p ≡ [])
    × IsNone s.map (parent p) Folder
LacksRoom s who p e = ⊥

-- All that is known before a lock is asked for: what stands there, that the path is as it is told,
-- that the lock doesn't end at once, and the tokens of the locks at the path and above.
pub record IsReadyToLock (s : State) (who : Caller) (path : PathText) (wanted : locking.Wanted)
    (missing : Bool) (above : List (List ℕ)) : Type 0 where
  pub room : FoundRoom s who (segments path.bytes) missing
  pub is_told : told_path s.map path ≡ path
  pub lasts : is_stale who.now (granted_lock s who path wanted.owner wanted.timeout wanted.shared
      wanted.deep) ≡ false
  pub have : HaveTokens s (segments path.bytes) above
  pub only : AreAbove s (segments path.bytes) above

-- ---- conflicts

-- a lock below the path is told as a member's
abbrev pub conflict_at : PathText → Fault → Fault
conflict_at path (fault.ConflictingLock at) =
    if is_lock_below (segments path.bytes) at then fault.ConflictingMember at path
    else fault.ConflictingLock at
conflict_at path e = e

-- one of these locks stands in the way, at the path or above, or below it
abbrev pub IsConflictAt : List Lock → PathText → Fault → Type 0
IsConflictAt locks path fault.InsufficientStorage = Unit {0}
IsConflictAt locks path (fault.ConflictingLock at) =
    IsPathOfOne locks at × (is_lock_below (segments path.bytes) at ≡ false)
IsConflictAt locks path (fault.ConflictingMember at other) =
    IsPathOfOne locks at × (is_lock_below (segments path.bytes) at ≡ true) × (other ≡ path)
IsConflictAt locks path e = ⊥

-- ---- once it is granted

-- nothing has changed; or, where nothing stood, an empty file was made
abbrev pub IsMadeUnder : State → Caller → List ℕ → Path → Bool → State → Type 0
IsMadeUnder s who token p false s' = SameLive who.now s s'
IsMadeUnder s who token p true s' =
    (reply : Reply) × Serves (live who.now s) (asking (also_naming who token) (Command.Put p []))
    (Ok reply) s'

-- there is no memory; or, where nothing stood, the empty file is refused
abbrev pub IsUnmade : State → Caller → List ℕ → Path → Bool → Fault → State → Type 0
IsUnmade s who token p missing e s' =
    (e ≡ fault.InsufficientStorage) ⊎ ((missing ≡ true) × ((r : Refusal) × (e ≡ put_fault false r)
    × Serves (live who.now s) (asking (also_naming who token) (Command.Put p [])) (Err r) s'))

-- a lock is granted, and told of, by what was known before
pub record IsGrantedNow (prefix : List ℕ) (s : State) (who : Caller) (path : PathText)
    (wanted : locking.Wanted) (missing : Bool) (lock : Lock) (status : ℕ) (sent : Sent)
    (s' : State) : Type 0 where
  pub grants : locking.Grants s who path wanted lock s'
  pub status_is : status ≡ (if missing then 201 else 200)
  pub tells : sent ≡ locking.lock_sent lock.token (written_pieces (discovery_pieces prefix
      who.principal who.now (discovered_locks (s.locks ++ lock ∷ []) (segments path.bytes))))

-- What a LOCK leaves that is refused: all is as it was; or memory was lacking once the lock was
-- granted.
abbrev pub LeavesLock : (Lock → Type 0) → Caller → Path → Fault → State → State → Type 0
LeavesLock Is who p e s s' =
    (RunBy who s s' × SameLive who.now s s')
    ⊎ ((e ≡ fault.InsufficientStorage) × locking.LeavesUntold Is (live who.now s) who p s')

-- The lock that was granted right before is taken back. But it stands, and nobody knows its token,
-- where one at the path or above has the same.
abbrev pub Forgets : Caller → Path → List ℕ → List (List ℕ) → State → State → Type 0
Forgets who p token above granted s' =
    (s : State) (l : Lock) → live who.now s ≡ s → live who.now granted ≡ with_lock s l
    → lock_path l ≡ p → l.token ≡ token → HaveTokens s p above → AreAbove s p above
    → locking.LeavesUntold (λ k. k ≡ l) s who p s'
