-- What private calls of `Guarded` answer.
use Rattle.std.specs.Prelude.{◌≡◌, ◌⊎◌, ℕ, List, Result, Ok, Err, Contains}
use Rattle.dav_path_core.specs.declared.errors.FsError.{FsError}
use Rattle.dav_path_core.specs.declared.errors.FsError.TheVariants.{InsufficientStorage}
use Rattle.dav_files_core.specs.Resources.{ResourceMap}
use Rattle.dav_locks_core.specs.Lock.{Lock as LockRecord}
use Rattle.dav_locks_core.specs.Locks.{LockCaller}
use Rattle.dav_locks_core.specs.declared.ls.LockError.{LockError}
use Rattle.dav_locks_core.specs.declared.ls.LockError.TheVariants.{Conflict, OutOfMemory as NoRoom}
use Rattle.dav_locks_core.specs.declared.ls.RefreshError.{RefreshError}
use Rattle.dav_guarded_core.specs.declared.guarded.requests.Reply.{Reply}
use Rattle.dav_guarded_core.specs.declared.guarded.requests.Reply.TheVariants.{Done}
use Rattle.dav_guarded_core.specs.declared.guarded.requests.Refusal.{Refusal}
use Rattle.dav_guarded_core.specs.declared.guarded.requests.Refusal.TheVariants.{Locked, NoLock, OutOfMemory}
use Rattle.dav_guarded_core.specs.Requests as plain
use Rattle.dav_guarded_core.specs.Checks.{Check, refusing, MayLack}
use Rattle.dav_guarded_core.specs.ResourceStep.{Does, MayLackOnMap}
use Rattle.dav_guarded_core.specs.Served.{reply_of}

-- a refusal of some checks: it shows a lock that refuses one of them, or there is no memory to make them
abbrev pub RefusedBy : List LockRecord → LockCaller → List Check → Refusal → Type 0
RefusedBy locks who ks (Locked lock) = Contains (refusing locks who ks) lock
RefusedBy locks who ks OutOfMemory = MayLack locks who ks
RefusedBy locks who ks _ = ⊥

-- what a command on the map does at a moment; refused, it leaves the map as it was, and out of memory comes
-- only where its work may lack memory
abbrev pub DoesOnMap : ResourceMap → plain.Command → ℕ → Result Reply FsError → ResourceMap → Type 0
DoesOnMap m command now (Ok reply) m' = Does m command now (Ok (reply_of reply)) m'
DoesOnMap m command now (Err e) m' =
    (m' ≡ m) × (((e ≡ InsufficientStorage) × MayLackOnMap m command now) ⊎ Does m command now (Err e) m)

-- a call on files that is done has nothing to tell
abbrev pub with_nothing : {A : Type 0} → Result A FsError → Result Reply FsError
with_nothing (Ok x) = Ok Done
with_nothing (Err e) = Err e

-- what a refused call on locks is as a refusal
abbrev pub refused_by : LockError → Refusal
refused_by (Conflict lock) = Locked lock
refused_by NoRoom = OutOfMemory

-- the same of a refused refresh
abbrev pub unrefreshed_by : RefreshError → Refusal
unrefreshed_by RefreshError.NoLock = NoLock
unrefreshed_by RefreshError.OutOfMemory = OutOfMemory
