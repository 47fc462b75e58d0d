-- The faults of a PROPPATCH, by what the stores refuse.
use Rattle.dav_path_core.specs.declared.errors.FsError.TheVariants.{InsufficientStorage}
use Rattle.dav_guarded_core.specs.Requests.{Refusal, Fs, Locked, NoLock, OutOfMemory}
use Rattle.dav_faults_core.specs.declared.faults.Fault.{Fault}
use Rattle.dav_faults_core.specs.declared.faults.Fault.TheVariants as fault

abbrev pub patch_fault : Refusal → Fault
patch_fault (Fs InsufficientStorage) = fault.InsufficientStorage
patch_fault (Fs _) = fault.NotFound
patch_fault (Locked l) = fault.Locked l.path
patch_fault NoLock = fault.NotFound
patch_fault OutOfMemory = fault.InsufficientStorage
