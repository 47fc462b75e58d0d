-- The faults of methods, by what the stores refuse.
use Rattle.std.specs.Prelude.{Bool, true, false}
use Rattle.dav_path_core.specs.declared.errors.FsError.TheVariants.{InsufficientStorage}
use Rattle.dav_guarded_core.specs.Requests.{Refusal, Fs, Locked, NoLock, OutOfMemory}
use Rattle.dav_faults_core.specs.declared.faults.Fault.{Fault}
use Rattle.dav_faults_core.specs.declared.faults.Fault.TheVariants as fault

-- of a PUT that the files refuse, at a path where a folder stands, or nothing
abbrev pub unputtable : Bool → Fault
unputtable true = fault.MethodNotAllowed true
unputtable false = fault.Conflict

-- of a PUT, or of a MKCOL where nothing stands
abbrev pub put_fault : Bool → Refusal → Fault
put_fault there (Fs InsufficientStorage) = fault.InsufficientStorage
put_fault there (Fs _) = unputtable there
put_fault there (Locked l) = fault.Locked l.path
put_fault there NoLock = unputtable there
put_fault there OutOfMemory = fault.InsufficientStorage

-- of a listing
abbrev pub list_fault : Refusal → Fault
list_fault (Fs InsufficientStorage) = fault.InsufficientStorage
list_fault _ = fault.NotFound
