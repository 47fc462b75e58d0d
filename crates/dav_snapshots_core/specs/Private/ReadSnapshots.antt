-- What the reading of a snapshot gives, beside what reading is.
use Rattle.std.specs.Prelude.{◌≡◌, ℕ, Result, Ok, Err}
use Rattle.dav_path_core.specs.declared.errors.FsError.{FsError}
use Rattle.dav_path_core.specs.declared.errors.FsError.TheVariants.{InsufficientStorage}
use Rattle.dav_path_core.specs.declared.util.Moment.{Moment}
use Rattle.dav_guarded_core.specs.Stores.{Stores}
use Rattle.dav_effects_core.specs.declared.error.ReadError.{ReadError}
use Rattle.dav_effects_core.specs.declared.error.ReadError.TheVariants.{Memory, Fault}
use Rattle.dav_effects_core.specs.declared.error.RecordError.{RecordError}
use Rattle.dav_effects_core.specs.RecordFaults.{IsFault}

-- it is what reading gives, but for memory
abbrev pub ReadsSnapshot : Result (Stores × Moment) RecordError → Result (Stores × ℕ) ℕ → Type 0
ReadsSnapshot (Ok r) read = read ≡ Ok (r.0, r.1.0)
ReadsSnapshot (Err e) read = IsFault e read

-- a refusal of the stores, of what begins with so many bytes left
abbrev pub restore_fault : ℕ → FsError → ReadError
restore_fault left InsufficientStorage = Memory
restore_fault left _ = Fault left
