-- What an error of the reading of a record says (own).
use Rattle.std.specs.Prelude.{◌≡◌, ◌-◌, ℕ, List, map, Result, Ok, Err}
use Rattle.std.specs.Global.{Vec}
use Rattle.dav_notes_core.specs.declared.notes.Note.{Note}
use Rattle.dav_notes_core.specs.Noting.{Noted, note_of}
use Rattle.dav_effects_core.specs.declared.error.ReadError.{ReadError}
use Rattle.dav_effects_core.specs.declared.error.ReadError.TheVariants.{Memory, Fault}
use Rattle.dav_effects_core.specs.declared.error.RecordError.{RecordError}
use Rattle.dav_effects_core.specs.declared.error.RecordError.TheVariants.{OutOfMemory, Damaged}

-- the fault stands at this byte; nothing is said of memory
abbrev pub IsFault : {A : Type 0} → RecordError → Result A ℕ → Type 0
IsFault OutOfMemory read = Unit {0}
IsFault (Damaged at) read = read ≡ Err at

-- it is what reading gives, but for memory
abbrev pub ReadsRecord : Result (Vec Note) RecordError → Result (List Noted) ℕ → Type 0
ReadsRecord (Ok notes) read = read ≡ Ok (map note_of notes.items)
ReadsRecord (Err e) read = IsFault e read

-- where a field stands that is not read, by where the bytes end
abbrev pub record_fault : ℕ → ReadError → RecordError
record_fault end Memory = OutOfMemory
record_fault end (Fault left) = Damaged (end - left)
