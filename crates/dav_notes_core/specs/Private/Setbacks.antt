-- What holds up one note.
use Rattle.std.specs.Prelude.{Bool, true, false}
use Rattle.dav_guarded_core.specs.Stores.{Stores}
use Rattle.dav_notes_core.specs.declared.playing.Setback.{Setback}
use Rattle.dav_notes_core.specs.declared.playing.Setback.TheVariants.{Memory, Damage}
use Rattle.dav_notes_core.specs.Noting.{Noted}
use Rattle.dav_notes_core.specs.PlayedNotes.{IsDamaged, IsShort}

abbrev pub HoldsUp : Stores → Noted → Stores → Setback → Type 0
HoldsUp s n s' Memory = IsShort s n s'
HoldsUp s n s' Damage = IsDamaged s n s'

-- of a refusal, by whether it is for want of memory
abbrev pub setback_by : Bool → Setback
setback_by true = Memory
setback_by false = Damage
