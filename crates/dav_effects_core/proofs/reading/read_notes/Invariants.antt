use Rattle.std.proofs.Common.{◌≡◌, ◌-◌, map}
use Rattle.dav_notes_core.specs.Noting.{note_of}
use Rattle.dav_effects_core.specs.RecordReading.{behind_of, start_behind, notes_at}
use Rattle.dav_effects_core.proofs.NoteLoops.{notes_front}
use Rattle.dav_effects_core.proofs.reading.read_notes.Given as goal

abbrev pub invariant-reading : goal.invariant-reading
invariant-reading l = notes_front (map note_of l.notes.items) (notes_at (l.count - l.counter) (behind_of l.caller.items l.path.items l.bodies) l.rest) ≡ notes_at l.count (start_behind l.fn.bodies) l.bytes
