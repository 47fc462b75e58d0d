use Rattle.std.proofs.Common.{◌≡◌, take, map}
use Rattle.std.specs.List.{flat_map}
use Rattle.dav_notes_core.specs.Noting.{note_of}
use Rattle.dav_effects_core.specs.RecordText.{bodies_text}
use Rattle.dav_effects_core.proofs.pieces.bodies_of.Given as goal

abbrev pub invariant-adding : goal.invariant-adding
invariant-adding l = flat_map (λ b. b) l.bodies.items ≡ bodies_text (map note_of (take l.note-index l.notes))
