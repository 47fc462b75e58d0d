use Rattle.std.proofs.Common.{◌≡◌, take, map}
use Rattle.dav_notes_core.specs.Noting.{note_of}
use Rattle.dav_notes_core.specs.PlayedNotes.{NotesPlayed}
use Rattle.dav_notes_core.proofs.playing.play_all.Given as goal

-- the notes so far are played
abbrev pub invariant-loop-note : goal.invariant-loop-note
invariant-loop-note l = record {
  ran : NotesPlayed l.fn.stores (map note_of (take l.note-index l.notes)) l.stores;
  count : l.number ≡ l.note-index;
}
