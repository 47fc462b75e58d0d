use Rattle.std.proofs.Common.{◌≡◌, ◌++◌, [], take, drop, map}
use Rattle.std.specs.List.{AllByRecursion}
use Rattle.dav_notes_core.specs.Noting.{note_of}
use Rattle.dav_effects_core.specs.RecordText.{notes_text}
use Rattle.dav_effects_core.specs.Records.{IsNoted}
use Rattle.dav_effects_core.proofs.pieces.put_notes.Given as goal

-- what is written, with what is left behind it, is the whole
abbrev pub invariant-putting : goal.invariant-putting
invariant-putting l = record {
  text : l.out.items ++ notes_text l.caller.items l.path.items (map note_of (drop l.note-index l.notes)) ≡ l.fn.out.items ++ notes_text [] [] (map note_of l.notes);
  fits : AllByRecursion IsNoted (map note_of (take l.note-index l.notes));
}
