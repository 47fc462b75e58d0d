use Rattle.std.proofs.Common.{◌≡◌, ◌++◌, [], false, map, sym, arith}
use Rattle.dav_notes_core.specs.Changes.{is_look}
use Rattle.dav_notes_core.specs.Noting.{note_of}
use Rattle.dav_effects_core.specs.RecordText.{notes_text}
use Rattle.dav_effects_core.specs.Records.{IsNoted}
use Rattle.dav_effects_core.proofs.AllOf.{all_more}
use Rattle.dav_effects_core.proofs.NoteLoops.{all_at, put_step, put_done}
use Rattle.dav_effects_core.proofs.pieces.put_notes.Goals as goal

pub put_note-requires : goal.put_note-requires
put_note-requires c = record {
  change = rw c.note-item.is (all_at note_of (λ n. is_look n.request.command ≡ false) c.args.notes.now c.putting.note-index _ c.requires.changes c.putting-test.true);
}

pub putting-preserved : goal.putting-preserved
putting-preserved c = record {
  text = put_step c.putting.out.items c.put_note.new.out.items c.putting.caller.items c.put_note.new.caller.items c.putting.path.items c.put_note.new.path.items
      (c.args.out.now.items ++ notes_text [] [] (map note_of c.args.notes.now)) c.args.notes.now c.putting.note-index c.note-item.result c.putting-test.true c.note-item.is
      c.in_ok-put_note.ensures.text c.in_ok-put_note.ensures.caller c.in_ok-put_note.ensures.path c.putting.invariant.text;
  fits = all_more note_of IsNoted c.args.notes.now c.putting.note-index c.note-item.result c.putting-test.true (sym c.note-item.is) c.putting.invariant.fits c.in_ok-put_note.ensures.fits;
}

pub returns-clause-text : goal.returns-clause-text
returns-clause-text c = put_done c.putting.out.items c.putting.caller.items c.putting.path.items (c.args.out.now.items ++ notes_text [] [] (map note_of c.args.notes.now)) c.args.notes.now c.putting.note-index
    (omega arith) c.putting.invariant.text
