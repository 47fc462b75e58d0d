use Rattle.std.proofs.Common.{ℕ, ◌+◌, map, sym, subst, ap}
use Rattle.dav_notes_core.specs.Noting.{note_of}
use Rattle.dav_notes_core.specs.PlayedNotes.{StopsAt}
use Rattle.dav_notes_core.specs.Private.Setbacks.{HoldsUp}
use Rattle.dav_notes_core.proofs.PlayLemmas.{played_more, reached_here}
use Rattle.dav_notes_core.proofs.playing.play_all.Goals as goal

pub returns-in-Err-Memory-clause-stops : goal.returns-in-Err-Memory-clause-stops
returns-in-Err-Memory-clause-stops c = record {
  number = c.loop-note.note-index;
  note = note_of c.note-item.result;
  mid = c.loop-note.stores;
  reached = reached_here c.args.stores.now c.loop-note.stores c.args.notes.now c.loop-note.note-index c.note-item.result c.loop-note-test.true c.note-item.is c.loop-note.invariant.ran;
  short = subst (HoldsUp c.loop-note.stores (note_of c.note-item.result) c.play_one.new.stores) c.in-Err-Memory.field-0-is c.in-Err-Memory.ensures.held_up;
}

pub returns-in-Err-Damage-clause-stops : goal.returns-in-Err-Damage-clause-stops
returns-in-Err-Damage-clause-stops c =
    subst (λ (number : ℕ). StopsAt c.args.stores.now (map note_of c.args.notes.now) number c.play_one.new.stores) (sym c.loop-note.invariant.count) (record {
      note = note_of c.note-item.result;
      mid = c.loop-note.stores;
      reached = reached_here c.args.stores.now c.loop-note.stores c.args.notes.now c.loop-note.note-index c.note-item.result c.loop-note-test.true c.note-item.is c.loop-note.invariant.ran;
      damaged = subst (HoldsUp c.loop-note.stores (note_of c.note-item.result) c.play_one.new.stores) c.in-Err-Damage.field-0-is c.in-Err-Damage.ensures.held_up;
    })

pub loop-note-preserved : goal.loop-note-preserved
loop-note-preserved c = record {
  ran = played_more c.args.stores.now c.loop-note.stores c.play_one.new.stores c.args.notes.now c.loop-note.note-index c.note-item.result c.loop-note-test.true c.note-item.is
      c.loop-note.invariant.ran c.in-Ok.ensures.played;
  count = ap (λ (k : ℕ). k + 1) c.loop-note.invariant.count;
}
