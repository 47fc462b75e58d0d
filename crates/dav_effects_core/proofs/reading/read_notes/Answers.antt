use Rattle.std.proofs.Common.{◌≡◌, ◌++◌, ◌∷◌, [], map}
use Rattle.std.proofs.lemmas.Result.{err_from_is_err_and}
use Rattle.std.proofs.lemmas.List.{map_push}
use Rattle.dav_notes_core.specs.Noting.{note_of}
use Rattle.dav_effects_core.specs.RecordReading.{behind_of, start_behind, notes_at}
use Rattle.dav_effects_core.proofs.NoteLoops.{notes_done, notes_fail, read_step}
use Rattle.dav_effects_core.proofs.reading.read_notes.Goals as goal

pub returns-in_err-note : goal.returns-in_err-note
returns-in_err-note c =
    let p = err_from_is_err_and c.from_residual.result c.from_residual.ensures.1 in
    rw (p.1, p.2) (notes_fail c.in_err-note.field-0.0 (map note_of c.reading.notes.items) c.args.count c.reading.counter (behind_of c.reading.caller.items c.reading.path.items c.reading.bodies.now) c.reading.rest.now
    (notes_at c.args.count (start_behind c.args.bodies.now) c.args.bytes.now) c.reading-test.true c.in_err-note.ensures.reads c.reading.invariant)

pub reading-preserved : goal.reading-preserved
reading-preserved c =
    let note = c.in_ok-note.note in
    let e : map note_of c.push.new.self.items ≡ map note_of c.reading.notes.items ++ note_of note ∷ [] = rw c.in_ok-push.ensures.items (map_push _ c.reading.notes.items note) in
    rw e (read_step (map note_of c.reading.notes.items) c.args.count c.reading.counter c.reading.caller.items c.read_note.new.caller.items c.reading.path.items c.read_note.new.path.items c.reading.bodies.now c.without_body-bodies.result.now
    c.reading.rest.now c.in_ok-note.behind.now (note_of note) (notes_at c.args.count (start_behind c.args.bodies.now) c.args.bytes.now) c.reading-test.true
    c.in_ok-note.ensures.reads c.in_ok-note.ensures.caller c.in_ok-note.ensures.path c.without_body-bodies.ensures c.reading.invariant)

pub returns : goal.returns
returns c = notes_done (map note_of c.reading.notes.items) c.args.count c.reading.counter (behind_of c.reading.caller.items c.reading.path.items c.reading.bodies.now) c.reading.rest.now
    (notes_at c.args.count (start_behind c.args.bodies.now) c.args.bytes.now) c.reading-test.false c.reading.invariant
