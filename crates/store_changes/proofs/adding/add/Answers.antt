use Rattle.std.proofs.Common.{◌≡◌, ◌∷◌, ℕ, List, map, sym, ◌∙◌, ap, subst}
use Rattle.std.proofs.lemmas.Result.{err_from_is_err_and}
use Rattle.dav_notes_core.specs.Noting.{Noted, note_of}
use Rattle.dav_notes_core.specs.PlayedNotes.{NotesPlayed}
use Rattle.dav_notes_core.specs.declared.notes.Note.{Note}
use Rattle.dav_effects_core.specs.Records.{IsRecord, bytes_of_pieces}
use Rattle.store_changes.specs.Adding.{Refuses}
use Rattle.store_changes.specs.ImportedEntries.{moment_behind, notes_for, source_of}
use Rattle.store_changes.proofs.ImportLemmas.{first_makes, part_is_done, refused_as}
use Rattle.store_changes.proofs.adding.add.Goals as goal

-- the first note and the others are those of the entry
parts : (lent items : List Note) (first : Note) (rest : List Note) (ns : List Noted) → lent ≡ items → lent ≡ first ∷ rest → map note_of items ≡ ns → note_of first ∷ map note_of rest ≡ ns
parts lent items first rest ns same split is = ap (map note_of) (sym split ∙ same) ∙ is

pub returns-in_err-make-clause-cause : goal.returns-in_err-make-clause-cause
returns-in_err-make-clause-cause c =
    let p = err_from_is_err_and c.from_residual-in_err-make.result c.from_residual-in_err-make.ensures.1 in
    let source = source_of c.args.entry.now in
    let m = c.in_ok-now.now.0 in
    let s = c.args.opened.now.stores in
    let last = c.args.opened.now.last.0 in
    let e = c.in_err-make.field-0.0 in
    let both = parts c.deref-2.result.now c.in_ok-notes.notes.items c.in-Some.first.now c.in-Some.rest.now (notes_for m source) c.deref-2.ensures.value c.in-Some.ensures.cases.0 c.in_ok-notes.ensures in
    let makes = first_makes (note_of c.in-Some.first.now) (map note_of c.in-Some.rest.now) m source both in
    rw (p.1, p.2) (subst (λ (k : ℕ). Refuses s last k source e) c.in_ok-now.ensures.ok (refused_as s c.make.new.stores last m source (note_of c.in-Some.first.now) e makes c.in_err-make.ensures.cause))

pub returns-in-Ok-add_record-clause-added : goal.returns-in-Ok-add_record-clause-added
returns-in-Ok-add_record-clause-added c =
    let source = source_of c.args.entry.now in
    let m = c.in_ok-now.now.0 in
    let s = c.args.opened.now.stores in
    let both = parts c.deref-2.result.now c.in_ok-notes.notes.items c.in-Some.first.now c.in-Some.rest.now (notes_for m source) c.deref-2.ensures.value c.in-Some.ensures.cases.0 c.in_ok-notes.ensures in
    let bytes = bytes_of_pieces c.in_ok-pieces.pieces in
    record {
      moment = c.in_ok-now.ensures.ok;
      free = c.in_ok-check_free.ensures;
      played = subst (λ (ns : List Noted). NotesPlayed s ns c.play_again.new.stores) both (c.make.new.stores, c.in_ok-make.ensures.played, c.in-Ok.ensures.played);
      bytes = bytes;
      written = subst (λ (ns : List Noted). IsRecord ns bytes) (ap (map note_of) c.deref.ensures.value ∙ c.in_ok-notes.ensures) c.in_ok-pieces.ensures.record;
      joined = c.in-Ok-add_record.ensures.adds;
    }

pub returns-in-Err-clause-cause : goal.returns-in-Err-clause-cause
returns-in-Err-clause-cause c =
    let both = parts c.deref-2.result.now c.in_ok-notes.notes.items c.in-Some.first.now c.in-Some.rest.now (notes_for c.in_ok-now.now.0 (source_of c.args.entry.now)) c.deref-2.ensures.value c.in-Some.ensures.cases.0 c.in_ok-notes.ensures in
    part_is_done c.args.opened.now.stores c.make.new.stores c.args.opened.now.last.0 c.in_ok-now.now.0 (moment_behind c.args.opened.now.last.0 c.args.clock.0) (source_of c.args.entry.now) (note_of c.in-Some.first.now) (map note_of c.in-Some.rest.now) both c.in_ok-now.ensures.ok c.in_ok-make.ensures.played

pub returns-clause-cause : goal.returns-clause-cause
returns-clause-cause c =
    let both = parts c.deref-2.result.now c.in_ok-notes.notes.items c.in-Some.first.now c.in-Some.rest.now (notes_for c.in_ok-now.now.0 (source_of c.args.entry.now)) c.deref-2.ensures.value c.in-Some.ensures.cases.0 c.in_ok-notes.ensures in
    part_is_done c.args.opened.now.stores c.make.new.stores c.args.opened.now.last.0 c.in_ok-now.now.0 (moment_behind c.args.opened.now.last.0 c.args.clock.0) (source_of c.args.entry.now) (note_of c.in-Some.first.now) (map note_of c.in-Some.rest.now) both c.in_ok-now.ensures.ok c.in_ok-make.ensures.played
