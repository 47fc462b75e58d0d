use Rattle.std.proofs.Common.{sym, subst}
use Rattle.dav_guarded_core.specs.Served.{refusal_of}
use Rattle.dav_notes_core.specs.Noting.{note_of}
use Rattle.dav_notes_core.specs.Private.Setbacks.{HoldsUp}
use Rattle.dav_notes_core.proofs.PlayLemmas.{held_up}
use Rattle.dav_notes_core.proofs.playing.play_one.Goals as goal

pub returns-in-Err-clause-held_up : goal.returns-in-Err-clause-held_up
returns-in-Err-clause-held_up c =
    let note = note_of c.args.note.now in
    subst (HoldsUp c.args.stores.now note c.apply_given.new.stores) (sym c.setback_of.ensures)
    (held_up c.args.stores.now c.apply_given.new.stores note (refusal_of c.in-Err.refusal) (c.in-Err.ensures.answered note.drawn c.in-Some.ensures.some))
