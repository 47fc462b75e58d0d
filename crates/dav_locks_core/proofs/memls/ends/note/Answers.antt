use Rattle.std.proofs.Common.{Some, refl}
use Rattle.std.specs.Prelude.{option_map}
use Rattle.dav_locks_core.proofs.ends.EndLemmas.{notes_alone, notes_both}
use Rattle.dav_locks_core.proofs.memls.ends.note.Goals as goal

pub returns-clause-noted : goal.returns-clause-noted
returns-clause-noted c =
    notes_both c.args.ends.now c.note_end.new.ends _ (option_map (λ m. m.0) c.args.end) c.args.number (Some c.args.node) c.in_ok-note_end.ensures.noted
    (notes_alone c.note_end.new.ends (record { nodes = c.insert.new.self; by_end = c.note_end.new.ends.by_end }) c.args.number (Some c.args.node) c.in_default.ensures.updates refl)
