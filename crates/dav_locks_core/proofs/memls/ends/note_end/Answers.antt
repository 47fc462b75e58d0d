use Rattle.std.proofs.Common.{Some, refl}
use Rattle.dav_locks_core.proofs.ends.EndLemmas.{notes_by_end}
use Rattle.dav_locks_core.proofs.memls.ends.note_end.Goals as goal

pub returns-in_ok-insert-clause-noted : goal.returns-in_ok-insert-clause-noted
returns-in_ok-insert-clause-noted c =
    rw c.in-Some.is (notes_by_end c.args.ends.now (record { nodes = c.args.ends.now.nodes; by_end = c.insert.new.self }) c.in-Some.end.0 c.args.number (Some c.args.node) c.in_ok-insert.ensures.updates refl)
