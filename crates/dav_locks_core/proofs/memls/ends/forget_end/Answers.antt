use Rattle.std.proofs.Common.{None, refl}
use Rattle.dav_locks_core.proofs.ends.EndLemmas.{notes_by_end}
use Rattle.dav_locks_core.proofs.memls.ends.forget_end.Goals as goal

pub returns-in-Some : goal.returns-in-Some
returns-in-Some c =
    rw c.in-Some.is (notes_by_end c.args.ends.now (record { nodes = c.args.ends.now.nodes; by_end = c.remove-node.new.self }) c.in-Some.end.0 c.args.number None c.remove-node.ensures.updates refl)
