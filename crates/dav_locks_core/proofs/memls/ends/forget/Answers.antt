use Rattle.std.proofs.Common.{None, refl}
use Rattle.std.specs.Prelude.{option_map}
use Rattle.dav_locks_core.proofs.ends.EndLemmas.{notes_alone, notes_both}
use Rattle.dav_locks_core.proofs.memls.ends.forget.Goals as goal

pub returns : goal.returns
returns c =
    notes_both c.args.ends.now c.forget_end.new.ends _ (option_map (λ m. m.0) c.args.end) c.args.number None c.forget_end.ensures
    (notes_alone c.forget_end.new.ends (record { nodes = c.remove-node.new.self; by_end = c.forget_end.new.ends.by_end }) c.args.number None c.remove-node.ensures.updates refl)
