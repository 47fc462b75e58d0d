use Rattle.std.proofs.Common.{Some, None, ap, refl, arith}
use Rattle.std.specs.Prelude.{is_some}
use Rattle.dav_locks_core.proofs.ends.EndLemmas.{first_end, notes_alone, notes_both, notes_by_end}
use Rattle.dav_locks_core.proofs.memls.ends.take_ended.Goals as goal

pub returns-in_default-clause-taken : goal.returns-in_default-clause-taken
returns-in_default-clause-taken c = λ e g n h.
    let later = first_end c.in-Some.key.now e g (c.in-Some.ensures.least (e, g) (ap is_some h)) in
    omega (arith, later, c.if-key-now.false)

pub returns-in-Some-pop_first-clause-taken : goal.returns-in-Some-pop_first-clause-taken
returns-in-Some-pop_first-clause-taken c =
    let key = c.in-Some-pop_first.key in
    let looked_at = c.in-Some.key.now in
    let sooner = first_end key looked_at.0 looked_at.1 (c.in-Some-pop_first.ensures.least looked_at (ap is_some c.in-Some.ensures.value)) in
    record {
      end = key.0;
      has_come = omega (arith, sooner, c.if-key-now.true);
      was = c.in-Some-pop_first.ensures.value;
      gone = notes_both c.args.ends.now (record { nodes = c.args.ends.now.nodes; by_end = c.pop_first.new.self }) _ (Some key.0) key.1 None
          (notes_by_end c.args.ends.now (record { nodes = c.args.ends.now.nodes; by_end = c.pop_first.new.self }) key.0 key.1 None c.in-Some-pop_first.ensures.updates refl)
          (notes_alone (record { nodes = c.args.ends.now.nodes; by_end = c.pop_first.new.self }) (record { nodes = c.remove-node.new.self; by_end = c.pop_first.new.self }) key.1 None c.remove-node.ensures.updates refl);
    }
