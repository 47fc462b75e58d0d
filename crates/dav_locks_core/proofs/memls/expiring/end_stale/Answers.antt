use Rattle.std.proofs.Common.{sym}
use Rattle.dav_locks_core.proofs.ends.ExpiringLemmas.{known_of_lock, thins_from, in_order, thins_past, thins_on, thins_same, thinned_tree, thinned_known, thinned_needed, thinned_kept, thinned_left}
use Rattle.dav_locks_core.proofs.memls.expiring.end_stale.Goals as goal

pub loop-number-init : goal.loop-number-init
loop-number-init c = (thins_from c.args.tree.now.keyed c.requires.kept.0 c.args.now.0 c.args.ends.now c.requires.kept.1, c.requires.indexed)

pub stands_at-requires : goal.stands_at-requires
stands_at-requires c = in_order c.args.tree.now.keyed c.requires.kept.0 c.args.now.0 c.args.ends.now c.requires.kept.1 c.loop-number.tree.keyed c.loop-number.ends c.loop-number.invariant.0 c.in-Some.node

pub drop_stale-requires : goal.drop_stale-requires
drop_stale-requires c = known_of_lock c.loop-number.tree.keyed c.in-Some.node c.in-Some.number (sym c.if-stands_at.ensures)

pub prune-requires-clause-shape : goal.prune-requires-clause-shape
prune-requires-clause-shape c = thinned_tree c.args.tree.now.keyed c.requires.kept.0 c.args.now.0 c.args.ends.now c.requires.kept.1 c.loop-number.tree.keyed c.loop-number.ends c.loop-number.invariant.0 c.take_ended.new.ends c.in-Some.number c.in-Some.node c.in-Some.ensures.taken c.drop_stale.new.tree.keyed (sym c.if-stands_at.ensures) c.drop_stale.ensures.set

pub prune-requires-clause-known : goal.prune-requires-clause-known
prune-requires-clause-known c = thinned_known c.args.tree.now.keyed c.requires.kept.0 c.args.now.0 c.args.ends.now c.requires.kept.1 c.loop-number.tree.keyed c.loop-number.ends c.loop-number.invariant.0 c.take_ended.new.ends c.in-Some.number c.in-Some.node c.in-Some.ensures.taken c.drop_stale.new.tree.keyed (sym c.if-stands_at.ensures) c.drop_stale.ensures.set

pub prune-requires-clause-needed : goal.prune-requires-clause-needed
prune-requires-clause-needed c = thinned_needed c.args.tree.now.keyed c.requires.kept.0 c.args.now.0 c.args.ends.now c.requires.kept.1 c.loop-number.tree.keyed c.loop-number.ends c.loop-number.invariant.0 c.take_ended.new.ends c.in-Some.number c.in-Some.node c.in-Some.ensures.taken c.drop_stale.new.tree.keyed (sym c.if-stands_at.ensures) c.drop_stale.ensures.set

pub loop-number-preserved-then-stands_at : goal.loop-number-preserved-then-stands_at
loop-number-preserved-then-stands_at c = (thins_on c.args.tree.now.keyed c.requires.kept.0 c.args.now.0 c.args.ends.now c.requires.kept.1 c.loop-number.tree.keyed c.loop-number.ends c.loop-number.invariant.0 c.take_ended.new.ends c.in-Some.number c.in-Some.node c.in-Some.ensures.taken c.drop_stale.new.tree.keyed (sym c.if-stands_at.ensures) c.drop_stale.ensures.set c.prune.new.tree.keyed c.prune.ensures.same c.prune.ensures.needed, c.prune.ensures.indexed)

pub loop-number-preserved : goal.loop-number-preserved
loop-number-preserved c = (thins_past c.args.tree.now.keyed c.requires.kept.0 c.args.now.0 c.args.ends.now c.requires.kept.1 c.loop-number.tree.keyed c.loop-number.ends c.loop-number.invariant.0 c.take_ended.new.ends c.in-Some.number c.in-Some.node c.in-Some.ensures.taken (sym c.if-stands_at.ensures), c.loop-number.invariant.1)

pub returns-clause-expires : goal.returns-clause-expires
returns-clause-expires c =
    let th = thins_same c.args.tree.now.keyed c.requires.kept.0 c.args.now.0 c.args.ends.now c.requires.kept.1 c.loop-number.tree.keyed c.loop-number.ends c.loop-number.invariant.0 c.take_ended.new.ends c.in_default.ensures.left in
    record {
      kept = λ next keeps. thinned_kept c.args.tree.now.keyed next c.args.now.0 c.args.ends.now keeps c.loop-number.tree.keyed c.take_ended.new.ends th c.in_default.ensures.taken;
      left = λ next keeps. thinned_left c.args.tree.now.keyed next c.args.now.0 c.args.ends.now keeps c.loop-number.tree.keyed c.take_ended.new.ends th c.in_default.ensures.taken;
    }

pub prune-requires-clause-indexed : goal.prune-requires-clause-indexed
prune-requires-clause-indexed c = c.drop_stale.ensures.indexed c.loop-number.index c.loop-number.invariant.1

pub returns-clause-indexed : goal.returns-clause-indexed
returns-clause-indexed c = c.loop-number.invariant.1
