use Rattle.std.proofs.Common.{arith}
use Rattle.dav_locks_core.proofs.ends.ForgettingLemmas.{Gone, walks_from, walks_on, walks_over}
use Rattle.dav_path_core.proofs.walks.WalkLemmas.{walk_fits}
use Rattle.dav_locks_core.proofs.memls.ends.forget_below.Goals as goal

pub loop-turn-init : goal.loop-turn-init
loop-turn-init c = walks_from c.args.tree.now c.node_count-turn-end.ensures.shape c.args.top c.args.ends.now c.requires.known

pub next_below-requires-clause-known : goal.next_below-requires-clause-known
next_below-requires-clause-known c = c.loop-turn.invariant.walked.stands.known

pub next_below-requires-clause-under : goal.next_below-requires-clause-under
next_below-requires-clause-under c = c.loop-turn.invariant.walked.under

pub loop-turn-preserved : goal.loop-turn-preserved
loop-turn-preserved c = walks_on c.args.tree.now c.node_count-turn-end.ensures.shape c.args.top c.args.ends.now c.requires.ends c.loop-turn.ends c.forget_all.new.ends c.loop-turn.node c.loop-turn._turn c.loop-turn.invariant c.locks_at.result.now c.locks_at.ensures c.forget_all.ensures (c.requires.in_order c.loop-turn.node) c.in-Some.next c.in-Some.ensures.step

pub returns-in-None : goal.returns-in-None
returns-in-None c = walks_over c.args.tree.now c.node_count-turn-end.ensures.shape c.args.top c.args.ends.now c.requires.ends c.loop-turn.ends c.forget_all.new.ends c.loop-turn.node c.loop-turn._turn c.loop-turn.invariant c.locks_at.result.now c.locks_at.ensures c.forget_all.ensures (c.requires.in_order c.loop-turn.node) c.in-None.ensures.step

pub unreachable-requires : goal.unreachable-requires
unreachable-requires c =
    let fits = walk_fits c.args.tree.now c.node_count-turn-end.ensures.shape c.args.top (Gone c.args.tree.now c.node_count-turn-end.ensures.shape c.args.top c.args.ends.now c.loop-turn.ends) c.loop-turn.node c.loop-turn._turn c.loop-turn.invariant.walked in
    omega (arith, fits, c.node_count-turn-end.ensures.count, c.loop-turn-test.false)
