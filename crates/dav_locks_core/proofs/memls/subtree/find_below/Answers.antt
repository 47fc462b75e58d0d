use Rattle.std.proofs.Common.{◌≡◌, None, true, sym, arith}
use Rattle.dav_locks_core.specs.Private.LockTree.{first_at}
use Rattle.dav_path_core.proofs.walks.WalkLemmas.{walk_from, walk_on, walk_over, walk_fits}
use Rattle.dav_locks_core.proofs.memls.subtree.find_below.Goals as goal

pub loop-turn-init : goal.loop-turn-init
loop-turn-init g c = walk_from c.args.tree.now c.node_count-turn-end.ensures.shape c.args.top (λ q. first_at (g.T.LockTest.test c.args.test.now true) c.args.tree.now.keyed q ≡ None) c.requires

pub returns-in-Some : goal.returns-in-Some
returns-in-Some g c = (c.loop-turn.invariant.under, sym c.in-Some.ensures)

pub loop-turn-preserved : goal.loop-turn-preserved
loop-turn-preserved g c =
    walk_on c.args.tree.now c.node_count-turn-end.ensures.shape c.args.top (λ q. first_at (g.T.LockTest.test c.args.test.now true) c.args.tree.now.keyed q ≡ None) c.loop-turn.node c.loop-turn._turn c.loop-turn.invariant
    (sym c.in_default.ensures) c.in-Some-next_below.next c.in-Some-next_below.ensures.step

pub returns-in-None : goal.returns-in-None
returns-in-None g c =
    walk_over c.args.tree.now c.node_count-turn-end.ensures.shape c.args.top (λ q. first_at (g.T.LockTest.test c.args.test.now true) c.args.tree.now.keyed q ≡ None) c.loop-turn.node c.loop-turn._turn c.loop-turn.invariant
    (sym c.in_default.ensures) c.in-None.ensures.step

pub unreachable-requires : goal.unreachable-requires
unreachable-requires g c =
    let fits = walk_fits c.args.tree.now c.node_count-turn-end.ensures.shape c.args.top (λ q. first_at (g.T.LockTest.test c.args.test.now true) c.args.tree.now.keyed q ≡ None) c.loop-turn.node c.loop-turn._turn c.loop-turn.invariant in
    omega (arith, fits, c.node_count-turn-end.ensures.count, c.loop-turn-test.false)
