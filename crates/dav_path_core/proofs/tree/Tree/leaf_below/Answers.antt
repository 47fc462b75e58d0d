use Rattle.std.proofs.Common.{ap, subst, arith}
use Rattle.dav_path_core.specs.Keyed.{IsTree}
use Rattle.dav_path_core.proofs.trees.Cutting.{descent_start, descent_next, descent_ends}
use Rattle.dav_path_core.proofs.tree.Tree.leaf_below.Goals as goal

pub loop-turn-init : goal.loop-turn-init
loop-turn-init g c = descent_start g.K.PartialEq.eq c.args.self.now.keyed (subst (λ t. IsTree g.K.PartialEq.eq t.keyed) c.self.view_is c.self.invariant.tree) c.args.id c.requires

pub returns-in-None-clause-known : goal.returns-in-None-clause-known
returns-in-None-clause-known g c = c.loop-turn.invariant.known

pub returns-in-None-clause-under : goal.returns-in-None-clause-under
returns-in-None-clause-under g c = c.loop-turn.invariant.under

pub loop-turn-preserved : goal.loop-turn-preserved
loop-turn-preserved g c = descent_next c.args.self.now.keyed c.args.id c.loop-turn.at c.loop-turn._turn c.in-Some.child c.loop-turn.invariant c.in-Some.ensures

-- the way from the root to a node is shorter than the next number
pub unreachable-requires : goal.unreachable-requires
unreachable-requires g c =
    let short = descent_ends g.K.PartialEq.eq c.args.self.now.keyed (subst (λ t. IsTree g.K.PartialEq.eq t.keyed) c.self.view_is c.self.invariant.tree) c.args.id c.loop-turn.at c.loop-turn._turn c.loop-turn.invariant in
    absurd (omega (arith, short, c.loop-turn-test.false, ap (λ t. t.keyed.next) c.self.view_is))
