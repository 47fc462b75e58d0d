use Rattle.std.proofs.Common.{◌≤◌, ◌+◌, sym, ap, ◌∙◌, subst}
use Rattle.std.specs.Prelude.{sum_by}
use Rattle.dav_locks_core.specs.Locks.{height}
use Rattle.dav_locks_core.specs.LockFronts.{front_count}
use Rattle.dav_locks_core.specs.Private.LockTree.{all_granted}
use Rattle.dav_locks_core.proofs.answers.FrontCountLemmas.{nodes_are_fronts, front_count-bound}
use Rattle.dav_locks_core.proofs.memls.MemLs.node_count.Goals as goal

pub returns-clause-count : goal.returns-clause-count
returns-clause-count c =
    c.node_count.ensures.count
    ∙ nodes_are_fronts c.self.inside.tree.keyed (all_granted c.self.inside.tree.keyed) c.self.inside.next c.self.invariant.kept.tree.list.represents c.self.invariant.kept.tree.needed
    ∙ ap front_count c.self.view_is

pub returns-clause-bound : goal.returns-clause-bound
returns-clause-bound c =
    let count = c.node_count.ensures.count
    ∙ nodes_are_fronts c.self.inside.tree.keyed (all_granted c.self.inside.tree.keyed) c.self.inside.next c.self.invariant.kept.tree.list.represents c.self.invariant.kept.tree.needed
    ∙ ap front_count c.self.view_is in
    subst (λ n. n ≤ 1 + sum_by height c.args.self.now) (sym count) (front_count-bound c.args.self.now)
