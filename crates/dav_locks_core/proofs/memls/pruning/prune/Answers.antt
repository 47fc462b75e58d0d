use Rattle.std.proofs.Common.{◌<◌, sym, subst}
use Rattle.dav_path_core.proofs.trees.Cutting.{known_below, fewer}
use Rattle.dav_locks_core.specs.Private.LockTree.{LockTree}
use Rattle.dav_locks_core.specs.Private.Pruning.{AllNeeded, SameLocks}
use Rattle.dav_locks_core.proofs.trees.PruningLemmas.{PrunesTo, prunes_from, prunes_tree, prunes_on, prunes_end}
use Rattle.dav_locks_core.proofs.memls.pruning.prune.Goals as goal

pub loop-parent-init : goal.loop-parent-init
loop-parent-init c = (prunes_from c.args.tree.now.keyed c.args.from c.requires.shape c.requires.known c.requires.needed, c.requires.indexed)

pub loop-parent-smaller : goal.loop-parent-smaller
loop-parent-smaller c =
    let t : LockTree = c.loop-parent.tree.keyed in
    let n = c.loop-parent.node in
    let known = c.loop-parent.invariant.0.known in
    subst (λ u. known_below u u.next < known_below t t.next) (sym c.in-Some.ensures.taken.3)
    (fewer t n t.next known ((prunes_tree c.args.tree.now.keyed t n c.loop-parent.invariant.0).numbered n known).1)

pub loop-parent-preserved : goal.loop-parent-preserved
loop-parent-preserved c = (
  subst (λ u. PrunesTo c.args.tree.now.keyed u c.in-Some.parent) (sym c.in-Some.ensures.taken.3)
      (prunes_on c.args.tree.now.keyed c.loop-parent.tree.keyed c.loop-parent.node c.loop-parent.invariant.0 c.in-Some.parent c.in-Some.ensures.taken.0 c.in-Some.ensures.taken.1 c.in-Some.ensures.taken.2),
  c.take_out.ensures.indexed,
)

pub returns-clause-same : goal.returns-clause-same
returns-clause-same c =
    subst (λ u. SameLocks c.args.tree.now.keyed u) (sym c.in_default.ensures.taken.0)
    (prunes_end c.args.tree.now.keyed c.loop-parent.tree.keyed c.loop-parent.node c.loop-parent.invariant.0 c.in_default.ensures.taken.1).0

pub returns-clause-needed : goal.returns-clause-needed
returns-clause-needed c =
    subst (λ u. AllNeeded u) (sym c.in_default.ensures.taken.0)
    (prunes_end c.args.tree.now.keyed c.loop-parent.tree.keyed c.loop-parent.node c.loop-parent.invariant.0 c.in_default.ensures.taken.1).1
