use Rattle.std.proofs.Common.{sym, ◌∙◌, subst}
use Rattle.dav_path_core.proofs.trees.Trees.{known_from_parent}
use Rattle.dav_locks_core.specs.Private.LockTree.{is_segment}
use Rattle.dav_locks_core.specs.Private.Pruning.{Cleared}
use Rattle.dav_locks_core.proofs.trees.ClearingLemmas.{clears_from, clears_on, clears_fewer, clears_end}
use Rattle.dav_path_core.proofs.walks.SiblingLemmas.{first_is_child}
use Rattle.dav_path_core.proofs.walks.AboveLemmas.{not_root}
use Rattle.dav_locks_core.proofs.memls.pruning.clear.Goals as goal

pub loop-child-init : goal.loop-child-init
loop-child-init c = (clears_from c.args.tree.now.keyed c.args.top c.requires.shape c.requires.known, c.requires.indexed)

pub take_out_below-requires-clause-known : goal.take_out_below-requires-clause-known
take_out_below-requires-clause-known c =
    let up = first_is_child is_segment c.loop-child.tree c.first_child.ensures.shape c.args.top c.in-Some.child c.loop-child.invariant.0.known (sym c.in-Some.ensures.child) in
    known_from_parent c.loop-child.tree.keyed c.in-Some.child c.args.top up

pub take_out_below-requires-clause-not_root : goal.take_out_below-requires-clause-not_root
take_out_below-requires-clause-not_root c =
    let up = first_is_child is_segment c.loop-child.tree c.first_child.ensures.shape c.args.top c.in-Some.child c.loop-child.invariant.0.known (sym c.in-Some.ensures.child) in
    not_root is_segment c.loop-child.tree.keyed c.loop-child.invariant.0.tree c.in-Some.child c.args.top up

pub loop-child-smaller : goal.loop-child-smaller
loop-child-smaller c =
    let up = first_is_child is_segment c.loop-child.tree c.first_child.ensures.shape c.args.top c.in-Some.child c.loop-child.invariant.0.known (sym c.in-Some.ensures.child) in
    clears_fewer c.args.tree.now.keyed c.loop-child.tree.keyed c.take_out_below.new.tree.keyed c.args.top c.in-Some.child c.loop-child.invariant.0 up
    (known_from_parent c.loop-child.tree.keyed c.in-Some.child c.args.top up) c.take_out_below.ensures.gone

pub loop-child-preserved : goal.loop-child-preserved
loop-child-preserved c =
    let up = first_is_child is_segment c.loop-child.tree c.first_child.ensures.shape c.args.top c.in-Some.child c.loop-child.invariant.0.known (sym c.in-Some.ensures.child) in (
      clears_on c.args.tree.now.keyed c.loop-child.tree.keyed c.take_out_below.new.tree.keyed c.args.top c.in-Some.child c.loop-child.invariant.0 up
          (known_from_parent c.loop-child.tree.keyed c.in-Some.child c.args.top up) c.take_out_below.ensures.gone c.take_out_below.ensures.shape,
      c.take_out_below.ensures.indexed,
    )

pub returns-clause-cleared : goal.returns-clause-cleared
returns-clause-cleared c =
    subst (λ u. Cleared c.args.tree.now.keyed u c.args.top) (sym c.drop_locks.ensures.set)
    (clears_end c.args.tree.now.keyed c.loop-child.tree c.args.top c.first_child.ensures.shape c.loop-child.invariant.0 (sym c.first_child.ensures.child ∙ c.in_default.is))

pub returns-clause-indexed : goal.returns-clause-indexed
returns-clause-indexed c = c.drop_locks.ensures.indexed c.loop-child.index c.loop-child.invariant.1
