use Rattle.std.proofs.Common.{sym, subst, ◌∙◌}
use Rattle.dav_path_core.specs.Segments.{segments}
use Rattle.dav_locks_core.proofs.trees.GrowingLemmas.{IsMade, IsMade-none, IsMade-more, IsMade-end, IsMade-needed, SameLocks-grown}
use Rattle.dav_locks_core.proofs.trees.PruningLemmas.{SameLocks-trans}
use Rattle.dav_locks_core.specs.Private.LockTree.{is_segment}
use Rattle.dav_locks_core.specs.Private.Pruning.{NeededBut, SameLocks}
use Rattle.dav_path_core.specs.Keyed.{IsKnown, IsTree}
use Rattle.dav_locks_core.proofs.memls.way.get_or_create_path_node.Goals as goal

pub loop-segment-init : goal.loop-segment-init
loop-segment-init c = (
  subst (λ bytes. IsMade c.args.tree.now.keyed c.args.tree.now.keyed (segments c.args.path.now.bytes) (segments bytes) 1)
      (sym (c.into_iter-segment-iterator.ensures.into_iter_gives ∙ c.segments-segment-items.ensures.value))
      (IsMade-none c.args.tree.now.keyed (segments c.args.path.now.bytes) c.requires.shape),
  c.requires.indexed,
)

pub get_or_create_child-requires-clause-shape : goal.get_or_create_child-requires-clause-shape
get_or_create_child-requires-clause-shape c = c.loop-segment.invariant.0.shape

pub get_or_create_child-requires-clause-known : goal.get_or_create_child-requires-clause-known
get_or_create_child-requires-clause-known c = c.loop-segment.invariant.0.known

pub loop-segment-preserved : goal.loop-segment-preserved
loop-segment-preserved c = (
  IsMade-more c.args.tree.now.keyed c.loop-segment.tree.keyed c.get_or_create_child.new.tree.keyed (segments c.args.path.now.bytes) (segments c.next.new.self) c.in-Some.segment.now c.loop-segment.node c.in-Ok.child
      (subst (λ rest. IsMade c.args.tree.now.keyed c.loop-segment.tree.keyed (segments c.args.path.now.bytes) rest c.loop-segment.node) c.in-Some.ensures.steps c.loop-segment.invariant.0)
      c.get_or_create_child.ensures.grown c.get_or_create_child.ensures.shape c.in-Ok.ensures.child.0 c.in-Ok.ensures.child.1 c.in-Ok.ensures.alone,
  c.get_or_create_child.ensures.indexed,
)

pub prune-requires-clause-shape : goal.prune-requires-clause-shape
prune-requires-clause-shape c = subst (IsTree is_segment) (sym c.in-Err.ensures.unchanged) c.loop-segment.invariant.0.shape

pub prune-requires-clause-known : goal.prune-requires-clause-known
prune-requires-clause-known c = subst (λ t. IsKnown t c.loop-segment.node) (sym c.in-Err.ensures.unchanged) c.loop-segment.invariant.0.known

pub prune-requires-clause-needed : goal.prune-requires-clause-needed
prune-requires-clause-needed c =
    subst (λ t. NeededBut t c.loop-segment.node) (sym c.in-Err.ensures.unchanged)
    (IsMade-needed c.args.tree.now.keyed c.loop-segment.tree.keyed (segments c.args.path.now.bytes) (segments c.loop-segment.segment-iterator) c.loop-segment.node c.requires.shape c.requires.needed c.loop-segment.invariant.0)

pub returns-in-Err-clause-same : goal.returns-in-Err-clause-same
returns-in-Err-clause-same c =
    SameLocks-trans c.args.tree.now.keyed c.get_or_create_child.new.tree.keyed c.prune.new.tree.keyed
    (subst (SameLocks c.args.tree.now.keyed) (sym c.in-Err.ensures.unchanged)
    (SameLocks-grown c.args.tree.now.keyed c.loop-segment.tree.keyed c.loop-segment.invariant.0.grown c.loop-segment.invariant.0.shape))
    c.prune.ensures.same

pub returns-clause-same : goal.returns-clause-same
returns-clause-same c = SameLocks-grown c.args.tree.now.keyed c.loop-segment.tree.keyed c.loop-segment.invariant.0.grown c.loop-segment.invariant.0.shape

pub returns-clause-node : goal.returns-clause-node
returns-clause-node c = (
  IsMade-end c.args.tree.now.keyed c.loop-segment.tree.keyed (segments c.args.path.now.bytes) (segments c.loop-segment.segment-iterator) c.loop-segment.node c.loop-segment.invariant.0 c.in-None.ensures.steps.0,
  c.loop-segment.invariant.0.known,
)

pub returns-clause-needed : goal.returns-clause-needed
returns-clause-needed c =
    IsMade-needed c.args.tree.now.keyed c.loop-segment.tree.keyed (segments c.args.path.now.bytes) (segments c.loop-segment.segment-iterator) c.loop-segment.node c.requires.shape c.requires.needed c.loop-segment.invariant.0
