use Rattle.std.proofs.Common.{sym, ap, ◌∙◌}
use Rattle.dav_path_core.specs.Segments.{segments}
use Rattle.dav_locks_core.specs.Private.LockTree.{node_below}
use Rattle.dav_locks_core.proofs.walks.SubtreeLemmas.{node_at-here, node_at-step, node_at-stuck}
use Rattle.dav_locks_core.proofs.memls.way.lookup_node_ref.Goals as goal

pub loop-segment-init : goal.loop-segment-init
loop-segment-init c =
    ap (λ bytes. node_below c.args.tree.now.keyed 1 (segments bytes)) (sym (c.into_iter-segment-iterator.ensures.into_iter_gives ∙ c.segments-segment-items.ensures.value))

pub loop-segment-preserved : goal.loop-segment-preserved
loop-segment-preserved c =
    let t = c.args.tree.now.keyed in
    c.loop-segment.invariant ∙ ap (node_below t c.loop-segment.node) c.in-Some.ensures.steps
    ∙ node_at-step t c.loop-segment.node c.in-Some-child_of.child c.in-Some.segment.now (segments c.next.new.self) (sym c.in-Some-child_of.ensures)

pub returns-in-None-child_of : goal.returns-in-None-child_of
returns-in-None-child_of c =
    let t = c.args.tree.now.keyed in
    sym (c.loop-segment.invariant ∙ ap (node_below t c.loop-segment.node) c.in-Some.ensures.steps
    ∙ node_at-stuck t c.loop-segment.node c.in-Some.segment.now (segments c.next.new.self) (sym c.in-None-child_of.ensures))

pub returns : goal.returns
returns c =
    let t = c.args.tree.now.keyed in
    sym (c.loop-segment.invariant ∙ ap (node_below t c.loop-segment.node) c.in-None.ensures.steps.0 ∙ node_at-here t c.loop-segment.node)
