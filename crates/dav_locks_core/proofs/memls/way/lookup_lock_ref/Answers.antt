use Rattle.std.proofs.Common.{None, sym, ap, ◌∙◌}
use Rattle.dav_path_core.specs.Segments.{segments}
use Rattle.dav_locks_core.specs.Private.LockTree.{lookup_lock}
use Rattle.dav_locks_core.proofs.trees.WayLemmas.{way-end, way-found, way-down, way-stuck}
use Rattle.dav_locks_core.proofs.memls.way.lookup_lock_ref.Goals as goal

pub loop-segment-init : goal.loop-segment-init
loop-segment-init g c =
    ap (λ bytes. lookup_lock (g.T.LockTest.test c.args.test.now) c.args.tree.now.keyed 1 (segments bytes))
    (sym (c.into_iter-segment-iterator.ensures.into_iter_gives ∙ c.segments-segment-items.ensures.value))

pub returns-in-Some-first_at : goal.returns-in-Some-first_at
returns-in-Some-first_at g c =
    let test = g.T.LockTest.test c.args.test.now in
    let t = c.args.tree.now.keyed in
    sym (c.loop-segment.invariant ∙ ap (lookup_lock test t c.loop-segment.node) c.in-Some.ensures.steps
    ∙ way-found test t c.loop-segment.node c.in-Some.segment.now (segments c.next.new.self) c.in-Some-first_at.place c.in-Some-first_at.ensures)

pub loop-segment-preserved : goal.loop-segment-preserved
loop-segment-preserved g c =
    let test = g.T.LockTest.test c.args.test.now in
    let t = c.args.tree.now.keyed in
    c.loop-segment.invariant ∙ ap (lookup_lock test t c.loop-segment.node) c.in-Some.ensures.steps
    ∙ way-down test t c.loop-segment.node c.in-Some.segment.now (segments c.next.new.self) c.in-Some-child_of.child c.in_default.ensures c.in-Some-child_of.ensures

pub returns-in-None-child_of : goal.returns-in-None-child_of
returns-in-None-child_of g c =
    let test = g.T.LockTest.test c.args.test.now in
    let t = c.args.tree.now.keyed in
    sym (c.loop-segment.invariant ∙ ap (lookup_lock test t c.loop-segment.node) c.in-Some.ensures.steps
    ∙ way-stuck test t c.loop-segment.node c.in-Some.segment.now (segments c.next.new.self) c.in_default.ensures c.in-None-child_of.ensures)

pub returns-in-Some-first_at-2 : goal.returns-in-Some-first_at-2
returns-in-Some-first_at-2 g c =
    let test = g.T.LockTest.test c.args.test.now in
    let t = c.args.tree.now.keyed in
    sym (c.loop-segment.invariant ∙ ap (lookup_lock test t c.loop-segment.node) c.in-None.ensures.steps.0
    ∙ way-end test t c.loop-segment.node _ c.in-Some-first_at-2.ensures)

pub returns-in-None-first_at : goal.returns-in-None-first_at
returns-in-None-first_at g c =
    let test = g.T.LockTest.test c.args.test.now in
    let t = c.args.tree.now.keyed in
    sym (c.loop-segment.invariant ∙ ap (lookup_lock test t c.loop-segment.node) c.in-None.ensures.steps.0
    ∙ way-end test t c.loop-segment.node None c.in-None-first_at.ensures)
