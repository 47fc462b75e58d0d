use Rattle.std.proofs.Common.{◌++◌, sym, ap, ◌∙◌}
use Rattle.dav_path_core.specs.Segments.{segments}
use Rattle.dav_locks_core.specs.Private.LockTree.{covering_down}
use Rattle.dav_locks_core.proofs.answers.DiscoverLemmas.{down-step, down-stuck, down-end, some_above, some_at_end}
use Rattle.dav_locks_core.proofs.answers.LockListLemmas.{on_err}
use Rattle.dav_locks_core.proofs.memls.way.covering_locks.Goals as goal

pub loop-segment-preserved : goal.loop-segment-preserved
loop-segment-preserved c =
    let t = c.args.tree.now.keyed in
    c.loop-segment.invariant ∙ ap (λ p. c.loop-segment.covering.items ++ covering_down t c.loop-segment.node p) c.in-Some.ensures.steps
    ∙ down-step t c.loop-segment.node c.in-Some-child_of.child c.in-Some.segment.now (segments c.next.new.self) c.loop-segment.covering.items c.add_copies.new.covering.items c.locks_at.result.now
    c.locks_at.ensures c.in_ok-add_copies.ensures.added (sym c.in-Some-child_of.ensures)

pub returns-in-None-child_of-clause-copies : goal.returns-in-None-child_of-clause-copies
returns-in-None-child_of-clause-copies c =
    let t = c.args.tree.now.keyed in
    sym (c.loop-segment.invariant ∙ ap (λ p. c.loop-segment.covering.items ++ covering_down t c.loop-segment.node p) c.in-Some.ensures.steps
    ∙ down-stuck t c.loop-segment.node c.in-Some.segment.now (segments c.next.new.self) c.loop-segment.covering.items c.add_copies.new.covering.items c.locks_at.result.now
    c.locks_at.ensures c.in_ok-add_copies.ensures.added (sym c.in-None-child_of.ensures))

pub returns-clause-copies : goal.returns-clause-copies
returns-clause-copies c =
    let t = c.args.tree.now.keyed in
    sym (c.loop-segment.invariant ∙ ap (λ p. c.loop-segment.covering.items ++ covering_down t c.loop-segment.node p) c.in-None.ensures.steps.0
    ∙ down-end t c.loop-segment.node c.loop-segment.covering.items c.add_copies-2.new.covering.items c.locks_at-2.result.now c.locks_at-2.ensures c.in_ok-add_copies-2.ensures.added)

pub returns-in_err-add_copies-clause-refused : goal.returns-in_err-add_copies-clause-refused
returns-in_err-add_copies-clause-refused c =
    let t = c.args.tree.now.keyed in
    let n = c.loop-segment.node in
    let whole = c.loop-segment.invariant ∙ ap (λ p. c.loop-segment.covering.items ++ covering_down t n p) c.in-Some.ensures.steps in
    on_err c.from_residual.result
    (some_above t n c.loop-segment.covering.items (covering_down t 1 (segments c.args.path.now.bytes)) c.locks_at.result.now c.locks_at.ensures c.in-Some.segment.now (segments c.next.new.self) whole c.in_err-add_copies.ensures.refused)

pub returns-in_err-add_copies-2-clause-refused : goal.returns-in_err-add_copies-2-clause-refused
returns-in_err-add_copies-2-clause-refused c =
    let t = c.args.tree.now.keyed in
    let n = c.loop-segment.node in
    let whole = c.loop-segment.invariant ∙ ap (λ p. c.loop-segment.covering.items ++ covering_down t n p) c.in-None.ensures.steps.0 in
    on_err c.from_residual-in_err-add_copies-2.result
    (some_at_end t n c.loop-segment.covering.items (covering_down t 1 (segments c.args.path.now.bytes)) c.locks_at-2.result.now c.locks_at-2.ensures whole c.in_err-add_copies-2.ensures.refused)
