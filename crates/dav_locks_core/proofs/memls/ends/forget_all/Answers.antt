use Rattle.std.proofs.Common.{◌≡◌, None, length, ap, subst, arith}
use Rattle.dav_locks_core.specs.Private.NotedEnds.{Notes, ForgetsFirst}
use Rattle.dav_locks_core.proofs.ends.ForgettingLemmas.{forgets_none, forgets_more}
use Rattle.dav_locks_core.proofs.memls.ends.forget_all.Goals as goal

pub loop-number-init : goal.loop-number-init
loop-number-init c = forgets_none c.args.locks.now c.args.ends.now

pub loop-number-preserved : goal.loop-number-preserved
loop-number-preserved c =
    let g = c.loop-number-item.result in
    forgets_more c.args.locks.now c.loop-number.number-index c.args.ends.now c.loop-number.ends c.forget.new.ends c.loop-number.invariant c.loop-number-test.true g c.loop-number-item.is
    (subst (λ end. Notes c.loop-number.ends c.forget.new.ends end g.0 None) (ap (λ l. l.timeout_at) c.lock.view_is) c.forget.ensures)

pub returns : goal.returns
returns c =
    let all : c.loop-number.number-index ≡ length c.args.locks.now = omega (arith, c.loop-number-test.false, c.loop-number.auto) in
    subst (λ n. ForgetsFirst c.args.locks.now n c.args.ends.now c.loop-number.ends) all c.loop-number.invariant
