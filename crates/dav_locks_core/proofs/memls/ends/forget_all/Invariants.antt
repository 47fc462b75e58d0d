use Rattle.dav_locks_core.specs.Private.NotedEnds.{ForgetsFirst}
use Rattle.dav_locks_core.proofs.memls.ends.forget_all.Given as goal

abbrev pub invariant-loop-number : goal.invariant-loop-number
invariant-loop-number l = ForgetsFirst l.fn.locks l.number-index l.fn.ends l.ends
