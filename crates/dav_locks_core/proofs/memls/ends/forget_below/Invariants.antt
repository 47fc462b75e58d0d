use Rattle.dav_locks_core.proofs.ends.ForgettingLemmas.{WalksForgetting}
use Rattle.dav_locks_core.proofs.memls.ends.forget_below.Given as goal

abbrev pub invariant-loop-turn : goal.invariant-loop-turn
invariant-loop-turn l = WalksForgetting l.tree l.fn.top l.fn.ends l.ends l.node l._turn
