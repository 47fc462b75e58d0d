use Rattle.std.proofs.Common.{◌≡◌, ◌++◌, ◌||◌, take, filter}
use Rattle.dav_locks_core.specs.Private.LockTree.{locks_of}
use Rattle.dav_locks_core.proofs.memls.way.add_copies.Given as goal

abbrev pub invariant-loop-lock : goal.invariant-loop-lock
invariant-loop-lock l = l.covering.items ≡ l.fn.covering.items ++ filter (λ l'. l.at_path || l'.deep) (locks_of (take l.lock-index l.granted))
