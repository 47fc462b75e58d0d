use Rattle.std.proofs.Common.{◌≡◌, ◌++◌, take, drop}
use Rattle.dav_methods_core.specs.RefreshMethod.{retimed_locks}
use Rattle.dav_methods_core.proofs.methods.refresh.retime.Given as goal

-- those that are done, and the others once they are, make the whole
abbrev pub invariant-loop-lock : goal.invariant-loop-lock
invariant-loop-lock l = take l.lock-index l.lock-items ++ retimed_locks l.now.0 l.token l.timeout (drop l.lock-index l.lock-items) ≡ retimed_locks l.now.0 l.token l.timeout l.fn.locks
