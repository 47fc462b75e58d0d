use Rattle.std.proofs.Common.{◌≡◌, None, true}
use Rattle.dav_locks_core.specs.Private.LockTree.{first_at}
use Rattle.dav_path_core.proofs.walks.WalkLemmas.{Walked}
use Rattle.dav_locks_core.proofs.memls.subtree.find_below.Given as goal

abbrev pub invariant-loop-turn : goal.invariant-loop-turn
invariant-loop-turn g l = Walked l.tree l.fn.top (λ q. first_at (g.T.LockTest.test l.test true) l.tree.keyed q ≡ None) l.node l._turn
