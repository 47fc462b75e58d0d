use Rattle.store_changes.proofs.EndedLockLemmas.{Passed}
use Rattle.store_changes.proofs.ending.lock_with.Given as goal

-- none of the locks before is the one
abbrev pub invariant-looking : goal.invariant-looking
invariant-looking l = Passed l.token l.now.0 l.stores.locks l.lock-iterator
