use Rattle.std.proofs.Common.{◌≡◌, ◌++◌, [], take, drop, map}
use Rattle.std.specs.List.{AllByRecursion}
use Rattle.dav_snapshots_core.specs.SnapshotText.{locks_text}
use Rattle.dav_snapshots_core.specs.WrittenSnapshots.{IsSnapshotLock}
use Rattle.dav_snapshots_core.proofs.writing.put_each_lock.Given as goal

-- what is written, with what is left behind it, is the whole
abbrev pub invariant-putting : goal.invariant-putting
invariant-putting l = record {
  text : l.out.items ++ locks_text l.before.items (map (λ x. x.now) (drop l.lock-index l.locks)) ≡ l.fn.out.items ++ locks_text [] (map (λ x. x.now) l.locks);
  fits : AllByRecursion IsSnapshotLock (map (λ x. x.now) (take l.lock-index l.locks));
}
