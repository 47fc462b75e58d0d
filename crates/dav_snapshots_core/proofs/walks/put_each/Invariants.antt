use Rattle.std.proofs.Common.{◌≡◌, ◌++◌, [], take, drop, map}
use Rattle.std.specs.List.{AllByRecursion}
use Rattle.dav_snapshots_core.specs.Private.MetPaths.{AllMet}
use Rattle.dav_snapshots_core.specs.SnapshotText.{entries_text}
use Rattle.dav_snapshots_core.specs.Snapshots.{snapshot_entry}
use Rattle.dav_snapshots_core.specs.WrittenSnapshots.{IsSnapshotEntry}
use Rattle.dav_snapshots_core.proofs.walks.put_each.Given as goal

-- what is written, with what is left behind it, is the whole
abbrev pub invariant-putting : goal.invariant-putting
invariant-putting l = record {
  text : l.out.items ++ entries_text l.before.items (map snapshot_entry (drop l.stored-index l.all)) ≡ l.fn.out.items ++ entries_text [] (map snapshot_entry l.all);
  met : AllMet l.met (take l.stored-index l.all);
  fits : AllByRecursion IsSnapshotEntry (map snapshot_entry (take l.stored-index l.all));
}
