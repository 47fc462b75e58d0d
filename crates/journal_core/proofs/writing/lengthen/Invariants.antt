use Rattle.std.proofs.Common.{◌≡◌, ◌-◌, ◌<◌, ◌≤◌, ℕ, List, length, max, IsTrue, Ok}
use Rattle.journal_core.specs.Clocked.{disk_of}
use Rattle.journal_core.specs.Private.Stages.{BeginsWith, IsCounted, WritesBehind}
use Rattle.journal_core.proofs.writing.lengthen.Given as goal

-- zeros are written so far
abbrev pub invariant-writing : goal.invariant-writing
invariant-writing g l = record {
  from : l.from ≤ l.at;
  to : l.at ≤ l.to;
  len : l.from < l.at → length (g.D.Disk.seen (disk_of l.disk)) ≡ max (length (g.D.Disk.seen (disk_of l.fn.disk))) l.at;
  len_none : l.from ≡ l.at → length (g.D.Disk.seen (disk_of l.disk)) ≡ length (g.D.Disk.seen (disk_of l.fn.disk));
  most : length (g.D.Disk.seen (disk_of l.disk)) ≤ max (length (g.D.Disk.seen (disk_of l.fn.disk))) l.to;
  seen : (front : List ℕ) → length front ≤ l.from → BeginsWith front (g.D.Disk.seen (disk_of l.fn.disk)) → BeginsWith front (g.D.Disk.seen (disk_of l.disk));
  behind : WritesBehind g.D.Disk.seen g.D.Disk.may_leave l.note l.from l.fn.disk l.disk;
  counts : IsCounted {T = ℕ} (Ok 0) (g.D.Disk.faults (disk_of l.fn.disk)) (g.D.Disk.faults (disk_of l.disk)) (g.D.Disk.tally_of (disk_of l.fn.disk)) (g.D.Disk.tally_of (disk_of l.disk));
  clean : g.D.Disk.is_clean (disk_of l.disk) ≡ g.D.Disk.is_clean (disk_of l.fn.disk);
  usable : IsTrue (g.D.Disk.is_usable (disk_of l.disk));
}

abbrev pub decreases-writing : goal.decreases-writing
decreases-writing g l = l.to - l.at
