use Rattle.std.proofs.Common.{◌≡◌, ◌+◌, ◌≤◌, ◌++◌, ℕ, List, length, max, take, IsTrue, Ok}
use Rattle.journal_core.specs.Clocked.{disk_of}
use Rattle.journal_core.specs.Private.Stages.{BeginsWith, IsCounted, WritesBehind, parts_text}
use Rattle.journal_core.proofs.writing.write_parts.Given as goal

-- the parts so far are written
abbrev pub invariant-writing : goal.invariant-writing
invariant-writing g l = record {
  at : l.at ≡ l.from + length (parts_text (take l.part-index l.round.parts.items));
  writes : (front : List ℕ) → length front ≡ l.from → BeginsWith front (g.D.Disk.seen (disk_of l.fn.disk)) → BeginsWith (front ++ parts_text (take l.part-index l.round.parts.items)) (g.D.Disk.seen (disk_of l.disk));
  len : l.from ≤ length (g.D.Disk.seen (disk_of l.fn.disk)) → length (g.D.Disk.seen (disk_of l.disk)) ≡ max (length (g.D.Disk.seen (disk_of l.fn.disk))) l.at;
  behind : WritesBehind g.D.Disk.seen g.D.Disk.may_leave l.note l.from l.fn.disk l.disk;
  counts : IsCounted {T = ℕ} (Ok 0) (g.D.Disk.faults (disk_of l.fn.disk)) (g.D.Disk.faults (disk_of l.disk)) (g.D.Disk.tally_of (disk_of l.fn.disk)) (g.D.Disk.tally_of (disk_of l.disk));
  clean : g.D.Disk.is_clean (disk_of l.disk) ≡ g.D.Disk.is_clean (disk_of l.fn.disk);
  usable : IsTrue (g.D.Disk.is_usable (disk_of l.disk));
}
