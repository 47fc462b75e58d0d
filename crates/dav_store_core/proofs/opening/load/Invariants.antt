use Rattle.std.proofs.Common.{◌≡◌, ◌≤◌, [], IsTrue}
use Rattle.journal_core.specs.JournalReading.{header_of}
use Rattle.journal_core.specs.Resting.{IsBeingRead, disk_behind}
use Rattle.dav_store_core.specs.Loading.{IsLoading, WritesNothing}
use Rattle.dav_store_core.proofs.opening.load.Given as goal

-- the records so far are played
abbrev pub invariant-loading : goal.invariant-loading
invariant-loading g l = record {
  loading : IsBeingRead g.D.Disk.seen g.D.Disk.is_clean l.fn.journal l.fn.reader [] → IsLoading g.D.Disk.seen g.D.Disk.is_clean l.journal l.reader (header_of l.fn.reader) l.number l.opened.stores l.opened.last.0;
  begun : header_of l.reader ≡ header_of l.fn.reader;
  faults : g.D.Disk.faults (disk_behind l.fn.journal) ≤ g.D.Disk.faults (disk_behind l.journal);
  nothing : WritesNothing g.D.Disk.seen g.D.Disk.may_leave g.D.Disk.is_clean l.note l.fn.journal l.journal;
  usable : IsTrue (g.D.Disk.is_usable (disk_behind l.journal));
}
