use Rattle.std.proofs.Common.{◌≡◌, IsTrue}
use Rattle.journal_core.specs.Resting.{disk_behind}
use Rattle.store_changes.specs.KeptImports.{ImportsOn}
use Rattle.store_changes.proofs.importing.import_all.Given as goal

-- the import goes on, and so does the disk
abbrev pub invariant-importing : goal.invariant-importing
invariant-importing g l = record {
  usable : IsTrue (g.D.Disk.is_usable (disk_behind l.journal));
  keeps : ImportsOn g.D.Disk.seen g.D.Disk.may_leave g.D.Disk.is_clean l.fn.journal l.fn.import.added l.journal l.import.added;
  clean : g.D.Disk.is_clean (disk_behind l.journal) ≡ g.D.Disk.is_clean (disk_behind l.fn.journal);
}
