use Rattle.std.proofs.Common.{◌≡◌, ◌++◌, List, ℕ, IsTrue}
use Rattle.journal_core.specs.Format.{records_text}
use Rattle.journal_core.specs.Resting.{IsBeingRead, disk_behind}
use Rattle.journal_copies.proofs.passing.next_round.Given as goal

-- the records that were read of the round, and what reading leaves as it was
abbrev pub invariant-reading : goal.invariant-reading
invariant-reading g l = record {
  reads : (done : List (List ℕ)) → IsBeingRead g.D.Disk.seen g.D.Disk.is_clean l.initial.journal l.initial.reader done
      → (more : List (List ℕ)) × (l.text.items ≡ records_text more) × IsBeingRead g.D.Disk.seen g.D.Disk.is_clean l.journal l.reader (done ++ more);
  seen : g.D.Disk.seen (disk_behind l.journal) ≡ g.D.Disk.seen (disk_behind l.initial.journal);
  crash : (c : List ℕ) → g.D.Disk.may_leave (disk_behind l.journal) c → g.D.Disk.may_leave (disk_behind l.initial.journal) c;
  clean : IsTrue (g.D.Disk.is_clean (disk_behind l.journal)) → IsTrue (g.D.Disk.is_clean (disk_behind l.initial.journal));
  usable : IsTrue (g.D.Disk.is_usable (disk_behind l.journal));
}
