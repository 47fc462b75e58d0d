use Rattle.std.proofs.Common.{List, ℕ, IsTrue}
use Rattle.journal_core.specs.JournalReading.{IsReading}
use Rattle.journal_copies.specs.DiskLooks.{LooksAt, LooksOnDisk, disk_in}
use Rattle.journal_copies.proofs.adopting.find_break.Given as goal

-- it was read up to here, and nothing else was done
abbrev pub invariant-reading : goal.invariant-reading
invariant-reading g l =
    let seen = g.D.Disk.seen in
    let is_clean = g.D.Disk.is_clean in
    IsTrue (g.D.Disk.is_usable (disk_in l.file)) × LooksOnDisk seen g.D.Disk.may_leave is_clean g.D.Disk.faults l.note l.fn.file l.file
    × (LooksAt seen is_clean l.fn.file (seen (disk_in l.fn.file)) 0 → (done : List (List ℕ)) × IsReading (LooksAt seen is_clean) (λ k. IsTrue (is_clean (disk_in k))) l.file l.reader (seen (disk_in l.fn.file)) done)
