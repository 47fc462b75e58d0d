use Rattle.std.proofs.Common.{IsTrue}
use Rattle.journal_core.specs.Resting.{disk_behind}
use Rattle.store_copies.proofs.taking.pass_to.Given as goal

-- the file may be written
abbrev pub invariant-passing : goal.invariant-passing
invariant-passing g l = IsTrue (g.D.Disk.is_usable (disk_behind l.journal))
