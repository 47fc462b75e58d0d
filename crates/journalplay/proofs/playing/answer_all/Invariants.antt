use Rattle.std.proofs.Common.{IsTrue}
use Rattle.journal_core.specs.Resting.{disk_behind}
use Rattle.journalplay.proofs.playing.answer_all.Given as goal

abbrev pub invariant-loop : goal.invariant-loop
invariant-loop g l = IsTrue (g.D.Disk.is_usable (disk_behind l.journal))
