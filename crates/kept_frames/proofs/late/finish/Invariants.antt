use Rattle.std.proofs.Common.{◌≡◌, IsTrue}
use Rattle.http_frames.specs.Clients.{count_begun}
use Rattle.journal_core.specs.Resting.{disk_behind}
use Rattle.kept_frames.specs.LateSteps.{WritesLate}
use Rattle.kept_frames.proofs.late.finish.Given as goal

abbrev pub invariant-loop-turn : goal.invariant-loop-turn
invariant-loop-turn g l = record {
  wrote : WritesLate g.S.TurnService.begins g.S.Service.answers g.S.TurnService.clocked g.S.TurnService.listed g.S.Recording.stands g.D.Disk.seen g.D.Disk.may_leave g.D.Disk.is_clean g.O.Write.contents l.fn.waiting l.waiting l.fn.clients
      l.clients l.fn.service.service l.service.service l.fn.journal l.journal l.fn.output l.output;
  begun : count_begun l.clients ≡ count_begun l.fn.clients;
  usable : IsTrue (g.D.Disk.is_usable (disk_behind l.journal));
}
