use Rattle.std.proofs.Common.{◌≡◌, IsTrue}
use Rattle.http_frames.specs.Clients.{count_begun}
use Rattle.journal_core.specs.Resting.{disk_behind}
use Rattle.kept_frames.specs.Rounds.{WritesKept}
use Rattle.kept_frames.proofs.serving.finish.Given as goal

abbrev pub invariant-loop-round : goal.invariant-loop-round
invariant-loop-round g l = record {
  wrote : WritesKept g.S.TurnService.begins g.S.Service.answers g.S.TurnService.clocked g.S.TurnService.listed g.S.Recording.stands g.D.Disk.seen g.D.Disk.may_leave g.D.Disk.is_clean g.O.Write.contents l.fn.clients l.clients
      l.fn.service.service l.service.service l.fn.journal l.journal l.fn.output l.output;
  begun : count_begun l.clients ≡ count_begun l.fn.clients;
  usable : IsTrue (g.D.Disk.is_usable (disk_behind l.journal));
}
