use Rattle.std.proofs.Common.{IsTrue}
use Rattle.http_frames.specs.Frames.{unread}
use Rattle.journal_core.specs.Resting.{disk_behind}
use Rattle.kept_frames.specs.Rounds.{ServesKept}
use Rattle.kept_frames.proofs.serving.serve_kept.Given as goal

abbrev pub invariant-loop-step : goal.invariant-loop-step
invariant-loop-step g l = record {
  served : ServesKept g.S.TurnService.begins g.S.Service.answers g.S.TurnService.clocked g.S.TurnService.listed g.S.Recording.stands g.D.Disk.seen g.D.Disk.may_leave g.D.Disk.is_clean g.O.Write.contents l.fn.clients l.clients
      l.fn.service.service l.service.service l.fn.journal l.journal l.fn.output l.output (unread g.I.Read.remaining l.fn.frames) (unread g.I.Read.remaining l.frames);
  usable : IsTrue (g.D.Disk.is_usable (disk_behind l.journal));
}
