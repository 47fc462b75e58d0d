use Rattle.std.proofs.Common.{◌≡◌, ℕ, List, IsTrue}
use Rattle.http_frames.specs.Clients.{count_begun}
use Rattle.journal_core.specs.Resting.{Carries, IsSettled, disk_behind}
use Rattle.kept_frames.specs.Giving.{EndsWithin, KeepsRecords, NotesTurns, StaysSettled}
use Rattle.kept_frames.proofs.rounds.give_turns.Given as goal

abbrev pub invariant-turns : goal.invariant-turns
invariant-turns g l = record {
  notes : NotesTurns g.S.TurnService.begins g.S.Service.answers g.S.TurnService.clocked g.S.TurnService.listed g.S.Recording.stands l.turned.numbers.items l.fn.clients l.clients l.fn.service.service l.service.service l.turned.round;
  begun : count_begun l.clients ≡ count_begun l.fn.clients;
  keeps : KeepsRecords g.D.Disk.seen g.D.Disk.may_leave g.D.Disk.is_clean l.fn.journal l.journal l.fn.output;
  stays : StaysSettled g.D.Disk.seen g.D.Disk.may_leave g.D.Disk.is_clean l.fn.journal l.journal;
  room : (records new : List (List ℕ)) → IsSettled g.D.Disk.seen g.D.Disk.may_leave g.D.Disk.is_clean l.fn.journal records → Carries l.turned.round new → EndsWithin g.D.Disk.seen g.D.Disk.is_clean l.journal new;
  usable : IsTrue (g.D.Disk.is_usable (disk_behind l.journal));
}
