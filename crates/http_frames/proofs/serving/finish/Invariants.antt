use Rattle.std.proofs.Common.{◌≡◌}
use Rattle.http_frames.specs.Clients.{count_begun}
use Rattle.http_frames.specs.TurnRuns.{WritesAnswers}
use Rattle.http_frames.proofs.serving.finish.Given as goal

abbrev pub invariant-loop-turn : goal.invariant-loop-turn
invariant-loop-turn g l = record {
  wrote : WritesAnswers g.S.TurnService.begins g.S.Service.answers g.S.TurnService.clocked g.S.TurnService.listed l.fn.clients l.clients l.fn.service.service l.service.service (g.O.Write.contents l.fn.output) (g.O.Write.contents l.output);
  begun : count_begun l.clients ≡ count_begun l.fn.clients;
}
