use Rattle.std.proofs.Common.{◌≡◌}
use Rattle.http_frames.specs.Clients.{count_begun}
use Rattle.http_frames.specs.TurnRuns.{TellsAll}
use Rattle.kept_frames.proofs.rounds.tell_each.Given as goal

abbrev pub invariant-loop-number : goal.invariant-loop-number
invariant-loop-number g l = record { told : TellsAll l.fn.clients l.clients (g.O.Write.contents l.fn.output) (g.O.Write.contents l.output); begun : count_begun l.clients ≡ count_begun l.fn.clients }
