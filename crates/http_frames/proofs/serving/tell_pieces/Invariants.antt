use Rattle.std.proofs.Common.{◌≡◌}
use Rattle.http_frames.specs.Clients.{count_begun}
use Rattle.http_frames.specs.TurnRuns.{TellsAll}
use Rattle.http_frames.proofs.serving.tell_pieces.Given as goal

abbrev pub invariant-loop-piece : goal.invariant-loop-piece
invariant-loop-piece g l = record { told : TellsAll l.fn.clients l.clients (g.O.Write.contents l.fn.output) (g.O.Write.contents l.output); begun : count_begun l.clients ≡ count_begun l.fn.clients }
