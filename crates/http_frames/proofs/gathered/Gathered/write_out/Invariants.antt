use Rattle.http_frames.specs.Gathered.{KeepsAll}
use Rattle.http_frames.proofs.gathered.Gathered.write_out.Given as goal

abbrev pub invariant-loop-turn : goal.invariant-loop-turn
invariant-loop-turn g l = KeepsAll g.O.Write.contents l.fn.self l.self
